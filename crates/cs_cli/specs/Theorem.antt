-- What the words of `check`, `judge`, `make` and `run` say of the bytes of their files.
use Rattle.std.specs.Prelude.{◌≡◌, ◌⊎◌, ℕ, List, [], ◌∷◌, ◌++◌, Option, Some, None, Ok, ⊤, position}
use Rattle.cs_args.specs.Asked.{Text}
use Rattle.sha2.specs.Sha256.{sha256}
use Rattle.cs_crontab.specs.Crontab.{Table}
use Rattle.cs_crontab.specs.Faults.{Means}
use Rattle.cs_anacrontab.specs.Anacrontab.{Table as JobTable, no_lines as no_jobs}
use Rattle.cs_anacrontab.specs.Faults.{Means as MeansJobs}
use Rattle.cs_owner.specs.Owners.{AreOwnersOf, IsUnowned}
use Rattle.cs_owner.specs.declared.owners.Unowned.{Unowned}
use Rattle.cs_place.specs.Places.{places_of}
use Rattle.cs_place.specs.declared.places.Place.{Place}
use Rattle.cs_history.specs.Plan.{IsReached}
use Rattle.cs_history.specs.Calm.{IsCalm}
use Rattle.cs_history.specs.History.{History, history, IsLegal, IsInTime, IsSafe}
use Rattle.cs_history.specs.declared.script.Script.{Script}
use Rattle.cs_decl.specs.Join.{joined}
use Rattle.cs_decl.specs.Meaning.{declared_by}
use Rattle.cs_plan.specs.Plan.{Declared, as_plan}
use Rattle.cs_decl.specs.declared.entries.Entries.{Entries}
use Rattle.cs_claims.specs.Content.{Content}
use Rattle.cs_cert.specs.Denoted.{certificate_by}
use Rattle.cs_theorem.specs.Faults.{Fault}
use Rattle.cs_check.specs.Case.{fault_of, reach_for}
use Rattle.cs_check.specs.Checked.{certificate_in, plan_in}
use Rattle.cs_counterexample.specs.Break.{first_break}
use Rattle.cs_counterexample.specs.declared.shown.Shown.{Shown}
use Rattle.cs_maker.specs.declared.reason.Reason.{Reason}
use Rattle.cs_judge.specs.Answer.{IsUnknownText, IsUnsafeText, unknown_text}
use Rattle.cs_args.specs.Asked.{asked_run, AskedRun}
use Rattle.cs_files.specs.Fitting.{has_other_parts}
use Rattle.cs_files.specs.Response.{Ending}
use Rattle.cs_ruling.specs.Answer.{Refuses}
use Rattle.cs_ruling.specs.Check.{verdict_text}
use Rattle.cs_ruling.specs.declared.answer.Order.{Order}

-- the bytes of a crontab, of an anacrontab if one is given, and of declarations
pub record Given : Type 0 where
  pub crontab : List ℕ
  pub anacrontab : Option (List ℕ)
  pub declarations : List ℕ

-- a file holds these bytes, and none is given where there is no path
abbrev pub HoldsIt : (List ℕ → Option (List ℕ)) → Option Text → Option (List ℕ) → Type 0
HoldsIt files None None = ⊤
HoldsIt files None (Some bytes) = ⊥
HoldsIt files (Some path) None = ⊥
HoldsIt files (Some path) (Some bytes) = files path ≡ Some bytes

-- the files at these paths hold what is given
pub record Hold (files : List ℕ → Option (List ℕ)) (table : Text) (jobs : Option Text)
    (terms : Text) (given : Given) : Type 0 where
  pub crontab : files table ≡ Some given.crontab
  pub anacrontab : HoldsIt files jobs given.anacrontab
  pub declarations : files terms ≡ Some given.declarations

-- the bytes denote this anacrontab, which has no job where there are none
abbrev pub DenoteJobs : Option (List ℕ) → JobTable → Type 0
DenoteJobs None jobs = jobs ≡ no_jobs
DenoteJobs (Some bytes) jobs = MeansJobs bytes (Ok jobs)

-- what is given denotes two tables and declarations, which join to this plan; and no entry has
-- other parts than the place of its line has
pub record DenotesPlan (given : Given) (plan : Declared) : Type 0 where
  pub crontab : Table
  pub is_crontab : Means given.crontab (Ok crontab)
  pub anacrontab : JobTable
  pub is_anacrontab : DenoteJobs given.anacrontab anacrontab
  pub entries : Entries
  pub are_entries : declared_by given.declarations ≡ Ok entries
  pub joins : joined crontab anacrontab entries ≡ Ok plan
  pub fits : position (has_other_parts (places_of given.crontab crontab) crontab.lines) entries.cron
      ≡ None

-- Every legal history of the plan in which each run ends within its declared time is safe. This is
-- said again in the words of histories, and not by `IsHeadline`, nor the next by
-- `IsCalmThroughout`: where one of these is loosened, the laws over this file break.
abbrev pub IsSafePlan : Declared → Type 0
IsSafePlan plan = (h : History) → IsLegal (as_plan plan) h → IsInTime (as_plan plan) h
    → IsSafe (as_plan plan) h

-- and each minute that a history may reach is calm, by the reaches of this certificate
abbrev pub IsCalmPlan : Declared → Content → Type 0
IsCalmPlan plan c = (t : ℕ) → IsReached t → IsCalm (as_plan plan) (reach_for plan c) t

-- what is given denotes a plan, the certificate is one that the rules accept for it, and it is safe
pub record IsSafeSchedule (given : Given) (certificate : List ℕ) : Type 0 where
  pub plan : Declared
  pub is_plan : DenotesPlan given plan
  pub content : Content
  pub is_certificate : certificate_by certificate ≡ Ok content
  pub accepted : fault_of plan content ≡ None
  pub safe : IsSafePlan plan

-- each minute of the plan is calm too
pub record IsCalmSchedule (given : Given) (certificate : List ℕ) : Type 0 where
  pub schedule : IsSafeSchedule given certificate
  pub calm : IsCalmPlan schedule.plan schedule.content

-- an order to run is of such a plan and certificate, as it was asked, with the owners of the
-- commands and the SHA-256 (FIPS 180-4) of the crontab, the declarations and the certificate
pub record IsOrdered (given : Given) (certificate : List ℕ) (a : AskedRun) (order : Order) : Type 0
  where
    pub schedule : IsSafeSchedule given certificate
    pub plan : plan_in order.checked ≡ schedule.plan
    pub content : certificate_in order.checked ≡ schedule.content
    pub owners : AreOwnersOf given.crontab
        (places_of given.crontab schedule.is_plan.crontab) schedule.plan.crontab order.owners
    pub words : asked_run order.words ≡ a
    pub digests : order.digests ≡ record {
      table = sha256 given.crontab;
      declarations = sha256 given.declarations;
      certificate = sha256 certificate;
    }

-- a command of the gathered crontab of such a plan lacks an owner, which is reported
pub record IsUnownedSchedule (given : Given) (certificate : List ℕ) (ending : Ending) : Type 0 where
  pub schedule : IsCalmSchedule given certificate
  pub fault : Unowned
  pub unowned : IsUnowned given.crontab
      (places_of given.crontab schedule.schedule.is_plan.crontab) schedule.schedule.plan.crontab
      fault
  pub told : Refuses fault ending

-- the text is a line, of a certificate with which what is given is such a schedule
pub record IsPrintedSchedule (given : Given) (text : List ℕ) : Type 0 where
  pub certificate : List ℕ
  pub printed : text ≡ certificate ++ 10 ∷ []
  pub schedule : IsCalmSchedule given certificate

-- what is given denotes a plan for which the rules accept a certificate, and it is safe and calm
pub record IsJudgedSafe (given : Given) : Type 0 where
  pub plan : Declared
  pub is_plan : DenotesPlan given plan
  pub content : Content
  pub accepted : fault_of plan content ≡ None
  pub safe : IsSafePlan plan
  pub calm : IsCalmPlan plan content

-- what is given denotes a plan, and the text is a line, comments, and the script of a legal history
-- of it, in which each run ends within its declared time, and which isn't safe; the line says what
-- that history breaks first
pub record IsJudgedUnsafe (given : Given) (text : List ℕ) : Type 0 where
  pub plan : Declared
  pub is_plan : DenotesPlan given plan
  pub places : List Place
  pub script : Script
  pub shown : Shown
  pub printed : IsUnsafeText plan places script shown text
  pub legal : IsLegal (as_plan plan) (history script.start script.events)
  pub in_time : IsInTime (as_plan plan) (history script.start script.events)
  pub unsafe : IsSafe (as_plan plan) (history script.start script.events) → ⊥
  pub first : first_break (as_plan plan) (history script.start script.events) ≡ Some shown

-- after the reason and comments stands what `check` would print of a certificate of version 3 of
-- the plan: the first rule that it doesn't meet
pub record IsRefused (plan : Declared) (reason : Reason) (text : List ℕ) : Type 0 where
  pub comments : List (List ℕ)
  pub content : Content
  pub compact : content.version ≡ 3
  pub fault : Fault
  pub first : fault_of plan content ≡ Some fault
  pub printed : text ≡ unknown_text reason comments ++ verdict_text plan (Some fault)

-- what is given denotes a plan, and the text is a reason and comments, alone or with such a refusal
-- after them
pub record IsJudgedUnknown (given : Given) (text : List ℕ) : Type 0 where
  pub plan : Declared
  pub is_plan : DenotesPlan given plan
  pub reason : Reason
  pub printed : IsUnknownText reason text ⊎ IsRefused plan reason text
