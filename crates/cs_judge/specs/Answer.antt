-- What is printed of a plan that was judged.
use Rattle.std.specs.Prelude.{◌≡◌, ◌⊎◌, ◌<◌, ℕ, List, ◌∷◌, ◌++◌, [], Ok, Option, None, Some, codes, flat_map, length}
use Rattle.std.specs.List.{filter_map}
use Rattle.serde_json.specs.Written.{compact_text}
use Rattle.cs_place.specs.Places.{places_told}
use Rattle.cs_place.specs.declared.places.Place.{Place}
use Rattle.cs_history.specs.declared.event.Event.{Event}
use Rattle.cs_history.specs.declared.event.Event.TheVariants.{Minute, Begin, Got, Catch, End, Down, Up}
use Rattle.cs_history.specs.declared.script.Script.{Script}
use Rattle.cs_plan.specs.Plan.{Declared}
use Rattle.cs_theorem.specs.Faults.{Fault}
use Rattle.cs_claims.specs.Content.{Content}
use Rattle.cs_cert.specs.Denoted.{certificate_by}
use Rattle.cs_cert.specs.Written.{certificate_data}
use Rattle.cs_claims.specs.declared.limits.TheConstants.{MAX_CERTIFICATE}
use Rattle.cs_check.specs.Checked.{certificate_in}
use Rattle.cs_report.specs.Refused.{fault_text}
use Rattle.cs_theorem.specs.Told.{told}
use Rattle.cs_theorem.specs.declared.check_fault.CheckFault.{CheckFault}
use Rattle.cs_maker.specs.Reason.{reason_name}
use Rattle.cs_maker.specs.declared.reason.Reason.{Reason}
use Rattle.cs_maker.specs.declared.reason.Reason.TheVariants.{TooManyClasses, LeafTooLong, TooDeep, NoReach, NoScript, NotChecked, NoMemory}
use Rattle.cs_report.specs.ScriptText.{script_text}
use Rattle.cs_counterexample.specs.ShownText.{shown_text}
use Rattle.cs_counterexample.specs.declared.shown.Shown.{Shown}
use Rattle.cs_judge.specs.Form.{IsJudgedBy}
use Rattle.cs_judge.specs.Judged.{Shows}
use Rattle.cs_verdict.specs.Story.{comment}
use Rattle.cs_judge.specs.declared.judged.Judged.{Judged}
use Rattle.cs_judge.specs.declared.judged.Judged.TheVariants.{Safe, Unsafe, Unknown}
use Rattle.cs_judge.specs.declared.answers.Outcome.{Outcome}
use Rattle.cs_judge.specs.declared.answers.Outcome.TheVariants as outcome
use Rattle.cs_judge.specs.declared.answers.Wanted.{Wanted}
use Rattle.cs_judge.specs.declared.answers.Wanted.TheVariants.{Certificate, Compact, Verdict}

-- the job that an event names
abbrev pub job_of : Event → Option ℕ
job_of (Minute t) = None
job_of (Begin j) = Some j
job_of (Got j t) = Some j
job_of (Catch j) = Some j
job_of (End r) = Some r.job
job_of Down = None
job_of (Up t) = None

-- for each line of the crontab that the script names and that has a place, the comment `# line 14
-- is /etc/cron.d/munin:12 (munin): COMMAND`
unfoldable pub story_places : Declared → List Place → Script → List ℕ
story_places plan places script =
    places_told (codes "# ") places (filter_map job_of script.events) 0 plan.crontab.lines

-- `unsafe: ` and what is broken first, a line; comments that tell the story of that; the places of
-- the lines that the script names; and then the script
unfoldable pub unsafe_text : Declared → List Place → Script → Shown → List (List ℕ) → List ℕ
unsafe_text plan places script shown story = shown_text plan shown
    ++ 10 ∷ (flat_map comment story
    ++ (story_places plan places script ++ script_text plan script))

abbrev pub IsUnsafeText : Declared → List Place → Script → Shown → List ℕ → Type 0
IsUnsafeText plan places script shown text =
    (story : List (List ℕ)) × (text ≡ unsafe_text plan places script shown story)

-- `unknown: REASON`, a line, and comments
unfoldable pub unknown_text : Reason → List (List ℕ) → List ℕ
unknown_text reason comments =
    codes "unknown: " ++ (reason_name reason ++ 10 ∷ flat_map comment comments)

abbrev pub IsUnknownText : Reason → List ℕ → Type 0
IsUnknownText reason text =
    (comments : List (List ℕ)) × (text ≡ unknown_text reason comments)

unfoldable pub refusal_text : Declared → Fault → List ℕ
refusal_text plan fault = fault_text plan fault ++ 10 ∷ []

-- unknown, and whether that is because memory ran out
abbrev pub unknown_outcome : Reason → Outcome
unknown_outcome TooManyClasses = outcome.Unknown
unknown_outcome LeafTooLong = outcome.Unknown
unknown_outcome TooDeep = outcome.Unknown
unknown_outcome NoReach = outcome.Unknown
unknown_outcome NoScript = outcome.Unknown
unknown_outcome NotChecked = outcome.Unknown
unknown_outcome NoMemory = outcome.NoMemory

abbrev pub outcome_of : Judged → Outcome
outcome_of (Safe checked) = outcome.Safe
outcome_of (Unsafe script shown breach) = outcome.Unsafe
outcome_of (Unknown reason refusal) = unknown_outcome reason

-- what is printed for an unknown plan, after which the line of a refusal may follow
abbrev pub IsUnknown : Declared → Reason → Option CheckFault → List ℕ → Type 0
IsUnknown plan reason None text = IsUnknownText reason text
IsUnknown plan reason (Some fault) text = (comments : List (List ℕ))
    × (text ≡ unknown_text reason comments ++ refusal_text plan (told fault))

-- what `judge` prints
abbrev pub IsVerdict : Declared → List Place → Judged → List ℕ → Type 0
IsVerdict plan places (Safe checked) text = text ≡ codes "safe\n"
IsVerdict plan places (Unsafe script shown breach) text = IsUnsafeText plan places script shown text
IsVerdict plan places (Unknown reason refusal) text = IsUnknown plan reason refusal text

-- the text of a certificate, a line of a file that can be read again
abbrev pub IsCertificate : Content → List ℕ → Type 0
IsCertificate c text = (written : List ℕ) × (written ≡ compact_text (certificate_data c))
    × (certificate_by written ≡ Ok c) × (length written < MAX_CERTIFICATE)
    × (text ≡ written ++ 10 ∷ [])

-- what `make` prints for a plan accepted with this certificate: the certificate, or that no file
-- can hold it
abbrev pub IsSafeMade : Content → Outcome → List ℕ → Type 0
IsSafeMade c found text = ((found ≡ outcome.Safe) × IsCertificate c text)
    ⊎ ((found ≡ outcome.Unknown) × IsUnknownText LeafTooLong text)

-- what `make` prints
abbrev pub IsMade : Declared → List Place → Judged → Outcome → List ℕ → Type 0
IsMade plan places (Safe checked) found text = IsSafeMade (certificate_in checked) found text
IsMade plan places (Unsafe script shown breach) found text =
    (found ≡ outcome.Unsafe) × IsUnsafeText plan places script shown text
IsMade plan places (Unknown reason refusal) found text =
    (found ≡ unknown_outcome reason) × IsUnknownText reason text

-- what is printed for a judged plan, by what is wanted of it
abbrev pub IsAnswer : Wanted → Declared → List Place → Judged → Outcome → List ℕ → Type 0
IsAnswer Verdict plan places judged found text =
    (found ≡ outcome_of judged) × IsVerdict plan places judged text
IsAnswer Certificate plan places judged found text = IsMade plan places judged found text
IsAnswer Compact plan places judged found text =
    IsJudgedBy Compact judged × IsMade plan places judged found text

-- the text says what a script breaks first, tells the story of that, says where its lines come
-- from, and then has the script, which shows the plan unsafe
pub record IsStory (plan : Declared) (places : List Place) (text : List ℕ) : Type 0 where
  pub script : Script
  pub shown : Shown
  pub shows : Shows plan script shown
  pub told : IsUnsafeText plan places script shown text
