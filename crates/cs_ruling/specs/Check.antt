-- The answer to `check`: whether a certificate is accepted for the tables as they are declared, or
-- the first rule that isn't met.
use Rattle.std.specs.Prelude.{◌≡◌, ◌⊎◌, ℕ, List, ◌∷◌, ◌++◌, [], Option, Some, None, Result}
use Rattle.std.specs.Prelude.{Ok, Err, IfSome, codes}
use Rattle.std.specs.Result.{result_map_both}
use Rattle.cs_args.specs.Asked.{Text}
use Rattle.sha2.specs.Sha256.{sha256}
use Rattle.cs_plan.specs.Plan.{Declared}
use Rattle.cs_place.specs.Places.{places_told}
use Rattle.cs_place.specs.declared.places.Place.{Place}
use Rattle.cs_theorem.specs.Told.{told}
use Rattle.cs_theorem.specs.declared.check_fault.CheckFault.{CheckFault}
use Rattle.cs_theorem.specs.Faults.{Fault, ClassNotDue, Missing, BacklogRises, ReachTooShort, WindowMissing, Collision, OverCapacity, SkipBlocked}
use Rattle.cs_claims.specs.Certificate.{content}
use Rattle.cs_claims.specs.Content.{Content}
use Rattle.cs_cert.specs.Denoted.{certificate_by}
use Rattle.cs_claims.specs.declared.certificate.Certificate.{Certificate}
use Rattle.cs_check.specs.Case.{fault_of}
use Rattle.cs_check.specs.Checked.{plan_in}
use Rattle.cs_check.specs.declared.checked.Checked.{Checked}
use Rattle.cs_report.specs.Refused.{fault_text}
use Rattle.cs_report.specs.Warning.{plan_notes}
use Rattle.cs_args.specs.Asked.{AskedCheck}
use Rattle.cs_io.specs.Files.{Failed}
use Rattle.cs_files.specs.Response.{Ending, done}
use Rattle.cs_files.specs.Asked.{Answers, FindsPlan, IsPlanned}
use Rattle.cs_files.specs.Reads.{ReadsAs}
use Rattle.cs_files.specs.declared.asked.Planned.{Planned}
use Rattle.cs_files.specs.Trouble.{InCertificate, Trouble}
use Rattle.cs_ruling.specs.declared.check.Digests.{Digests}
use Rattle.cs_ruling.specs.declared.check.Claimed.{Claimed}

-- what a certificate says that was read, wherever it lies in memory
abbrev pub said : {E : Type 0} → Result Certificate E → Result Content E
said read = result_map_both content (λ e. e) read

unfoldable pub safe_text : List ℕ
safe_text = codes "safe\n"

-- `safe`, or the line of the first rule that isn't met
unfoldable pub verdict_text : Declared → Option Fault → List ℕ
verdict_text plan None = safe_text
verdict_text plan (Some fault) = fault_text plan fault ++ 10 ∷ []

abbrev pub jobs_of : Fault → List ℕ
jobs_of (ClassNotDue kind) = []
jobs_of (Missing kinds) = []
jobs_of (BacklogRises group at) = []
jobs_of (ReachTooShort job) = job ∷ []
jobs_of (WindowMissing window at) = window.job ∷ []
jobs_of (Collision at one other) = one.job ∷ other.job ∷ []
jobs_of (OverCapacity at load) = []
jobs_of (SkipBlocked at skip other) = skip.job ∷ other.job ∷ []

-- `note: line 14 is /etc/cron.d/munin:12 (munin): COMMAND` for each line that a fault names and
-- that has a place
abbrev pub fault_places : Declared → List Place → Fault → List ℕ
fault_places plan places fault =
    places_told (codes "note: ") places (jobs_of fault) 0 plan.crontab.lines

-- beside a fault that the certificate of other tables or declarations has
unfoldable pub stale_text : List ℕ
stale_text = codes "note: the tables or declarations may have changed since the certificate was made: "
    ++ codes "cronsafe make TABLE DECLS makes a new one\n"

abbrev pub stale_note : Fault → List ℕ
stale_note (ClassNotDue kind) = stale_text
stale_note (Missing kinds) = stale_text
stale_note (BacklogRises group at) = []
stale_note (ReachTooShort job) = []
stale_note (WindowMissing window at) = stale_text
stale_note (Collision at one other) = []
stale_note (OverCapacity at load) = []
stale_note (SkipBlocked at skip other) = []

-- the answer to a certificate by its first fault: status 0 where it is safe, 1 where it is refused,
-- with the notes on the plan, the places of the lines that the fault names, more notes, and a note
-- where the certificate may be of other files
abbrev pub verdict : Declared → List Place → List ℕ → Option Fault → Ending
verdict plan places more None = done (verdict_text plan None) (plan_notes plan)
verdict plan places more (Some fault) = record {
  status = 1;
  out = verdict_text plan (Some fault);
  err = plan_notes plan ++ (fault_places plan places fault ++ (more ++ stale_note fault));
}

-- so it is, with some notes on the jobs that take a lock of which a bound rises, or that may run at
-- a minute that is over the capacity
abbrev pub IsVerdict : Declared → List Place → Option Fault → Ending → Type 0
IsVerdict plan places fault ending = (more : List ℕ) × (ending ≡ verdict plan places more fault)

-- this is the SHA-256 (FIPS 180-4) of bytes that denote a certificate, and the file at a path holds
-- these bytes
pub record IsDigestOf (files : List ℕ → Option (List ℕ)) (path : Text) (c : Content)
    (digest : List ℕ) : Type 0 where
  pub bytes : List ℕ
  pub denote : certificate_by bytes ≡ Ok c
  pub held : IfSome (files path) (λ text. bytes ≡ text)
  pub hashed : digest ≡ sha256 bytes

-- this is the SHA-256 of the bytes of the file at a path
abbrev pub IsDigestAt : (List ℕ → Option (List ℕ)) → Text → List ℕ → Type 0
IsDigestAt files path digest = IfSome (files path) (λ bytes. digest ≡ sha256 bytes)

-- each is that of the file that is asked for, and the certificate's is of bytes that denote it
pub record AreDigestsOf (files : List ℕ → Option (List ℕ)) (a : AskedCheck) (c : Content)
    (digests : Digests) : Type 0 where
  pub table : IsDigestAt files a.table digests.table
  pub declarations : IsDigestAt files a.declarations digests.declarations
  pub certificate : IsDigestOf files a.certificate c digests.certificate

-- each is that of its text
abbrev pub AreOfTexts : Digests → List ℕ → List ℕ → List ℕ → Type 0
AreOfTexts digests table declarations certificate = digests ≡ record {
  table = sha256 table;
  declarations = sha256 declarations;
  certificate = sha256 certificate;
}

abbrev pub ReadsCertificate : (List ℕ → Option (List ℕ)) → Text → Failed → Failed
    → Result Content Trouble → Type 0
ReadsCertificate files path = ReadsAs files path (λ bytes c. certificate_by bytes ≡ c) InCertificate

-- the files denote this plan and this certificate, with these digests, and these are the warnings
pub record IsClaimed (files : List ℕ → Option (List ℕ)) (a : AskedCheck) (w : List ℕ) (failed : Failed)
    (x : Claimed) : Type 0 where
  pub planned : IsPlanned files a.table a.anacrontab a.declarations w failed x.planned
  pub certificate : ReadsCertificate files a.certificate failed failed (Ok (content x.certificate))
  pub digests : AreDigestsOf files a (content x.certificate) x.digests

-- the plan and then the certificate, each file read in its turn, or the first fault
abbrev pub FindsClaimed : (List ℕ → Option (List ℕ)) → AskedCheck → List ℕ → Failed → Failed
    → Result Claimed Trouble → Type 0
FindsClaimed files a w before after (Ok x) = (after ≡ before) × IsClaimed files a w before x
FindsClaimed files a w before after (Err t) =
    FindsPlan files a.table a.anacrontab a.declarations w before after (Err t)
    ⊎ ((planned : Planned)
    × IsPlanned files a.table a.anacrontab a.declarations w before planned
    × ReadsCertificate files a.certificate before after (Err t))

-- what the checker says of a plan and the certificate that is claimed for it
abbrev pub IsVerdictOn : Claimed → Ending → Type 0
IsVerdictOn x = IsVerdict x.planned.plan x.planned.places
    (fault_of x.planned.plan (content x.certificate))

-- `safe` where the checker has accepted the plan, beside the notes on it, else what it says of the
-- first rule
abbrev pub answer_of : Result Checked (Ending × CheckFault) → Ending
answer_of (Ok checked) = done safe_text (plan_notes (plan_in checked))
answer_of (Err refused) = refused.0

-- the first rule that isn't met
abbrev pub refusal_of : Result Checked (Ending × CheckFault) → Option Fault
refusal_of (Ok checked) = None
refusal_of (Err refused) = Some (told refused.1)

-- the answer to `check`: the verdict, or the first fault of a file, and no file is read before its
-- own turn
abbrev pub AnswersCheck : AskedCheck → (List ℕ → Option (List ℕ)) → List ℕ → Failed → Failed
    → Ending → Type 0
AnswersCheck a files w = Answers (FindsClaimed files a w) IsVerdictOn
