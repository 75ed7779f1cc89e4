-- What the answers to calls say of the bytes of their files.
use Rattle.std.proofs.Common.{◌≡◌, ◌≢◌, ◌⊎◌, inl, inr, ℕ, ◌<◌, ◌≤◌, arith, Bool, true, false, List, Option, Some, None, Result, Ok, Err, refl, ap, subst, sym, ◌∙◌}
use Rattle.std.specs.Prelude.{IfSome, position}
use Rattle.cs_args.specs.Asked.{Text}
use Rattle.cs_crontab.specs.Crontab.{Table}
use Rattle.cs_crontab.specs.Faults.{Means}
use Rattle.cs_anacrontab.specs.Anacrontab.{Table as JobTable}
use Rattle.cs_decl.specs.Faults.{at_cron}
use Rattle.cs_plan.specs.Answers.{Fault as DeclaredFault}
use Rattle.cs_decl.specs.Join.{joined}
use Rattle.cs_decl.specs.Meaning.{declared_by}
use Rattle.cs_plan.specs.Answers.{◌>>=◌, unless}
use Rattle.cs_plan.specs.Plan.{Declared}
use Rattle.cs_decl.specs.declared.entries.Entries.{Entries}
use Rattle.cs_plan.specs.declared.fault.DeclFault.TheVariants as faults
use Rattle.cs_cert.specs.Denoted.{certificate_by}
use Rattle.cs_check.specs.Case.{fault_of}
use Rattle.cs_check.specs.Checked.{certificate_in, plan_in}
use Rattle.cs_check.specs.declared.checked.Checked.{Checked}
use Rattle.cs_judge.proofs.Outcomes.{unsafe_stands}
use Rattle.cs_judge.specs.declared.answers.Outcome.{Outcome}
use Rattle.cs_judge.specs.declared.answers.Outcome.TheVariants as outcome
use Rattle.cs_judge.specs.declared.answers.Wanted.{Wanted}
use Rattle.cs_judge.specs.declared.answers.Wanted.TheVariants.{Verdict}
use Rattle.cs_judge.specs.declared.judged.Judged.{Judged}
use Rattle.cs_judge.specs.declared.judged.Judged.TheVariants as judged_as
use Rattle.cs_judge.specs.Answer.{IsAnswer, IsMade, IsUnknown, IsUnknownText, refusal_text, unknown_outcome}
use Rattle.cs_judge.specs.Judged.{IfRefused, IsJudgement, IsRefusal}
use Rattle.cs_maker.specs.declared.reason.Reason.{Reason}
use Rattle.cs_maker.specs.declared.reason.Reason.TheVariants.{LeafTooLong, NoMemory, NoReach, NoScript, NotChecked, TooDeep, TooManyClasses}
use Rattle.cs_theorem.specs.Told.{told}
use Rattle.cs_theorem.specs.declared.check_fault.CheckFault.{CheckFault}
use Rattle.cs_args.specs.Asked.{AskedCheck, AskedJudge, AskedMake, AskedRun}
use Rattle.cs_io.specs.Files.{Failed}
use Rattle.cs_files.specs.Fitting.{fitting, has_other_parts}
use Rattle.cs_files.specs.Reads.{AndThen, Gives, Makes, MeansEntries, MeansJobTable, MeansTable, PlacesIn, ReadsAs, ReadsEntries, ReadsFitting, ReadsJobs, ReadsTables}
use Rattle.cs_files.specs.Asked.{IsPlanned, both_of}
use Rattle.cs_files.specs.Response.{Ending}
use Rattle.cs_files.specs.declared.asked.Planned.{Planned}
use Rattle.cs_files.specs.declared.asked.Tables.{Tables}
use Rattle.cs_files.proofs.TroubleLemmas.{placed}
use Rattle.cs_claims.specs.Certificate.{content}
use Rattle.cs_claims.specs.Content.{Content}
use Rattle.cs_files.specs.Trouble.{InAnacrontab, InCertificate, InCrontab, InDeclarations, InGathered, InScript, InWords, NoTimeZone, Trouble, Unread, trouble_status}
use Rattle.cs_owner.specs.Owners.{AreOwnersOf, IsUnowned}
use Rattle.cs_ruling.specs.Answer.{AnswersRun, IsOfNobody}
use Rattle.cs_ruling.specs.Check.{AnswersCheck, FindsClaimed, IsClaimed, verdict_text}
use Rattle.cs_cli.specs.Judge.{AnswersJudge, AnswersMake, AnswersWanted, IsJudged, outcome_status, wanted_of}
use Rattle.cs_ruling.specs.Safe.{IsAccepted, IsChecked}
use Rattle.cs_ruling.specs.declared.answer.Answer.TheVariants.{Runs}
use Rattle.cs_ruling.specs.declared.check.Claimed.{Claimed}
use Rattle.cs_ruling.proofs.CheckLemmas.{digests_of}
use Rattle.cs_cli.specs.Theorem.{DenoteJobs, DenotesPlan, Given, Hold, HoldsIt, IsCalmSchedule, IsUnownedSchedule, IsJudgedSafe, IsJudgedUnknown, IsJudgedUnsafe, IsOrdered, IsPrintedSchedule, IsRefused, IsSafeSchedule}
use Rattle.cs_place.specs.Places.{places_of}
use Rattle.cs_place.specs.declared.places.Place.{Place}
use Rattle.cs_ruling.specs.declared.answer.Order.{Order}

-- ---- what was read

-- two steps that gave a value: the first gave one, and the second gave this one of it
record BothGave {X Y : Type 0} (first : Failed → Failed → Result X Trouble → Type 0) (next : X → Failed → Failed → Result Y Trouble → Type 0) (before after : Failed) (y : Y) : Type 0 where
  value : X
  one : first before before (Ok value)
  two : next value before after (Ok y)

both_gave : {X Y : Type 0} (first : Failed → Failed → Result X Trouble → Type 0) (next : X → Failed → Failed → Result Y Trouble → Type 0) (before after : Failed) (y : Y)
    → AndThen first next before after (Ok y) → BothGave first next before after y
both_gave first next before after y (inl (t, stop, e)) = absurd (cc)
both_gave first next before after y (inr (x, one, two)) = record { value = x; one = one; two = two }

same_value : {X : Type 0} (r : Result X Trouble) (x y : X) → r ≡ Ok x → r ≡ Ok y → x ≡ y
same_value r x y e f = cc

-- a file of known bytes means what was read
file_means : {M F : Type 0} (files : List ℕ → Option (List ℕ)) (path : Text) (means : List ℕ → Result M F → Type 0) (told : F → Trouble) (before after : Failed) (m : M) (bytes : List ℕ)
    → files path ≡ Some bytes → ReadsAs files path means told before after (Ok m) → means bytes (Ok m)
file_means files path means told before after m bytes holds read = subst (λ (o : Option (List ℕ)). IfSome o (λ text. means text (Ok m))) holds read.1

jobs_denoted : (files : List ℕ → Option (List ℕ)) (anacrontab : Option Text) (bytes : Option (List ℕ)) (before after : Failed) (jobs : JobTable)
    → HoldsIt files anacrontab bytes → ReadsJobs files anacrontab before after (Ok jobs) → DenoteJobs bytes jobs
jobs_denoted files None None before after jobs holds read = let e = read.1 in cc
jobs_denoted files None (Some bytes) before after jobs holds read = absurd holds
jobs_denoted files (Some path) None before after jobs holds read = absurd holds
jobs_denoted files (Some path) (Some bytes) before after jobs holds read = file_means files path MeansJobTable InAnacrontab before after jobs bytes holds read

tables_denoted : (files : List ℕ → Option (List ℕ)) (table : Text) (anacrontab : Option Text) (declarations : Text) (given : Given) (before after : Failed) (both : Table × JobTable)
    → Hold files table anacrontab declarations given → ReadsTables files table anacrontab before after (Ok both)
    → Means given.crontab (Ok both.0) × DenoteJobs given.anacrontab both.1
tables_denoted files table anacrontab declarations given before after both hold read =
    let one = both_gave (ReadsAs files table MeansTable InCrontab) (λ t. AndThen (ReadsJobs files anacrontab) (λ jobs. Gives (Ok (t, jobs)))) before after both read in
    let two = both_gave (ReadsJobs files anacrontab) (λ jobs. Gives (Ok (one.value, jobs))) before after both one.two in
    let same = same_value (Ok both) both (one.value, two.value) refl two.two.1 in
    subst (λ (b : Table × JobTable). Means given.crontab (Ok b.0) × DenoteJobs given.anacrontab b.1) (sym same) (
      file_means files table MeansTable InCrontab before before one.value given.crontab hold.crontab one.one,
      jobs_denoted files anacrontab given.anacrontab before before two.value hold.anacrontab two.one,
    )

entries_denoted : (files : List ℕ → Option (List ℕ)) (path : Text) (before after : Failed) (d : Entries) (bytes : List ℕ)
    → files path ≡ Some bytes → ReadsEntries files path before after (Ok d) → declared_by bytes ≡ Ok d
entries_denoted files path before after d bytes holds (inl read) = file_means files path MeansEntries InDeclarations before after d bytes holds read
entries_denoted files path before after d bytes holds (inr (same, long, (t, told, e))) = absurd (cc)

-- a plan of which entries have the parts is the joined one, and no entry has others
is_fitting : (r : Result Declared DeclaredFault) (first : Option ℕ) (before after : Failed) (plan : Declared) → Makes (r >>= λ p. unless p (at_cron faults.OtherParts first)) before after (Ok plan)
    → (r ≡ Ok plan) × (first ≡ None)
is_fitting (Ok p) None before after plan (same, e) = (cc, refl)
is_fitting (Ok p) (Some i) before after plan (same, (lines, e)) = absurd (cc)
is_fitting (Err fault) first before after plan (same, (lines, e)) = absurd (cc)

plan_denoted : (files : List ℕ → Option (List ℕ)) (table : Text) (anacrontab : Option Text) (declarations : Text) (given : Given) (before after before' after' : Failed) (both : Table × JobTable) (places : List Place) (plan : Declared)
    → Hold files table anacrontab declarations given → ReadsTables files table anacrontab before after (Ok both)
    → PlacesIn files table both.0 places → ReadsFitting files places both declarations before' after' (Ok plan) → DenotesPlan given plan
plan_denoted files table anacrontab declarations given before after before' after' both places plan hold read placed rest =
    let tables = tables_denoted files table anacrontab declarations given before after both hold read in
    let one = both_gave (ReadsEntries files declarations) (λ d. Makes (fitting places both d)) before' after' plan rest in
    let first = λ (ps : List Place). position (has_other_parts ps both.0.lines) one.value.cron in
    let fit = is_fitting (joined both.0 both.1 one.value) (first places) before' after' plan one.two in
    let listed = subst (λ (o : Option (List ℕ)). IfSome o (λ bytes. places ≡ places_of bytes both.0)) hold.crontab placed in
    record {
      crontab = both.0;
      is_crontab = tables.0;
      anacrontab = both.1;
      is_anacrontab = tables.1;
      entries = one.value;
      are_entries = entries_denoted files declarations before' before' one.value given.declarations hold.declarations one.one;
      joins = fit.0;
      fits = subst (λ (ps : List Place). first ps ≡ None) listed fit.1;
    }

-- so is a plan that was read
plan_of : (files : List ℕ → Option (List ℕ)) (table : Text) (anacrontab : Option Text) (declarations : Text) (w : List ℕ) (failed : Failed) (given : Given) (x : Planned)
    → Hold files table anacrontab declarations given → IsPlanned files table anacrontab declarations w failed x → DenotesPlan given x.plan
plan_of files table anacrontab declarations w failed given x hold is =
    plan_denoted files table anacrontab declarations given failed failed failed failed (both_of is.tables) is.tables.places x.plan hold is.read.read (placed files table is.tables.crontab is.tables.text is.tables.places is.read.text is.read.places) is.plan

-- ---- `check`, and an order to run

same_plan : (given : Given) (plan other : Declared) → DenotesPlan given plan → plan ≡ other → DenotesPlan given other
same_plan given plan other is same = record {
  crontab = is.crontab;
  is_crontab = is.is_crontab;
  anacrontab = is.anacrontab;
  is_anacrontab = is.is_anacrontab;
  entries = is.entries;
  are_entries = is.are_entries;
  joins = subst (λ (p : Declared). joined is.crontab is.anacrontab is.entries ≡ Ok p) same is.joins;
  fits = is.fits;
}

schedule : (files : List ℕ → Option (List ℕ)) (a : AskedCheck) (w : List ℕ) (failed : Failed) (x : Claimed) (checked : Checked) (given : Given) (certificate : List ℕ)
    → Hold files a.table a.anacrontab a.declarations given → files a.certificate ≡ Some certificate
    → IsClaimed files a w failed x → IsAccepted x checked → IsSafeSchedule given certificate
schedule files a w failed x checked given certificate hold holds read accepted = record {
  plan = plan_in checked;
  is_plan = same_plan given x.planned.plan (plan_in checked) (plan_of files a.table a.anacrontab a.declarations w failed given x.planned hold read.planned) (sym accepted.plan);
  content = certificate_in checked;
  is_certificate = subst (λ (c : Content). certificate_by certificate ≡ Ok c) (sym accepted.certificate) (file_means files a.certificate (λ bytes c. certificate_by bytes ≡ c) InCertificate failed failed (content x.certificate) certificate holds read.certificate);
  accepted = checked.kept;
  safe = accepted.safe.headline;
}

calm_schedule : (files : List ℕ → Option (List ℕ)) (a : AskedCheck) (w : List ℕ) (failed : Failed) (x : Claimed) (checked : Checked) (given : Given) (certificate : List ℕ)
    → Hold files a.table a.anacrontab a.declarations given → files a.certificate ≡ Some certificate
    → IsClaimed files a w failed x → IsAccepted x checked → IsCalmSchedule given certificate
unfolding schedule
calm_schedule files a w failed x checked given certificate hold holds read accepted = record {
  schedule = schedule files a w failed x checked given certificate hold holds read accepted;
  calm = accepted.safe.calm;
}

pub checked_schedule : (files : List ℕ → Option (List ℕ)) (a : AskedCheck) (w : List ℕ) (before after : Failed) (ending : Ending) (given : Given) (certificate : List ℕ)
    → Hold files a.table a.anacrontab a.declarations given → files a.certificate ≡ Some certificate
    → IsChecked a files w before after ending → ending.status ≡ 0 → IsCalmSchedule given certificate
checked_schedule files a w before after ending given certificate hold holds answered zero =
    let s = answered.safe zero in calm_schedule files a w before s.claimed s.checked given certificate hold holds s.read s.accepted

-- from what was read to the bytes of the crontab
of_bytes : (P : List ℕ → List Place → Type 0) (files : List ℕ → Option (List ℕ)) (path : Text) (bytes : List ℕ) (planned : Planned) (tables : Tables)
    → files path ≡ Some bytes → IfSome (files path) (λ held. tables.text ≡ held) → planned.table ≡ tables.text → planned.places ≡ tables.places
    → tables.places ≡ places_of tables.text tables.crontab → P planned.table planned.places → P bytes (places_of bytes tables.crontab)
of_bytes P files path bytes planned tables holds held table places placed is =
    let text : tables.text ≡ bytes = subst (λ (o : Option (List ℕ)). IfSome o (λ held. tables.text ≡ held)) holds held in
    let here : P tables.text (places_of tables.text tables.crontab) =
    subst (λ (ps : List Place). P tables.text ps) (places ∙ placed) (subst (λ (t : List ℕ). P t planned.places) table is) in
    subst (λ (t : List ℕ). P t (places_of t tables.crontab)) text here

pub ordered_schedule : (files : List ℕ → Option (List ℕ)) (a : AskedRun) (w : List ℕ) (before after : Failed) (order : Order) (given : Given) (certificate : List ℕ)
    → Hold files a.check.table a.check.anacrontab a.check.declarations given → files a.check.certificate ≡ Some certificate
    → AnswersRun a files w before after (Runs order) → IsOrdered given certificate a order
unfolding schedule same_plan plan_of plan_denoted
ordered_schedule files a w before after order given certificate hold holds (inl (t, read, ends)) = absurd ends
ordered_schedule files a w before after order given certificate hold holds (inr (x, (same, read), ordered)) = record {
  schedule = schedule files a.check w before x order.checked given certificate hold holds read ordered.accepted;
  plan = refl;
  content = refl;
  owners = of_bytes (λ text places. AreOwnersOf text places (plan_in order.checked).crontab order.owners) files a.check.table given.crontab x.planned read.planned.tables hold.crontab read.planned.read.text.1 read.planned.same_table read.planned.same_places read.planned.read.places ordered.owners;
  words = ordered.words;
  digests = ordered.digests ∙ digests_of files a.check (content x.certificate) x.digests given.crontab given.declarations certificate hold.crontab hold.declarations holds read.digests;
}

pub ordered_checked : (files : List ℕ → Option (List ℕ)) (a : AskedRun) (w : List ℕ) (before after : Failed) (order : Order)
    → AnswersRun a files w before after (Runs order) → (answer : Ending) × AnswersCheck a.check files w before after answer × (answer.status ≡ 0) × (answer.err ≡ order.warnings)
ordered_checked files a w before after order (inl (t, read, ends)) = absurd ends
ordered_checked files a w before after order (inr (x, read, ordered)) = (_, inr (x, read, ordered.accepted.verdict), refl, sym ordered.notes)

pub unowned_schedule : (files : List ℕ → Option (List ℕ)) (a : AskedRun) (w : List ℕ) (before after : Failed) (x : Claimed) (ending : Ending) (given : Given) (certificate : List ℕ)
    → Hold files a.check.table a.check.anacrontab a.check.declarations given → files a.check.certificate ≡ Some certificate
    → FindsClaimed files a.check w before after (Ok x) → IsOfNobody x ending → IsUnownedSchedule given certificate ending
unfolding calm_schedule schedule same_plan plan_of plan_denoted
unowned_schedule files a w before after x ending given certificate hold holds (same, read) of_nobody = record {
  schedule = calm_schedule files a.check w before x of_nobody.checked given certificate hold holds read of_nobody.accepted;
  fault = of_nobody.fault;
  unowned = of_bytes (λ text places. IsUnowned text places (plan_in of_nobody.checked).crontab of_nobody.fault) files a.check.table given.crontab x.planned read.planned.tables hold.crontab read.planned.read.text.1 read.planned.same_table read.planned.same_places read.planned.read.places of_nobody.unowned;
  told = of_nobody.told;
}

pub unowned_checked : (files : List ℕ → Option (List ℕ)) (a : AskedRun) (w : List ℕ) (before after : Failed) (x : Claimed) (ending : Ending)
    → FindsClaimed files a.check w before after (Ok x) → IsOfNobody x ending → (answer : Ending) × AnswersCheck a.check files w before after answer × (answer.status ≡ 0)
unowned_checked files a w before after x ending read of_nobody = (_, inr (x, read, of_nobody.accepted.verdict), refl)

-- ---- `judge` and `make`

unsafe_found : (o : Outcome) → outcome_status o ≡ 1 → o ≡ outcome.Unsafe
unsafe_found outcome.Safe e = absurd (cc)
unsafe_found outcome.Unsafe e = refl
unsafe_found outcome.Unknown e = absurd (cc)
unsafe_found outcome.NoMemory e = absurd (cc)

unknown_status : (reason : Reason) → 2 ≤ outcome_status (unknown_outcome reason)
unknown_status TooManyClasses = omega arith
unknown_status LeafTooLong = omega arith
unknown_status TooDeep = omega arith
unknown_status NoReach = omega arith
unknown_status NoScript = omega arith
unknown_status NotChecked = omega arith
unknown_status NoMemory = omega arith

-- a plan was found otherwise
other_found : {A : Type 0} (found other : Outcome) (n : ℕ) → found ≡ other → outcome_status found ≡ n → outcome_status other ≢ n → A
other_found found other n is status differs = absurd (differs (ap outcome_status (sym is) ∙ status))

-- an answer was given of a plan that the files denote
record IsAnswered (wanted : Wanted) (given : Given) (ending : Ending) : Type 0 where
  plan : Declared
  is_plan : DenotesPlan given plan
  places : List Place
  judged : IsJudged wanted plan places ending

troubled : (t : Trouble) → trouble_status t ≢ 3 → trouble_status t ≢ 6 → ⊥
troubled (InWords fault) three six = three refl
troubled (Unread path reason) three six = six refl
troubled (InCrontab fault) three six = three refl
troubled (InAnacrontab fault) three six = three refl
troubled (InGathered path fault) three six = three refl
troubled (InDeclarations fault) three six = three refl
troubled (InScript fault) three six = three refl
troubled (InCertificate fault) three six = three refl
troubled (NoTimeZone path) three six = three refl

answered : (wanted : Wanted) (files : List ℕ → Option (List ℕ)) (a : AskedJudge) (w : List ℕ) (before after : Failed) (ending : Ending) (given : Given)
    → Hold files a.table a.anacrontab a.declarations given → AnswersWanted wanted a files w before after ending → ending.status ≢ 3 → ending.status ≢ 6
    → IsAnswered wanted given ending
answered wanted files a w before after ending given hold (inl (t, read, is)) three six =
    let same = ap (λ (e : Ending). e.status) is in
    absurd (troubled t (λ h. three (same ∙ h)) (λ h. six (same ∙ h)))
answered wanted files a w before after ending given hold (inr (x, (kept, read), judged)) three six = record {
  plan = x.plan;
  is_plan = plan_of files a.table a.anacrontab a.declarations w before given x hold read;
  places = x.places;
  judged = judged;
}

answered_with : (n : ℕ) → n < 3 → (wanted : Wanted) (files : List ℕ → Option (List ℕ)) (a : AskedJudge) (w : List ℕ) (before after : Failed) (ending : Ending) (given : Given)
    → Hold files a.table a.anacrontab a.declarations given → AnswersWanted wanted a files w before after ending → ending.status ≡ n
    → (k : IsAnswered wanted given ending) × (outcome_status k.judged.found ≡ n)
answered_with n small wanted files a w before after ending given hold is status =
    let k = answered wanted files a w before after ending given hold is (λ h. omega (arith, h, status, small)) (λ h. omega (arith, h, status, small)) in
    (k, sym k.judged.status ∙ status)

judged_well : (given : Given) (plan : Declared) (places : List Place) (judged : Judged) (found : Outcome) (text : List ℕ) → DenotesPlan given plan
    → IsJudgement plan judged → IsAnswer Verdict plan places judged found text → outcome_status found ≡ 0 → IsJudgedSafe given
judged_well given plan places (judged_as.Safe checked) found text denotes known is zero = record {
  plan = plan;
  is_plan = denotes;
  content = certificate_in checked;
  accepted = known.safe.accepted;
  safe = known.headline;
  calm = known.calm;
}
judged_well given plan places (judged_as.Unsafe script shown breach) found text denotes known is zero = other_found found outcome.Unsafe 0 is.0 zero (λ h. omega (arith, h))
judged_well given plan places (judged_as.Unknown reason refusal) found text denotes known is zero =
    other_found found (unknown_outcome reason) 0 is.0 zero (λ h. omega (arith, h, unknown_status reason))

pub judged_safe : (files : List ℕ → Option (List ℕ)) (a : AskedJudge) (w : List ℕ) (before after : Failed) (ending : Ending) (given : Given)
    → Hold files a.table a.anacrontab a.declarations given → AnswersJudge a files w before after ending → ending.status ≡ 0 → IsJudgedSafe given
judged_safe files a w before after ending given hold is zero =
    let (k, found) = answered_with 0 (omega arith) Verdict files a w before after ending given hold is zero in
    judged_well given k.plan k.places k.judged.judged k.judged.found ending.out k.is_plan k.judged.known k.judged.printed found

wanted_unsafe : (wanted : Wanted) (files : List ℕ → Option (List ℕ)) (a : AskedJudge) (w : List ℕ) (before after : Failed) (ending : Ending) (given : Given)
    → Hold files a.table a.anacrontab a.declarations given → AnswersWanted wanted a files w before after ending → ending.status ≡ 1 → IsJudgedUnsafe given ending.out
wanted_unsafe wanted files a w before after ending given hold is one =
    let (k, found) = answered_with 1 (omega arith) wanted files a w before after ending given hold is one in
    let j = k.judged in
    let story = unsafe_stands wanted k.plan k.places j.judged j.found ending.out j.known j.printed (unsafe_found j.found found) in
    record {
      plan = k.plan;
      is_plan = k.is_plan;
      places = k.places;
      script = story.script;
      shown = story.shown;
      printed = story.told;
      legal = story.shows.breaks.unsafe.legal;
      in_time = story.shows.breaks.unsafe.in_time;
      unsafe = story.shows.breaks.unsafe.unsafe;
      first = story.shows.breaks.first;
    }

pub judged_unsafe : (files : List ℕ → Option (List ℕ)) (a : AskedJudge) (w : List ℕ) (before after : Failed) (ending : Ending) (given : Given)
    → Hold files a.table a.anacrontab a.declarations given → AnswersJudge a files w before after ending → ending.status ≡ 1 → IsJudgedUnsafe given ending.out
judged_unsafe = wanted_unsafe Verdict

refusal_behind : (plan : Declared) (reason : Reason) (refusal : Option CheckFault) (text : List ℕ) → IfRefused (judged_as.Unknown reason refusal) (IsRefusal plan)
    → IsUnknown plan reason refusal text → IsUnknownText reason text ⊎ IsRefused plan reason text
unfolding refusal_text verdict_text
refusal_behind plan reason None text known is = inl is
refusal_behind plan reason (Some fault) text (content, compact, first) (comments, is) = inr (record { comments = comments; content = content; compact = compact; fault = told fault; first = first; printed = is })

not_known : (given : Given) (plan : Declared) (places : List Place) (judged : Judged) (found : Outcome) (text : List ℕ) → DenotesPlan given plan
    → IsJudgement plan judged → IsAnswer Verdict plan places judged found text → outcome_status found ≡ 2 → IsJudgedUnknown given text
not_known given plan places (judged_as.Safe checked) found text denotes known is two = other_found found outcome.Safe 2 is.0 two (λ h. omega (arith, h))
not_known given plan places (judged_as.Unsafe script shown breach) found text denotes known is two = other_found found outcome.Unsafe 2 is.0 two (λ h. omega (arith, h))
not_known given plan places (judged_as.Unknown reason refusal) found text denotes known is two = record {
  plan = plan;
  is_plan = denotes;
  reason = reason;
  printed = refusal_behind plan reason refusal text known.refused is.1;
}

pub judged_unknown : (files : List ℕ → Option (List ℕ)) (a : AskedJudge) (w : List ℕ) (before after : Failed) (ending : Ending) (given : Given)
    → Hold files a.table a.anacrontab a.declarations given → AnswersJudge a files w before after ending → ending.status ≡ 2 → IsJudgedUnknown given ending.out
judged_unknown files a w before after ending given hold is two =
    let (k, found) = answered_with 2 (omega arith) Verdict files a w before after ending given hold is two in
    not_known given k.plan k.places k.judged.judged k.judged.found ending.out k.is_plan k.judged.known k.judged.printed found

made_well : (given : Given) (plan : Declared) (places : List Place) (judged : Judged) (found : Outcome) (text : List ℕ) → DenotesPlan given plan
    → IsJudgement plan judged → IsMade plan places judged found text → outcome_status found ≡ 0 → IsPrintedSchedule given text
made_well given plan places (judged_as.Safe checked) found text denotes known (inl (safe, (written, is, reads, short, printed))) zero = record {
  certificate = written;
  printed = printed;
  schedule = record {
    schedule = record {
      plan = plan;
      is_plan = denotes;
      content = certificate_in checked;
      is_certificate = reads;
      accepted = subst (λ (d : Declared). fault_of d (certificate_in checked) ≡ None) known.safe.same checked.kept;
      safe = known.headline;
    };
    calm = known.calm;
  };
}
made_well given plan places (judged_as.Safe checked) found text denotes known (inr (unknown, long)) zero = other_found found outcome.Unknown 0 unknown zero (λ h. omega (arith, h))
made_well given plan places (judged_as.Unsafe script shown breach) found text denotes known is zero = other_found found outcome.Unsafe 0 is.0 zero (λ h. omega (arith, h))
made_well given plan places (judged_as.Unknown reason refusal) found text denotes known is zero =
    other_found found (unknown_outcome reason) 0 is.0 zero (λ h. omega (arith, h, unknown_status reason))

-- a compact certificate is printed as another is
is_made : (compact : Bool) (plan : Declared) (places : List Place) (judged : Judged) (found : Outcome) (text : List ℕ) → IsAnswer (wanted_of compact) plan places judged found text → IsMade plan places judged found text
is_made true plan places judged found text is = is.1
is_made false plan places judged found text is = is

pub made_safe : (files : List ℕ → Option (List ℕ)) (a : AskedMake) (w : List ℕ) (before after : Failed) (ending : Ending) (given : Given)
    → Hold files a.judge.table a.judge.anacrontab a.judge.declarations given → AnswersMake a files w before after ending → ending.status ≡ 0 → IsPrintedSchedule given ending.out
made_safe files a w before after ending given hold is zero =
    let (k, found) = answered_with 0 (omega arith) (wanted_of a.compact) files a.judge w before after ending given hold is zero in
    made_well given k.plan k.places k.judged.judged k.judged.found ending.out k.is_plan k.judged.known (is_made a.compact k.plan k.places k.judged.judged k.judged.found ending.out k.judged.printed) found

pub made_unsafe : (files : List ℕ → Option (List ℕ)) (a : AskedMake) (w : List ℕ) (before after : Failed) (ending : Ending) (given : Given)
    → Hold files a.judge.table a.judge.anacrontab a.judge.declarations given → AnswersMake a files w before after ending → ending.status ≡ 1 → IsJudgedUnsafe given ending.out
made_unsafe files a w before after ending given hold is one = wanted_unsafe (wanted_of a.compact) files a.judge w before after ending given hold is one
