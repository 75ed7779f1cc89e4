-- What was accepted, and the files that denote it.
use Rattle.std.proofs.Common.{◌≡◌, ◌≢◌, ◌<◌, ◌∙◌, ℕ, true, List, [], Option, Some, None, IfSome, Result, Ok, Err, IfErr, IfOk, ap, inl, inr, length, nat_lt, refl, subst}
use Rattle.std.proofs.lemmas.Bool.{lt-ltb}
use Rattle.std.proofs.lemmas.Option.{IfSome_then}
use Rattle.cs_place.specs.declared.places.Place.{Place}
use Rattle.cs_claims.specs.Certificate.{content}
use Rattle.cs_claims.specs.Content.{Content}
use Rattle.cs_cert.specs.Denoted.{certificate_by}
use Rattle.cs_claims.specs.declared.certificate.Certificate.{Certificate}
use Rattle.cs_claims.specs.declared.fault.CertFault.TheVariants.{TooLong}
use Rattle.cs_claims.specs.declared.limits.TheConstants.{MAX_CERTIFICATE}
use Rattle.cs_theorem.specs.Faults.{Fault as Broken}
use Rattle.cs_theorem.specs.declared.check_fault.CheckFault.{CheckFault}
use Rattle.cs_check.specs.Case.{fault_of}
use Rattle.cs_check.specs.Checked.{certificate_in, plan_in}
use Rattle.cs_check.specs.declared.checked.Checked.{Checked}
use Rattle.cs_args.specs.Asked.{AskedCheck, AskedRun}
use Rattle.cs_owner.specs.declared.owners.Unowned.{Unowned}
use Rattle.cs_owner.specs.declared.owners.Unowned.TheVariants.{NoMemory, NoPlace, Unfit}
use Rattle.cs_ruling.specs.Answer.{AnswersRun, IfEnds, IsRuled, Refuses}
use Rattle.cs_ruling.specs.Check.{AreDigestsOf, FindsClaimed, IsDigestAt, IsDigestOf, IsVerdict, IsVerdictOn, answer_of, said}
use Rattle.cs_ruling.specs.Safe.{IsAccepted, IsChecked, IsReplyOn, IsSafe}
use Rattle.cs_ruling.specs.declared.answer.Answer.{Answer}
use Rattle.cs_ruling.specs.declared.answer.Answer.TheVariants.{Applies, Ends, Reloads, Runs, Stops, Tells}
use Rattle.cs_ruling.specs.declared.check.Claimed.{Claimed}
use Rattle.cs_ruling.specs.declared.check.Digests.{Digests}
use Rattle.cs_files.specs.Reads.{IsRead, MeansIt, without_rest}
use Rattle.cs_files.specs.declared.fault.Fault.{Fault as FilesFault}
use Rattle.cs_args.specs.Asked.{Text}
use Rattle.sha2.specs.Sha256.{sha256}
use Rattle.cs_files.specs.Response.{Ending}
use Rattle.cs_files.specs.Trouble.{IsHonest, Trouble, ends, trouble, trouble_status}
use Rattle.cs_io.specs.Files.{Failed, IsFresh, IsUpTo, Reads}
use Rattle.cs_files.specs.Trouble.{InAnacrontab, InCertificate, InCrontab, InDeclarations, InGathered, InScript, InWords, NoTimeZone, Unread}

-- what the checker accepts of what is claimed
pub accepted : (x : Claimed) (checked : Checked) (places : List Place) (ruled : Result Checked (Ending × CheckFault))
    → places ≡ x.planned.places → ruled ≡ Ok checked → IsVerdict x.planned.plan places (fault_of x.planned.plan (content x.certificate)) (answer_of ruled)
    → IfOk ruled (λ c. (plan_in c ≡ x.planned.plan) × (certificate_in c ≡ content x.certificate)) → IfOk ruled IsSafe → IsAccepted x checked
accepted x checked places ruled same is verdict kept safe =
    let fault = fault_of x.planned.plan (content x.certificate) in
    let pair = subst (λ (r : Result Checked (Ending × CheckFault)). IfOk r (λ c. (plan_in c ≡ x.planned.plan) × (certificate_in c ≡ content x.certificate))) is kept in
    record {
      plan = pair.0;
      certificate = pair.1;
      verdict = subst (λ (ps : List Place). IsVerdict x.planned.plan ps fault (answer_of (Ok checked))) same (subst (λ (r : Result Checked (Ending × CheckFault)). IsVerdict x.planned.plan places fault (answer_of r)) is verdict);
      safe = subst (λ (r : Result Checked (Ending × CheckFault)). IfOk r IsSafe) is safe;
    }

-- and what it refuses
pub refused : (x : Claimed) (answer : Ending × CheckFault) (places : List Place) (ruled : Result Checked (Ending × CheckFault))
    → places ≡ x.planned.places → ruled ≡ Err answer → IsVerdict x.planned.plan places (fault_of x.planned.plan (content x.certificate)) (answer_of ruled)
    → IfErr ruled (λ a. a.0.status ≡ 1) → IsVerdictOn x answer.0 × (answer.0.status ≡ 1)
refused x answer places ruled same is verdict one =
    let fault = fault_of x.planned.plan (content x.certificate) in (
      subst (λ (ps : List Place). IsVerdict x.planned.plan ps fault answer.0) same (subst (λ (r : Result Checked (Ending × CheckFault)). IsVerdict x.planned.plan places fault (answer_of r)) is verdict),
      subst (λ (r : Result Checked (Ending × CheckFault)). IfErr r (λ a. a.0.status ≡ 1)) is one,
    )

pub refused_reply : (x : Claimed) (answer : Ending × CheckFault) (places : List Place) (ruled : Result Checked (Ending × CheckFault))
    → places ≡ x.planned.places → ruled ≡ Err answer → IsVerdict x.planned.plan places (fault_of x.planned.plan (content x.certificate)) (answer_of ruled)
    → IfErr ruled (λ a. a.0.status ≡ 1) → IsReplyOn x answer.0
refused_reply x answer places ruled same is verdict one =
    let (said, status) = refused x answer places ruled same is verdict one in
    record { verdict = said; safe = λ zero. absurd (cc) }

not_too_long : (bytes : List ℕ) (c : Content) → certificate_by bytes ≡ Ok c → MAX_CERTIFICATE < length bytes → ⊥
unfolding certificate_by
not_too_long bytes c is long =
    let past : nat_lt MAX_CERTIFICATE (length bytes) ≡ true = lt-ltb MAX_CERTIFICATE (length bytes) long in
    let clash : Err TooLong ≡ Ok c = rw past at is in absurd (cc)

-- what was read and hashed is what the file holds
pub digest_read : (files left : List ℕ → Option (List ℕ)) (path : Text) (bytes : List ℕ) (result : Result (Certificate × List ℕ) FilesFault)
    → IsFresh files left → IsRead MAX_CERTIFICATE path left bytes → MeansIt {M = Content} (λ b c. certificate_by b ≡ c) InCertificate bytes (said (without_rest result))
    → IfOk result (λ found. found.1 ≡ sha256 bytes) → IfOk result (λ found. IsDigestOf files path (content found.0) found.1)
digest_read files left path bytes (Err fault) fresh read tells hashed = hashed
digest_read files left path bytes (Ok found) fresh read tells hashed = record {
  bytes = bytes;
  denote = tells;
  held = by_file (files path) (left path) (fresh path) read;
  hashed = hashed;
}
  where
    same : (text : List ℕ) → IsUpTo MAX_CERTIFICATE text bytes → bytes ≡ text
    same text (inl e) = e
    same text (inr long) = absurd (not_too_long bytes (content found.0) tells long.0)

    by_file : (whole rest : Option (List ℕ)) → IfSome whole (λ text. rest ≡ Some text) → IfSome rest (λ text. IsUpTo MAX_CERTIFICATE text bytes) → IfSome whole (λ text. bytes ≡ text)
    by_file None rest same_rest up = same_rest
    by_file (Some text) rest same_rest up = same text (subst (λ (o : Option (List ℕ)). IfSome o (λ t. IsUpTo MAX_CERTIFICATE t bytes)) same_rest up)

-- the digest of a text is that of the file that holds it
pub digest_at : (files : List ℕ → Option (List ℕ)) (path : Text) (text digest : List ℕ)
    → IfSome (files path) (λ bytes. text ≡ bytes) → digest ≡ sha256 text → IsDigestAt files path digest
digest_at files path text digest held is = IfSome_then (files path) held (λ bytes same. is ∙ ap sha256 same)

-- they are those of what the files hold
pub digests_of : (files : List ℕ → Option (List ℕ)) (a : AskedCheck) (c : Content) (digests : Digests) (table declarations certificate : List ℕ)
    → files a.table ≡ Some table → files a.declarations ≡ Some declarations → files a.certificate ≡ Some certificate → AreDigestsOf files a c digests
    → digests ≡ record { table = sha256 table; declarations = sha256 declarations; certificate = sha256 certificate }
digests_of files a c digests table declarations certificate one two three are =
    let at : (path : Text) (text digest : List ℕ) → files path ≡ Some text → IsDigestAt files path digest → digest ≡ sha256 text =
    λ path text digest holds is. subst (λ (o : Option (List ℕ)). IfSome o (λ t. digest ≡ sha256 t)) holds is in
    let first = at a.table table digests.table one are.table in
    let second = at a.declarations declarations digests.declarations two are.declarations in
    let third = are.certificate.hashed ∙ ap sha256 (subst (λ (o : Option (List ℕ)). IfSome o (λ t. are.certificate.bytes ≡ t)) three are.certificate.held) in
    subst (λ (t : List ℕ). digests ≡ record { table = t; declarations = sha256 declarations; certificate = sha256 certificate }) first
    (subst (λ (t : List ℕ). digests ≡ record { table = digests.table; declarations = t; certificate = sha256 certificate }) second
    (subst (λ (t : List ℕ). digests ≡ record { table = digests.table; declarations = digests.declarations; certificate = t }) third refl))

fails : (t : Trouble) → trouble_status t ≢ 0
fails (InWords fault) = λ e. absurd (cc)
fails (Unread path reason) = λ e. absurd (cc)
fails (InCrontab fault) = λ e. absurd (cc)
fails (InAnacrontab fault) = λ e. absurd (cc)
fails (InGathered path fault) = λ e. absurd (cc)
fails (InDeclarations fault) = λ e. absurd (cc)
fails (InScript fault) = λ e. absurd (cc)
fails (InCertificate fault) = λ e. absurd (cc)
fails (NoTimeZone path) = λ e. absurd (cc)

-- a fault of the files of `check`, of which it answers no `safe`
pub check_stopped : (a : AskedCheck) (files : List ℕ → Option (List ℕ)) (w : List ℕ) (before after : Failed) (e : FilesFault)
    → IfSome (trouble e) (λ t. FindsClaimed files a w before after (Err t)) → IfSome (trouble e) (λ t. IsChecked a files w before after (ends [] t))
check_stopped a files w before after e found = IfSome_then (trouble e) found (λ t is. record { answer = inl (t, is, refl); safe = λ zero. absurd (fails t zero) })

-- a plan and a certificate that were read, and the answer to them
pub check_answered : (a : AskedCheck) (files : List ℕ → Option (List ℕ)) (w : List ℕ) (before after : Failed) (x : Claimed) (r : Ending)
    → FindsClaimed files a w before after (Ok x) → IsReplyOn x r → IsChecked a files w before after r
check_answered a files w before after x r found reply = record {
  answer = inr (x, found, reply.verdict);
  safe = λ zero. let (checked, accepted) = reply.safe zero in record { claimed = x; read = found.1; checked = checked; accepted = accepted };
}

pub run_stopped : (a : AskedRun) (files : List ℕ → Option (List ℕ)) (w : List ℕ) (before after : Failed) (e : FilesFault)
    → IfSome (trouble e) (λ t. FindsClaimed files a.check w before after (Err t)) → IfSome (trouble e) (λ t. AnswersRun a files w before after (Ends (ends [] t)))
run_stopped a files w before after e found = IfSome_then (trouble e) found (λ t is. inl (t, is, refl))

pub verdict_done : (x : Claimed) (r : Ending) → IsVerdictOn x r → r.status ≢ 6
verdict_done x r verdict = by_fault (fault_of x.planned.plan (content x.certificate)) verdict
  where
    by_fault : (f : Option Broken) → IsVerdict x.planned.plan x.planned.places f r → r.status ≢ 6
    by_fault None (more, is) = λ six. let zero : r.status ≡ 0 = ap (λ (e : Ending). e.status) is in absurd (cc)
    by_fault (Some fault) (more, is) = λ six. let one : r.status ≡ 1 = ap (λ (e : Ending). e.status) is in absurd (cc)

refused_status : (fault : Unowned) (e : Ending) → Refuses fault e → e.status ≡ 3
refused_status (NoPlace number) e is = ap (λ (r : Ending). r.status) is
refused_status (Unfit number) e is = ap (λ (r : Ending). r.status) is
refused_status NoMemory e is = absurd is

pub ruled_done : (a : AskedRun) (x : Claimed) (answer : Answer) → IsRuled a x answer → IfEnds (λ e. e.status ≢ 6) answer
ruled_done a x (Ends e) (inl (verdict, one)) = λ six. absurd (cc)
ruled_done a x (Ends e) (inr others) = λ six. let three : e.status ≡ 3 = refused_status others.fault e others.told in absurd (cc)
ruled_done a x (Runs order) is = tt
ruled_done a x (Stops words) is = absurd is
ruled_done a x (Reloads folder) is = absurd is
ruled_done a x (Applies certificate folder made) is = absurd is
ruled_done a x (Tells words) is = absurd is

pub ends_honest : (failed : Failed) (reads : Reads) (answer : Answer) → IfEnds (λ e. e.status ≢ 6) answer → IfEnds (IsHonest failed reads) answer
ends_honest failed reads (Ends e) other = λ six. absurd (other six)
ends_honest failed reads (Runs order) other = tt
ends_honest failed reads (Stops words) other = tt
ends_honest failed reads (Reloads folder) other = tt
ends_honest failed reads (Applies certificate folder made) other = tt
ends_honest failed reads (Tells words) other = tt
