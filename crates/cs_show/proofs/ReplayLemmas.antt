-- A script and its events.
use Rattle.std.proofs.Common.{◌≡◌, ◌≢◌, ℕ, Bool, true, false, if◌then◌else◌, List, [], length, set, Option, Some, None, Result, Ok, Err, refl, sym, ap, subst, inl, inr, length-set, IfSome}
use Rattle.cs_io.specs.Files.{IsUpTo}
use Rattle.cs_plan.specs.Plan.{Declared}
use Rattle.cs_report.specs.Grammar.{Numbered}
use Rattle.cs_report.specs.Script.{Fault as ScriptFault}
use Rattle.cs_report.specs.declared.script.TheConstants.{MAX_SCRIPT}
use Rattle.cs_files.specs.Reads.{MeansIt}
use Rattle.cs_files.specs.Trouble.{InScript, Trouble, ends, trouble}
use Rattle.cs_files.specs.declared.fault.Fault.{Fault}
use Rattle.cs_report.specs.Faults.{Means as MeansScript}
use Rattle.cs_show.specs.Replayed.{IsReplyTo, IsToldBy, MeansGiven, MeansLog, MeansReply, Replies, TellsScript, too_long}
use Rattle.cs_show.specs.declared.replay.Replayable.{Replayable}
use Rattle.cs_args.specs.Asked.{AskedReplay}
use Rattle.cs_files.specs.Response.{Ending}
use Rattle.std.proofs.lemmas.Option.{IfSome_then}
use Rattle.cs_files.proofs.TroubleLemmas.{same_script}
use Rattle.cs_show.specs.Verdict.{MeansPart, as_script}
use Rattle.cs_history.specs.Plan.{Plan}
use Rattle.cs_history.specs.Step.{State, Steps, IsFirst, refusal}
use Rattle.cs_history.specs.declared.event.Event.{Event}
use Rattle.cs_history.specs.declared.reply.Reply.{Reply}
use Rattle.cs_history.specs.declared.refusal.Refusal.{Refusal}
use Rattle.cs_history.specs.declared.refusal.Refusal.TheVariants.{OutOfMemory}
use Rattle.cs_show.specs.Replay.{tried, next}

-- a step that was refused for another reason than memory
first_is : (f : Refusal) (o : Option Refusal) → f ≢ OutOfMemory → IsFirst f o → o ≡ Some f
first_is f None other first = absurd (other first)
first_is f (Some g) other first = ap Some (sym first)

pub step_taken : (p : Plan) (s : State) (e : Event) (r : Reply) (n : State) → Steps p s e (Ok r) n → (Ok r ≡ tried p s e) × (n ≡ next p s e)
step_taken p s e r n (none, said, behind) = (rw none (ap Ok said), rw none behind)

pub step_refused : (p : Plan) (s : State) (e : Event) (f : Refusal) (n : State) → f ≢ OutOfMemory → Steps p s e (Err f) n → (Err f ≡ tried p s e) × (n ≡ next p s e)
step_refused p s e f n other (first, behind) =
    let is = first_is f (refusal p s e) other first in
    (rw is refl, rw is behind)

comment_length : (b : Bool) (text : List ℕ) → length (if b then set text 0 35 else text) ≡ length text
comment_length true text = length-set text 0 35
comment_length false text = refl

part_length : (judge : Bool) (text : List ℕ) → length (as_script judge text) ≡ length text
unfolding as_script
part_length judge text = comment_length _ text

-- scripts that are too long have one fault, whatever their first line is
pub same_part : (d : Declared) (judge : Bool) (bytes : List ℕ) (m : Result Numbered ScriptFault) (text : List ℕ) → IsUpTo MAX_SCRIPT text bytes → MeansPart d judge bytes m → MeansPart d judge text m
same_part d judge bytes m text (inl e) means = subst (λ (b : List ℕ). MeansPart d judge b m) e means
same_part d judge bytes m text (inr long) means =
    let one = part_length judge bytes in
    let other = part_length judge text in
    same_script d (as_script judge bytes) m (as_script judge text) (inr (rw one long.0, rw other long.1)) means

-- and so have logs
same_told : (d : Declared) (log : List ℕ) (m : Result Numbered ScriptFault) (text : List ℕ) → IsUpTo MAX_SCRIPT text log → MeansLog d log m → MeansLog d text m
same_told d log m text (inl e) means = subst (λ (b : List ℕ). MeansLog d b m) e means
same_told d log m text (inr long) (script, told, means) = (script, (λ past. told long.0), means)

pub same_given : (d : Declared) (judge log : Bool) (bytes : List ℕ) (m : Result Numbered ScriptFault) (text : List ℕ) → IsUpTo MAX_SCRIPT text bytes → MeansGiven d judge log bytes m → MeansGiven d judge log text m
same_given d judge false bytes m text up means = same_part d judge bytes m text up means
same_given d judge true bytes m text up means = same_told d bytes m text up means

pub same_text : (log : List ℕ) (m : Result (List ℕ) ScriptFault) (text : List ℕ) → IsUpTo MAX_SCRIPT text log → TellsScript log m → TellsScript text m
same_text log m text (inl e) tells = subst (λ (b : List ℕ). TellsScript b m) e tells
same_text log (Ok script) text (inr long) tells = λ past. tells long.0
same_text log (Err fault) text (inr long) (tells, is) = ((λ past. tells long.0), is)

-- what the script means that a log gives
pub told_means : (d : Declared) (log script : List ℕ) (r : Result Numbered Fault) → IsToldBy log (Some script) → MeansIt (MeansScript d) InScript script r → MeansIt (MeansLog d) InScript log r
told_means d log script (Ok m) told means = (Some script, told, means)
told_means d log script (Err e) told means = by_trouble (trouble e) means
  where
    by_trouble : (o : Option Trouble) → IfSome o (λ t. (fault : ScriptFault) × (t ≡ InScript fault) × MeansScript d script (Err fault)) → IfSome o (λ t. (fault : ScriptFault) × (t ≡ InScript fault) × MeansLog d log (Err fault))
    by_trouble None h = h
    by_trouble (Some t) (fault, is, stands) = (fault, is, (Some script, told, stands))

-- a log that gives no script counts as too long
pub none_means : (d : Declared) (log : List ℕ) (e : Fault) → IsToldBy log None → trouble e ≡ Some (InScript too_long) → MeansIt (MeansLog d) InScript log (Err e)
none_means d log e told is = rw is (too_long, refl, (None, told, refl))

pub none_tells : (log : List ℕ) (e : Fault) → IsToldBy log None → trouble e ≡ Some (InScript too_long) → MeansIt TellsScript InScript log (Err e)
none_tells log e told is = rw is (too_long, refl, (told, refl))

-- the answer to a script that is too long is the same, whatever its text
same_reply : (b : Bool) (a : AskedReplay) (d : Declared) (bytes : List ℕ) (r : Result Ending ScriptFault) (text : List ℕ) → IsUpTo MAX_SCRIPT text bytes → Replies b a d bytes r → Replies b a d text r
same_reply false a d bytes (Ok answer) text up (script, means, replayed) = (script, same_given d a.judge a.log bytes (Ok script) text up means, replayed)
same_reply false a d bytes (Err fault) text up means = same_given d a.judge a.log bytes (Err fault) text up means
same_reply true a d bytes (Ok answer) text up (script, tells, is) = (script, same_text bytes (Ok script) text up tells, is)
same_reply true a d bytes (Err fault) text up tells = same_text bytes (Err fault) text up tells

pub reply_to : (a : AskedReplay) (x : Replayable) (r : Ending) → MeansReply a x.plan x.script.items (Ok r) → IsReplyTo a x r
reply_to a x r means = (Ok r, λ text up. same_reply a.show_script a x.plan x.script.items (Ok r) text up means, refl)

pub fault_to : (a : AskedReplay) (x : Replayable) (e : Fault) → MeansIt (MeansReply a x.plan) InScript x.script.items (Err e) → IfSome (trouble e) (λ t. IsReplyTo a x (ends [] t))
fault_to a x e means = IfSome_then (trouble e) means (λ t h. let (fault, is, stands) = h in (Err fault, (λ text up. same_reply a.show_script a x.plan x.script.items (Err fault) text up stands), ap (ends []) is))
