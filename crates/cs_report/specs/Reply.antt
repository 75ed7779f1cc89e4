-- The texts of replies and refusals.
use Rattle.std.specs.Prelude.{ℕ, Bool, true, false, List, ◌++◌, codes, Result, Ok, Err}
use Rattle.cs_history.specs.Printed.{refusal_text}
use Rattle.cs_history.specs.declared.reply.Reply.{Reply}
use Rattle.cs_history.specs.declared.reply.Reply.TheVariants.{Clock, Started, Waiting, Skipped}
use Rattle.cs_history.specs.declared.reply.Reply.TheVariants.{Ended, Went, Came}
use Rattle.cs_history.specs.declared.refusal.Refusal.{Refusal}
use Rattle.cs_history.specs.declared.refusal.Refusal.TheVariants.{NotUp, AlreadyUp, WrongMinute}
use Rattle.cs_history.specs.declared.refusal.Refusal.TheVariants.{NotSettled, NotDue, LockHeld}
use Rattle.cs_history.specs.declared.refusal.Refusal.TheVariants.{NotWaiting, NotRunning}
use Rattle.cs_history.specs.declared.refusal.Refusal.TheVariants.{NotCatchable, OutOfRange}
use Rattle.cs_history.specs.declared.refusal.Refusal.TheVariants.{HistoryFull, OutOfMemory}

-- whether a run ended within its declared time
abbrev pub ended_text : Bool → List ℕ
ended_text true = codes "ended in time"
ended_text false = codes "ended late"

abbrev pub taken_text : Reply → List ℕ
taken_text Clock = codes "clock"
taken_text (Started run) = codes "started"
taken_text Waiting = codes "waiting"
taken_text Skipped = codes "skipped"
taken_text (Ended in_time) = ended_text in_time
taken_text Went = codes "went"
taken_text Came = codes "came"

abbrev pub refused_text : Refusal → List ℕ
refused_text OutOfMemory = codes "out of memory"
refused_text NotUp = codes "refused " ++ refusal_text NotUp
refused_text AlreadyUp = codes "refused " ++ refusal_text AlreadyUp
refused_text WrongMinute = codes "refused " ++ refusal_text WrongMinute
refused_text NotSettled = codes "refused " ++ refusal_text NotSettled
refused_text NotDue = codes "refused " ++ refusal_text NotDue
refused_text LockHeld = codes "refused " ++ refusal_text LockHeld
refused_text NotWaiting = codes "refused " ++ refusal_text NotWaiting
refused_text NotRunning = codes "refused " ++ refusal_text NotRunning
refused_text NotCatchable = codes "refused " ++ refusal_text NotCatchable
refused_text OutOfRange = codes "refused " ++ refusal_text OutOfRange
refused_text HistoryFull = codes "refused " ++ refusal_text HistoryFull

abbrev pub reply_text : Result Reply Refusal → List ℕ
reply_text (Ok reply) = taken_text reply
reply_text (Err refusal) = refused_text refusal
