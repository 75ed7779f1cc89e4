-- The refusals as printed: number and name.
use Rattle.std.specs.Prelude.{ℕ, List, codes}
use Rattle.cs_history.specs.declared.refusal.Refusal.{Refusal}
use Rattle.cs_history.specs.declared.refusal.Refusal.TheVariants.{NotUp, AlreadyUp, WrongMinute, NotSettled, NotDue, LockHeld, NotWaiting, NotRunning, NotCatchable, OutOfRange, HistoryFull, OutOfMemory}

abbrev pub refusal_text : Refusal → List ℕ
refusal_text NotUp = codes "1 NotUp"
refusal_text AlreadyUp = codes "2 AlreadyUp"
refusal_text WrongMinute = codes "3 WrongMinute"
refusal_text NotSettled = codes "4 NotSettled"
refusal_text NotDue = codes "5 NotDue"
refusal_text LockHeld = codes "6 LockHeld"
refusal_text NotWaiting = codes "7 NotWaiting"
refusal_text NotRunning = codes "8 NotRunning"
refusal_text NotCatchable = codes "9 NotCatchable"
refusal_text OutOfRange = codes "10 OutOfRange"
refusal_text HistoryFull = codes "11 HistoryFull"
refusal_text OutOfMemory = codes "out of memory"
