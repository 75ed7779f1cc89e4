use Rattle.std.specs.Prelude.{ℕ, List, codes}
use Rattle.cs_maker.specs.declared.reason.Reason.{Reason}
use Rattle.cs_maker.specs.declared.reason.Reason.TheVariants.{TooManyClasses, LeafTooLong, TooDeep, NoReach, NoScript, NotChecked, NoMemory}

abbrev pub reason_name : Reason → List ℕ
reason_name TooManyClasses = codes "TooManyClasses"
reason_name LeafTooLong = codes "LeafTooLong"
reason_name TooDeep = codes "TooDeep"
reason_name NoReach = codes "NoReach"
reason_name NoScript = codes "NoScript"
reason_name NotChecked = codes "NotChecked"
reason_name NoMemory = codes "NoMemory"
