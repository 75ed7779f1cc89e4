-- The faults of declarations as printed: number and name.
use Rattle.std.specs.Prelude.{ℕ, ◌+◌, List, [], ◌++◌, Option, Some, None, codes, decimal}
use Rattle.cs_plan.specs.declared.fault.DeclFault.{DeclFault}
use Rattle.cs_plan.specs.declared.fault.DeclFault.TheVariants as faults
use Rattle.cs_plan.specs.declared.fault.Place.{Place}
use Rattle.cs_plan.specs.declared.fault.Place.TheVariants.{Group, Cron, Anacron, LeftOut, Line, Job}
use Rattle.cs_plan.specs.declared.fault.DeclError.{DeclError}
use Rattle.cs_plan.specs.declared.fault.DeclError.TheVariants.{At, OutOfMemory}

abbrev pub fault_text : DeclFault → List ℕ
fault_text faults.NotJson = codes "1 NotJson"
fault_text faults.BadShape = codes "2 BadShape"
fault_text faults.NoSuchLine = codes "3 NoSuchLine"
fault_text faults.Undeclared = codes "4 Undeclared"
fault_text faults.TwiceDeclared = codes "5 TwiceDeclared"
fault_text faults.BadMax = codes "6 BadMax"
fault_text faults.BadWeight = codes "7 BadWeight"
fault_text faults.BadCapacity = codes "8 BadCapacity"
fault_text faults.ModeNeedsGroup = codes "9 ModeNeedsGroup"
fault_text faults.UnknownGroup = codes "10 UnknownGroup"
fault_text faults.TooManyGroups = codes "11 TooManyGroups"
fault_text faults.BadHours = codes "12 BadHours"
fault_text faults.ModeOnAnacron = codes "13 ModeOnAnacron"
fault_text faults.RebootLine = codes "14 RebootLine"
fault_text faults.BadPassMinute = codes "15 BadPassMinute"
fault_text faults.OtherCommand = codes "16 OtherCommand"
fault_text faults.AmbiguousCommand = codes "17 AmbiguousCommand"
fault_text faults.BadParts = codes "18 BadParts"
fault_text faults.OtherSchedule = codes "19 OtherSchedule"
fault_text faults.OtherParts = codes "20 OtherParts"
fault_text faults.BadZone = codes "21 BadZone"
fault_text faults.HoursInZone = codes "22 HoursInZone"
fault_text faults.PassInZone = codes "23 PassInZone"
fault_text faults.StartsTwice = codes "24 StartsTwice"

-- entries are counted from 1; lines go by their numbers, jobs by their identifiers
abbrev pub place_text : Place → List ℕ
place_text (Group i) = codes " at group " ++ decimal (i + 1)
place_text (Cron i) = codes " at cron " ++ decimal (i + 1)
place_text (Anacron i) = codes " at anacron " ++ decimal (i + 1)
place_text (LeftOut i) = codes " at left_out " ++ decimal (i + 1)
place_text (Line number) = codes " at line " ++ decimal number
place_text (Job identifier) = codes " at job " ++ identifier

abbrev pub placed_text : Option Place → List ℕ
placed_text None = []
placed_text (Some place) = place_text place

abbrev pub error_text : DeclError → List ℕ
error_text (At fault place) = fault_text fault ++ placed_text place
error_text OutOfMemory = codes "out of memory"
