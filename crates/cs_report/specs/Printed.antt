-- The faults of a script as printed.
use Rattle.std.specs.Prelude.{ℕ, List, codes}
use Rattle.cs_report.specs.declared.script_fault.ScriptFault.{ScriptFault}
use Rattle.cs_report.specs.declared.script_fault.ScriptFault.TheVariants as faults

abbrev pub fault_text : ScriptFault → List ℕ
fault_text faults.TooLong = codes "1 TooLong"
fault_text faults.BadLine = codes "2 BadLine"
fault_text faults.BadDate = codes "3 BadDate"
fault_text faults.UnknownName = codes "4 UnknownName"
fault_text faults.NoStart = codes "5 NoStart"
