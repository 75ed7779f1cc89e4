-- The faults of a crontab as printed: number and name.
use Rattle.std.specs.Prelude.{ℕ, List, codes}
use Rattle.cs_crontab.specs.declared.fault.LineFault.{LineFault}
use Rattle.cs_crontab.specs.declared.fault.LineFault.TheVariants as faults

abbrev pub fault_text : LineFault → List ℕ
fault_text faults.TooLong = codes "1 TooLong"
fault_text faults.NulByte = codes "2 NulByte"
fault_text faults.BadSetting = codes "3 BadSetting"
fault_text faults.UnknownWord = codes "4 UnknownWord"
fault_text faults.MissingField = codes "5 MissingField"
fault_text faults.BadNumber = codes "6 BadNumber"
fault_text faults.OutOfField = codes "7 OutOfField"
fault_text faults.Reversed = codes "8 Reversed"
fault_text faults.BadStep = codes "9 BadStep"
fault_text faults.StepOnNumber = codes "10 StepOnNumber"
fault_text faults.NoCommand = codes "11 NoCommand"
fault_text faults.TooManyJobs = codes "12 TooManyJobs"
