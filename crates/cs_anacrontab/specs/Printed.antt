-- The faults of an anacrontab as printed: number and name.
use Rattle.std.specs.Prelude.{ℕ, List, codes}
use Rattle.cs_anacrontab.specs.declared.fault.JobFault.{JobFault}
use Rattle.cs_anacrontab.specs.declared.fault.JobFault.TheVariants as faults

abbrev pub fault_text : JobFault → List ℕ
fault_text faults.TooLong = codes "1 TooLong"
fault_text faults.NulByte = codes "2 NulByte"
fault_text faults.BadSetting = codes "3 BadSetting"
fault_text faults.UnknownWord = codes "4 UnknownWord"
fault_text faults.MissingField = codes "5 MissingField"
fault_text faults.BadPeriod = codes "6 BadPeriod"
fault_text faults.BadDelay = codes "7 BadDelay"
fault_text faults.BadIdentifier = codes "8 BadIdentifier"
fault_text faults.TwiceNamed = codes "9 TwiceNamed"
fault_text faults.Continued = codes "10 Continued"
fault_text faults.TooManyJobs = codes "11 TooManyJobs"
