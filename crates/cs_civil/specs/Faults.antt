-- The faults as printed: number and name.
use Rattle.std.specs.Prelude.{ℕ, List, codes}
use Rattle.cs_civil.specs.declared.fault.CivilFault.{CivilFault}
use Rattle.cs_civil.specs.declared.fault.CivilFault.TheVariants.{NotADate, OutOfRange}

abbrev pub fault_text : CivilFault → List ℕ
fault_text NotADate = codes "1 NotADate"
fault_text OutOfRange = codes "2 OutOfRange"
