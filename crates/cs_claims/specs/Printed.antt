-- The faults of a certificate as printed.
use Rattle.std.specs.Prelude.{ℕ, List, codes}
use Rattle.cs_claims.specs.declared.fault.CertFault.{CertFault}
use Rattle.cs_claims.specs.declared.fault.CertFault.TheVariants as faults

abbrev pub fault_text : CertFault → List ℕ
fault_text faults.TooLong = codes "1 TooLong"
fault_text faults.NotJson = codes "2 NotJson"
fault_text faults.BadVersion = codes "3 BadVersion"
fault_text faults.BadShape = codes "4 BadShape"
fault_text faults.TooDeep = codes "5 TooDeep"
fault_text faults.BadSplit = codes "6 BadSplit"
fault_text faults.BadClass = codes "7 BadClass"
fault_text faults.BadEntry = codes "8 BadEntry"
fault_text faults.TooManyClasses = codes "9 TooManyClasses"
fault_text faults.LeafTooLong = codes "10 LeafTooLong"
