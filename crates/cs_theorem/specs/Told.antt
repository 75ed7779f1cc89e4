use Rattle.cs_theorem.specs.Faults.{Fault, ClassNotDue, Missing, BacklogRises, ReachTooShort, WindowMissing, Collision, OverCapacity, SkipBlocked}
use Rattle.cs_theorem.specs.declared.check_fault.CheckFault.{CheckFault}
use Rattle.cs_theorem.specs.declared.check_fault.CheckFault.TheVariants as faults

abbrev pub told : CheckFault → Fault
told (faults.ClassNotDue kind) = ClassNotDue kind
told (faults.MissingPair kinds) = Missing kinds.items
told (faults.BacklogRises group at) = BacklogRises group at
told (faults.ReachTooShort job) = ReachTooShort job
told (faults.WindowMissing window at) = WindowMissing window at
told (faults.Collision at one other) = Collision at one other
told (faults.OverCapacity at load) = OverCapacity at load
told (faults.SkipBlocked at skip other) = SkipBlocked at skip other
