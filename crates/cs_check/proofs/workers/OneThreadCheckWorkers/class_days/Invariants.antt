use Rattle.std.proofs.Common.{ℕ, ◌≡◌, length, Some}
use Rattle.std.specs.Prelude.{slice_get}
use Rattle.cs_classes.specs.Said.{said}
use Rattle.cs_check.specs.ClassDays.{IsClassDay}
use Rattle.cs_check.specs.declared.class_day.ClassDay.{ClassDay}
use Rattle.cs_check.proofs.workers.OneThreadCheckWorkers.class_days.Given as goal

abbrev pub invariant-loop-number : goal.invariant-loop-number
invariant-loop-number l = (length l.days.items ≡ l.number) × ((n : ℕ) (day : ClassDay) → slice_get l.days.items n ≡ Some day → IsClassDay l.basis.plan.now (said l.basis.claim.now) n day)
