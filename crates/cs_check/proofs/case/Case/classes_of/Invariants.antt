use Rattle.std.proofs.Common.{◌≡◌, length, map, take}
use Rattle.cs_classes.specs.Said.{said}
use Rattle.cs_classes.specs.Claim.{class_at}
use Rattle.cs_check.proofs.case.Case.classes_of.Given as goal

abbrev pub invariant-loop-place : goal.invariant-loop-place
invariant-loop-place l = (length l.classes ≡ 4) × (map (λ class. class.now) (take l.place l.classes) ≡ map (class_at (said l.self.claim.now).classes) (take l.place l.used.of.now))
