use Rattle.std.proofs.Common.{◌≡◌, ◌++◌, drop, length, map, take}
use Rattle.cs_claims.specs.Certificate.{bound_in}
use Rattle.cs_wait.specs.Bounds.{at}
use Rattle.cs_classes.proofs.reach.bounds_of.Given as goal

abbrev pub invariant-loop-place : goal.invariant-loop-place
invariant-loop-place l = (length l.bounds ≡ 4) × (map (λ class. bound_in class.now l.group) l.days ≡ map (λ b. at b.now) (take l.place l.bounds) ++ map (λ class. bound_in class.now l.group) (drop l.place l.days))
