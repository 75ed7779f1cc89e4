use Rattle.std.proofs.Common.{◌↔◌, All, map}
use Rattle.cs_wait.specs.Bounds.{ClearsBy, at}
use Rattle.cs_classes.proofs.reach.clears_each.Given as goal

abbrev pub invariant-loop-minute : goal.invariant-loop-minute
invariant-loop-minute l = All (λ m. ClearsBy (map (λ b. at b.now) l.bounds) m l.reach) l.minutes ↔ All (λ m. ClearsBy (map (λ b. at b.now) l.bounds) m l.reach) l.minute-iterator
