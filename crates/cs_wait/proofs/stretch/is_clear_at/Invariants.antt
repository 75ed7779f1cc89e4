use Rattle.std.proofs.Common.{◌↔◌, drop, map}
use Rattle.cs_wait.specs.Bounds.{IsClearAt, at}
use Rattle.cs_wait.proofs.stretch.is_clear_at.Given as goal

abbrev pub invariant-loop-day : goal.invariant-loop-day
invariant-loop-day l = IsClearAt (map (λ b. at b.now) (drop l.day-index l.days)) l.rest ↔ IsClearAt (map (λ b. at b.now) l.days) l.minute
