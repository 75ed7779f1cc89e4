use Rattle.std.proofs.Common.{ℕ, ◌<◌, map}
use Rattle.cs_wait.specs.Bounds.{IsClearAt, at}
use Rattle.cs_wait.proofs.stretch.clears_by.Given as goal

abbrev pub invariant-loop-minute : goal.invariant-loop-minute
invariant-loop-minute l = (m : ℕ) → l.due < m → m < l.minute → IsClearAt (map (λ b. at b.now) l.days) m → ⊥
