use Rattle.std.proofs.Common.{◌≡◌, ◌≢◌, ◌≤◌, ℕ, List, Some, IfSome, length, ◌++◌}
use Rattle.cs_io.specs.Files.{IsReadOn}
use Rattle.cs_learn.proofs.reading.read_log.Given as goal

-- each read gave a byte; what was read and what is left are the whole; other paths are as they were
pub record Reading (g : goal.Over) (l : goal.Live-loop-reads g) : Type 0 where
  pub done : List ℕ
  pub room : length l.buf ≡ 4096
  pub count : l._reads ≤ length done
  pub works : g.I.Inputs.failed l.inputs ≡ g.I.Inputs.failed l.initial.inputs
  pub parts : IfSome (g.I.Inputs.left l.initial.inputs l.path) (λ xs. (ys : List ℕ) × (xs ≡ done ++ ys) × (g.I.Inputs.left l.inputs l.path ≡ Some ys))
  pub whole : g.I.Inputs.whole l.inputs ≡ g.I.Inputs.whole l.initial.inputs
  pub alone : IsReadOn l.path l._reads (g.I.Inputs.reads l.initial.inputs) (g.I.Inputs.reads l.inputs)
  pub others : (q : List ℕ) → q ≢ l.path → g.I.Inputs.left l.inputs q ≡ g.I.Inputs.left l.initial.inputs q

abbrev pub invariant-loop-reads : goal.invariant-loop-reads
invariant-loop-reads g l = Reading g l
