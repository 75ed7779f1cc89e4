use Rattle.std.proofs.Common.{◌≡◌, List, length, map}
use Rattle.cs_io.specs.Files.{AreReadInTurn, Failed, IsFresh, Reads}
use Rattle.cs_files.specs.Trouble.{Trouble}
use Rattle.cs_gather.specs.Answer.{AllAdded, FirstStops, Sum, sum_of}
use Rattle.cs_gather.proofs.answer.add_tables.Given as goal

-- what holds of the tables that are left holds of all
pub record Adding (g : goal.Over) (l : goal.Live-loop-rest g) : Type 0 where
  pub whole : g.I.Inputs.whole l.inputs ≡ g.I.Inputs.whole l.fn.inputs
  pub fresh : IsFresh (g.I.Inputs.whole l.fn.inputs) (g.I.Inputs.left l.fn.inputs) → IsFresh (g.I.Inputs.whole l.inputs) (g.I.Inputs.left l.inputs)
  pub adds : IsFresh (g.I.Inputs.whole l.fn.inputs) (g.I.Inputs.left l.fn.inputs) → (more : Sum) → AllAdded (g.I.Inputs.whole l.fn.inputs) l.rest (sum_of l.gathering) more → AllAdded (g.I.Inputs.whole l.fn.inputs) l.fn.tables (sum_of l.fn.gathering) more
  pub stops : IsFresh (g.I.Inputs.whole l.fn.inputs) (g.I.Inputs.left l.fn.inputs) → (failed : Failed) → (t : Trouble) → FirstStops (g.I.Inputs.whole l.fn.inputs) failed l.rest (sum_of l.gathering) t → FirstStops (g.I.Inputs.whole l.fn.inputs) failed l.fn.tables (sum_of l.fn.gathering) t
  pub turn : (new : Reads) → AreReadInTurn (map (λ given. given.path) l.rest) (g.I.Inputs.reads l.inputs) new → AreReadInTurn (map (λ given. given.path) l.fn.tables) (g.I.Inputs.reads l.fn.inputs) new

abbrev pub invariant-loop-rest : goal.invariant-loop-rest
invariant-loop-rest g l = Adding g l

abbrev pub decreases-loop-rest : goal.decreases-loop-rest
decreases-loop-rest g l = length l.rest
