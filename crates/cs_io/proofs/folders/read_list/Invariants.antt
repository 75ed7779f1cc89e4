use Rattle.std.proofs.Common.{◌≡◌, length}
use Rattle.std.specs.Io.KnownBytes.{Consumes}
use Rattle.cs_io.proofs.folders.read_list.Given as goal

-- the list is what was read so far
pub record Reading (g : goal.Over) (l : goal.Live-loop-reads g) : Type 0 where
  pub room : length l.buf ≡ 4096
  pub bytes : Consumes (g.D.Read.remaining l.initial.folder) (g.D.Read.remaining l.folder) l.list.items

abbrev pub invariant-loop-reads : goal.invariant-loop-reads
invariant-loop-reads g l = Reading g l
