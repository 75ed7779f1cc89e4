use Rattle.std.proofs.Common.{◌↔◌, ◌≤◌, drop}
use Rattle.cs_wait.specs.Bounds.{IsBacklog, IsBacklogFrom}
use Rattle.cs_wait.proofs.backlog.is_backlog.Given as goal

abbrev pub invariant-loop-piece : goal.invariant-loop-piece
invariant-loop-piece l = (l.least ≤ 1440) × (IsBacklog l.list ↔ IsBacklogFrom l.least (drop l.piece-index l.list))
