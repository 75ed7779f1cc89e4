use Rattle.std.proofs.Common.{◌≡◌, false, take}
use Rattle.std.specs.List.{AllByRecursion}
use Rattle.cs_overlap.specs.Sums.{Locks, NotExclusive}
use Rattle.cs_overlap.proofs.sums.may_clash.Given as goal

abbrev pub invariant-loop-window : goal.invariant-loop-window
invariant-loop-window l = record {
  shared : l.any_exclusive ≡ false → AllByRecursion (NotExclusive l.roles) (take l.window-index l.windows);
  locks : l.any_plain ≡ false → AllByRecursion (Locks l.roles) (take l.window-index l.windows);
}
