use Rattle.std.proofs.Common.{◌≡◌, drop}
use Rattle.cs_windows.specs.Reach.{reach_of}
use Rattle.cs_windows.proofs.reach.reach_of.Given as goal

abbrev pub invariant-loop-listed : goal.invariant-loop-listed
invariant-loop-listed l = reach_of l.reaches l.job ≡ reach_of (drop l.listed-index l.reaches) l.job
