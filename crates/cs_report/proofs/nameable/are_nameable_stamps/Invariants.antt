use Rattle.std.proofs.Common.{◌≡◌, length}
use Rattle.cs_report.specs.ScriptText.{are_nameable_stamps}
use Rattle.cs_report.proofs.nameable.are_nameable_stamps.Given as goal

abbrev pub invariant-loop-jobs : goal.invariant-loop-jobs
invariant-loop-jobs l = are_nameable_stamps l.jobs l.stamps ≡ are_nameable_stamps l.fn.jobs l.fn.stamps

abbrev pub decreases-loop-jobs : goal.decreases-loop-jobs
decreases-loop-jobs l = length l.jobs
