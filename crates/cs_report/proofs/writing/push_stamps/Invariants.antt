use Rattle.std.proofs.Common.{◌≡◌, ◌++◌, length}
use Rattle.cs_report.specs.ScriptText.{stamp_lines}
use Rattle.cs_report.proofs.writing.push_stamps.Given as goal

abbrev pub invariant-loop-jobs : goal.invariant-loop-jobs
invariant-loop-jobs l = l.text.items ++ stamp_lines l.jobs l.stamps ≡ l.fn.text.items ++ stamp_lines l.fn.jobs l.fn.stamps

abbrev pub decreases-loop-jobs : goal.decreases-loop-jobs
decreases-loop-jobs l = length l.jobs
