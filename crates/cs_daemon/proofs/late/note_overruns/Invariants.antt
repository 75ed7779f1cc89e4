use Rattle.std.proofs.Common.{◌≡◌, ◌++◌}
use Rattle.cs_plan.specs.Plan.{as_plan}
use Rattle.cs_daemon.specs.Late.{late_lines}
use Rattle.cs_daemon.proofs.late.note_overruns.Given as goal

abbrev pub invariant-loop-going : goal.invariant-loop-going
invariant-loop-going l = l.notices.lost ≡ 0 → l.notices.lines.items ++ late_lines (as_plan l.core.plan) l.last l.minute l.going-iterator
    ≡ l.fn.notices.lines.items ++ late_lines (as_plan l.core.plan) l.last l.minute l.core.state.running
