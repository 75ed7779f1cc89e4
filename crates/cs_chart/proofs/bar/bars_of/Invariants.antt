use Rattle.std.proofs.Common.{◌≡◌, ◌*◌, ◌&&◌, ℕ}
use Rattle.std.specs.Prelude.{nat_lt}
use Rattle.cs_windows.specs.Occupied.{job_of}
use Rattle.cs_chart.specs.Bars.{is_covered, is_occupied}
use Rattle.cs_chart.proofs.bar.bars_of.Given as goal

-- the bars so far are those of the days before this one
abbrev pub invariant-loop-place : goal.invariant-loop-place
invariant-loop-place l = (minute : ℕ)
    → is_covered l.bars.items minute
    ≡ (nat_lt minute (1440 * l.place) && is_occupied (job_of l.occupied) l.span.first minute)
