use Rattle.std.proofs.Common.{◌≡◌, ◌<◌, All}
use Rattle.std.specs.List.{list_any}
use Rattle.cs_schedule.specs.Gap.{is_followed}
use Rattle.cs_schedule.proofs.gap.is_met.Given as goal

-- none of the minutes so far
abbrev pub invariant-loop-minute : goal.invariant-loop-minute
invariant-loop-minute l = record {
  day : All (λ minute. minute < 1440) l.minute-iterator;
  rest : list_any (is_followed l.second l.days l.gap) l.minute-iterator ≡ list_any (is_followed l.second l.days l.gap) l.first;
}
