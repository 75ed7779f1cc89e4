use Rattle.std.proofs.Common.{◌≡◌, ◌++◌, ℕ, Bool}
use Rattle.cs_schedule.specs.Minutes.{minutes_where}
use Rattle.cs_zone.specs.Starts.{is_due}
use Rattle.cs_zone.proofs.Collecting.{is_found}
use Rattle.cs_zone.proofs.shape.search.Given as goal

abbrev pub invariant-loop-minute : goal.invariant-loop-minute
invariant-loop-minute l =
    (l.yielded ++ l.minute-iterator ≡ l.near)
    × ((test : ℕ → Bool) → l.initial.minutes ≡ minutes_where test → l.minutes ≡ minutes_where (is_found test (is_due l.zone l.schedule l.kind) l.yielded))
