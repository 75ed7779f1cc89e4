-- The minutes of a day on which the wall is shifted, by the times that it shows.
use Rattle.std.proofs.Common.{◌≡◌, ℕ, ◌+◌, ◌%◌, ◌<◌, Bool, cond, ◌&&◌, nat_le, nat_lt, arith}
use Rattle.std.proofs.lemmas.Bool.Decides.{nat_tests}
use Rattle.cs_schedule.specs.Minutes.{minutes_where}
use Rattle.cs_schedule.specs.Times.{Times, is_time_due, is_time_shown}
use Rattle.cs_zone.specs.Shape.{is_due_shifted, is_turned, turn}
use Rattle.cs_zone.specs.Zone.{IsZone, Zone}
use Rattle.cs_zone.proofs.Collecting.{same_where}

-- those before a turn show one of the two days, and those from it on the other one
in_day : (z : Zone) (k : ℕ) (same other listed : Bool) → IsZone z → k < 1440
    → (nat_le (cond (cond z.ahead other same) 0 (turn z)) ((k + turn z) % 1440) && (nat_lt ((k + turn z) % 1440) (cond (cond z.ahead same other) 1440 (turn z)) && listed)) ≡ (cond (is_turned z k) other same && listed)
in_day z k same other listed h lt = grind (arith, nat_tests, h.saving)

pub in_turn : (z : Zone) (s : Times) (same other below above : Bool) (turned from to : ℕ) → IsZone z → turned ≡ turn z → below ≡ cond z.ahead other same → above ≡ cond z.ahead same other → from ≡ cond below 0 turned → to ≡ cond above 1440 turned
    → minutes_where (is_time_shown s turned from to) ≡ minutes_where (is_due_shifted z s same other)
in_turn z s same other below above turned from to h turned_is below_is above_is from_is to_is =
    same_where (is_time_shown s turned from to) (is_due_shifted z s same other) (λ k lt. rw (from_is, to_is, below_is, above_is, turned_is) (in_day z k same other (is_time_due s ((k + turn z) % 1440)) h lt))
