-- What is wrong with a daemon's state.
use Rattle.std.specs.Prelude.{ℕ, ◌+◌, nat_le, nat_lt, Bool, false, ◌&&◌, ◌||◌, not, Option, None, Some}

-- more than two minutes old, from a daemon that still starts runs
abbrev pub is_old : Bool → ℕ → ℕ → Bool
is_old is_stopping at now = not is_stopping && nat_lt (at + 120) now

-- a stamp couldn't be written within the two minutes before the state
abbrev pub is_recent : ℕ → Option ℕ → Bool
is_recent at None = false
is_recent at (Some fault_at) = nat_le at (fault_at + 120)

-- that, a run is late, a job's last run failed, or the files that were accepted last are run
abbrev pub has_fault : ℕ → Option ℕ → Bool → Bool → Bool → Bool
has_fault at fault_at has_late has_failed has_last_accepted =
    is_recent at fault_at || has_late || has_failed || has_last_accepted
