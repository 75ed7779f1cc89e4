-- Bounds on the minutes of runs that wait for a group's lock or hold it.
use Rattle.std.specs.Prelude.{◌≡◌, ℕ, ◌+◌, ◌-◌, ◌*◌, ◌<◌, ◌≤◌, List, [], ◌∷◌, length, fold, nat_le, nat_lt, if◌then◌else◌, replicate, min, ◌==◌}
use Rattle.cs_wait.specs.declared.backlog.Piece.{Piece}
use Rattle.cs_civil.specs.declared.minute.TheConstants.{MINUTES_OF_DAY}
use Rattle.cs_wait.specs.declared.backlog.TheConstants.{MAX_BACKLOG}

-- from this minute on, minutes rise strictly below 1,440, and values are from 1 to 1,000,000
abbrev pub IsBacklogFrom : ℕ → List Piece → Type 0
IsBacklogFrom least [] = Unit {0}
IsBacklogFrom least (p ∷ ps) = (least ≤ p.minute) × (p.minute < MINUTES_OF_DAY) × (1 ≤ p.value)
    × (p.value ≤ MAX_BACKLOG) × IsBacklogFrom (p.minute + 1) ps

abbrev pub IsBacklog : List Piece → Type 0
IsBacklog ps = IsBacklogFrom 0 ps

-- a piece that begins by the minute decides: its value, less one for each minute since, not below 0
abbrev pub decided : ℕ → ℕ → Piece → ℕ
decided minute bound p = if nat_le p.minute minute then p.value - (minute - p.minute) else bound

-- the last piece that begins by the minute decides; 0 before the first
abbrev pub at : List Piece → ℕ → ℕ
at ps minute = fold (decided minute) 0 ps

-- from a minute of the day on, where the bound is `bound` and the pieces so far make it `shown`: a
-- piece if they differ; the next bound is this one plus what arrives, less one, up to MAX_BACKLOG
abbrev pub following_from : ℕ → ℕ → ℕ → List ℕ → List Piece
following_from minute bound shown [] = []
following_from minute bound shown (a ∷ more) =
    if bound == shown
    then following_from (minute + 1) (min MAX_BACKLOG (bound + a - 1)) (bound - 1) more
    else record { minute = minute; value = bound }
    ∷ following_from (minute + 1) (min MAX_BACKLOG (bound + a - 1)) (bound - 1) more

-- the pieces of the bound that is `first` at minute 0 and follows what arrives at each minute of
-- the day, up to the greatest value of a piece
unfoldable pub following : ℕ → List ℕ → List Piece
following first arrivals = following_from 0 first 0 arrivals

unfoldable pub none : List ℕ
none = replicate 1440 0

-- the bound over successive days, in minutes from the start of the first; 0 past the last
abbrev pub at_days : List (ℕ → ℕ) → ℕ → ℕ
at_days [] minute = 0
at_days (day ∷ days) minute =
    if nat_lt minute MINUTES_OF_DAY then day minute else at_days days (minute - MINUTES_OF_DAY)

-- at each minute of the day before: the bound plus the arrivals, less one, is within the next bound
abbrev pub StepsHold : (ℕ → ℕ) → (ℕ → ℕ) → (ℕ → ℕ) → Type 0
StepsHold before arrive day =
    (t : ℕ) → t < MINUTES_OF_DAY → before t + arrive t - 1 ≤ at_days (before ∷ day ∷ []) (t + 1)

-- the same within a day: at each minute of the day but the last
abbrev pub StepsHoldWithin : (ℕ → ℕ) → (ℕ → ℕ) → Type 0
StepsHoldWithin bound arrive =
    (t : ℕ) → t + 1 < MINUTES_OF_DAY → bound t + arrive t - 1 ≤ bound (t + 1)

-- the minute is on one of the days and has the bound 0
abbrev pub IsClearAt : List (ℕ → ℕ) → ℕ → Type 0
IsClearAt days minute = (minute < MINUTES_OF_DAY * length days) × (at_days days minute ≡ 0)

-- some minute after the due one, within the reach, is on one of the days and has the bound 0
abbrev pub ClearsBy : List (ℕ → ℕ) → ℕ → ℕ → Type 0
ClearsBy days due reach = (m : ℕ) × (due < m) × (m ≤ due + reach) × IsClearAt days m
