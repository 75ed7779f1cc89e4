-- What a seat is seen as.
use Rattle.std.specs.Prelude.{◌≡◌, ℕ, ◌+◌, ◌-◌, ◌^◌, max, min}

pub record Place : Type 0 where
  pub parts : ℕ
  -- how many steps were made through it
  pub share : ℕ
  -- the total that it last saw
  pub seen : ℕ

-- a number that stays at the greatest one of 64 bits once there
abbrev pub saturated : ℕ → ℕ
saturated n = min n (2 ^ 64 - 1)

-- what a new seat has
abbrev pub all_parts : ℕ → Place
all_parts n = record { parts = n; share = 0; seen = 0 }

-- one more step, which made this total
abbrev pub counted : Place → ℕ → Place
counted s total = record s { share = s.share + 1; seen = total }

-- one seat becomes two: the other has one part, no share, and the total seen
abbrev pub IsSplit : Place → Place → Place → Type 0
IsSplit old other left = (other ≡ record { parts = 1; share = 0; seen = old.seen })
    × (left ≡ record old { parts = old.parts - 1 })

-- two seats as one
abbrev pub joined : Place → Place → Place
joined s other = record
    { parts = s.parts + other.parts; share = s.share + other.share; seen = max s.seen other.seen }
