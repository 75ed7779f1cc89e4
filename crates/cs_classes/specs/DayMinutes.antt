use Rattle.std.specs.Prelude.{◌≡◌, ℕ, ◌+◌, ◌<◌, ◌≤◌, List, [], ◌∷◌, length, slice_index_or}
use Rattle.cs_claims.specs.Certificate.{is_due_in}
use Rattle.cs_claims.specs.declared.class.Class.{Class}
use Rattle.cs_schedule.specs.Numbers.{has}

-- minutes of a day, from the least on, rising, each once
abbrev pub AreRisingFrom : ℕ → List ℕ → Type 0
AreRisingFrom least [] = Unit {0}
AreRisingFrom least (m ∷ ms) = (least ≤ m) × (m < 1440) × AreRisingFrom (m + 1) ms

abbrev pub AreRising : List ℕ → Type 0
AreRising ms = AreRisingFrom 0 ms

-- a set for each of so many jobs, by number: its due minutes on the days of a class
pub record AreDueSets (class : Class) (jobs : ℕ) (sets : List (List ℕ)) : Type 0 where
  pub long : length sets ≡ jobs
  pub each : (j m : ℕ) → j < jobs → m < 1440
      → has (slice_index_or sets j []) m ≡ is_due_in class j m
