-- A certificate, as far as the rules speak of it.
use Rattle.std.specs.Prelude.{ℕ, Bool, List, Option}
use Rattle.cs_civil.specs.Calendar.{Kind}
use Rattle.cs_windows.specs.Tree.{Tree}

-- classes of successive days, and the windows of the last of them, where they are listed
pub record Stretch : Type 0 where
  pub of : List ℕ
  pub tree : Option Tree

pub record Certificate : Type 0 where
  pub class_of : Kind → ℕ
  pub due : ℕ → ℕ → ℕ → Bool  -- of a class: whether a job is due at a minute of the day
  pub bound : ℕ → ℕ → ℕ → ℕ  -- of a class: the bound of a group at a minute of the day
  pub reach : ℕ → Option ℕ
  pub stretches : List Stretch
