use Rattle.std.specs.Prelude.{◌≡◌, ℕ, ◌+◌, ◌-◌, ◌≤◌, List, map}
use Rattle.std.specs.List.{range_with_len}
use Rattle.cs_civil.specs.Calendar.{kind}
use Rattle.cs_theorem.specs.Certificate.{Certificate}

-- the n days that end with day e have these classes, and the first of them is 1970-01-02 or later
pub record EndsOn (a : Certificate) (n : ℕ) (s : List ℕ) (e : ℕ) : Type 0 where
  pub far : n ≤ e
  pub classes : map (λ d. a.class_of (kind d)) (range_with_len (e + 1 - n) n) ≡ s
