-- What a runner is asked to run.
use Rattle.std.specs.Prelude.{ℕ, List, Option, option_map}
use Rattle.std.specs.Borrow.{Bor}

-- a run's name, such as `line 3 due 2024-09-13 23:30`, its user if that isn't the daemon's, and the
-- minute in which it must have ended, none past the year 9999
pub record Asked : Type 0 where
  pub name : List ℕ
  pub user : Option (List ℕ)
  pub command : List ℕ
  pub input : Option (List ℕ)
  pub variables : List (List ℕ × List ℕ)
  pub until : Option ℕ

abbrev pub asked : List ℕ → Option (Bor (List ℕ)) → List ℕ → Option (Bor (List ℕ))
    → List (List ℕ × List ℕ) → Option ℕ → Asked
asked name user command input variables until = record {
  name = name;
  user = option_map (λ text. text.now) user;
  command = command;
  input = option_map (λ text. text.now) input;
  variables = variables;
  until = until;
}
