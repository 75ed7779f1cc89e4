-- Runs in the order in which they came.
use Rattle.std.specs.Prelude.{◌≡◌, ◌+◌, ℕ, Bool, not, filter, length, map, List, [], ◌∷◌, ◌++◌, Option, None, Some}
use Rattle.std.specs.List.{IsDistinct, list_any}
use Rattle.cs_history.specs.History.{same_run}
use Rattle.cs_history.specs.declared.run.Run.{Run}
use Rattle.cs_history.specs.declared.run.Going.{Going}

-- a run, unless it has left
abbrev pub unless_left : Run → Option ℕ → List Going
unless_left r None = []
unless_left r (Some since) = record { run = r; since = since } ∷ []

-- those that haven't left
abbrev pub still : List (Run × Option ℕ) → List Going
still [] = []
still (e ∷ es) = unless_left e.0 e.1 ++ still es

-- no name occurs twice, and so many entries are of runs that have left
pub record AreKept (es : List (Run × Option ℕ)) (gone : ℕ) : Type 0 where
  pub distinct : IsDistinct same_run (map (λ e. e.0) es)
  pub count : length (still es) + gone ≡ length es

abbrev pub has : List Going → Run → Bool
has runs run = list_any (λ x. same_run run x.run) runs

-- all but the run of that name
abbrev pub others : List Going → Run → List Going
others runs run = filter (λ x. not (same_run run x.run)) runs
