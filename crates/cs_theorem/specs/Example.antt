-- A certificate for one job, due at midnight, that waits for its lock and takes up to ten minutes.
use Rattle.std.specs.Prelude.{ℕ, ◌-◌, Bool, [], ◌∷◌, Some, if◌then◌else◌, ◌==◌}
use Rattle.cs_civil.specs.Calendar.{Kind}
use Rattle.cs_theorem.specs.Certificate.{Certificate}
use Rattle.cs_windows.specs.Tree.{leaf}

abbrev pub at_midnight : ℕ → Kind → ℕ → Bool
at_midnight j k m = m == 0

abbrev pub nightly_certificate : Certificate
nightly_certificate = record {
  class_of = λ _. 0;
  due = λ _ j m. m == 0;
  bound = λ _ g m. if m == 0 then 0 else 10 - m;
  reach = λ j. Some 10;
  stretches =
      (record {
        of = 0 ∷ 0 ∷ [];
        tree = Some (leaf (record { job = 0; day_back = 0; from = 0 } ∷ []));
      }) ∷ [];
}
