use Rattle.std.proofs.Common.{◌≡◌, ℕ, List, Bool, true, false, ◌||◌, nat_eq, ◌∙◌, ap, refl}
use Rattle.cs_schedule.specs.Numbers.{has}
use Rattle.cs_windows.proofs.Starts.{has-minutes_where}
use Rattle.cs_windows.proofs.job_windows.minutes_at.Goals as goal

pub returns-then-from-lt-MINUTES_OF_DAY : goal.returns-then-from-lt-MINUTES_OF_DAY
returns-then-from-lt-MINUTES_OF_DAY c minute lt =
    ap (λ (minutes : List ℕ). has minutes minute) c.insert.ensures
    ∙ (has-minutes_where (λ k. nat_eq k c.args.from || has c.new-minutes.result k) minute lt
    ∙ (ap (λ (minutes : List ℕ). nat_eq minute c.args.from || has minutes minute) c.new-minutes.ensures ∙ or-false (nat_eq minute c.args.from)))
  where
    or-false : (b : Bool) → (b || false) ≡ b
    or-false true = refl
    or-false false = refl
