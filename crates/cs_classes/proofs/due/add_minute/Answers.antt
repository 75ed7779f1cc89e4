use Rattle.std.proofs.Common.{ℕ, List, Bool, ◌||◌, nat_eq, ◌∙◌, ap, subst, sym}
use Rattle.cs_classes.proofs.DayMinutes.{where_rising}
use Rattle.cs_classes.proofs.Lists.{eqb-sym}
use Rattle.cs_classes.specs.DayMinutes.{AreRising}
use Rattle.cs_schedule.specs.Numbers.{has}
use Rattle.cs_windows.proofs.Starts.{has-minutes_where}
use Rattle.cs_classes.proofs.due.add_minute.Goals as goal

pub returns-then-minute-lt1440-clause-has : goal.returns-then-minute-lt1440-clause-has
returns-then-minute-lt1440-clause-has c m lt =
    ap (λ (minutes : List ℕ). has minutes m) c.insert.ensures
    ∙ has-minutes_where (λ k. nat_eq k c.args.minute || has c.args.minutes.now k) m lt
    ∙ ap (λ (b : Bool). b || has c.args.minutes.now m) (eqb-sym m c.args.minute)

pub returns-then-minute-lt1440-clause-rising : goal.returns-then-minute-lt1440-clause-rising
returns-then-minute-lt1440-clause-rising c h = subst (λ (ms : List ℕ). AreRising ms) (sym c.insert.ensures) (where_rising (λ k. nat_eq k c.args.minute || has c.args.minutes.now k))
