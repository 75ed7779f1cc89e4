use Rattle.std.proofs.Common.{◌≡◌, List, [], ◌∷◌, ℕ, filter, ◌∙◌, refl, sym, ap}
use Rattle.cs_crontab.specs.declared.table.When.{When}
use Rattle.cs_crontab.specs.declared.table.When.TheVariants.{Reboot}
use Rattle.cs_schedule.specs.Numbers.{has}
use Rattle.cs_windows.proofs.Starts.{has-minutes_where}
use Rattle.cs_windows.specs.Windows.{day_minutes}
use Rattle.cs_zone.specs.Shape.{is_due_in}
use Rattle.cs_zone.specs.Zone.{Zone}
use Rattle.cs_zone.specs.declared.shape.Shape.{Shape}
use Rattle.cs_classes.specs.Likeness.{is_due_by}
use Rattle.cs_classes.proofs.DayLists.{minutes_passing}
use Rattle.cs_classes.proofs.likeness.times_by.Goals as goal

pub returns-in-At-clause-has : goal.returns-in-At-clause-has
returns-in-At-clause-has c here m lt =
    ap (λ (minutes : List ℕ). has minutes m) c.minutes_in.ensures ∙ has-minutes_where (is_due_in c.args.zone c.in-At.schedule c.args.shape) m lt
    ∙ ap (λ (w : When). is_due_by c.args.zone w c.args.shape m) (sym c.in-At.is ∙ c.when.ensures)

pub returns-in-At-clause-all : goal.returns-in-At-clause-all
returns-in-At-clause-all c =
    c.minutes_in.ensures ∙ minutes_passing (is_due_in c.args.zone c.in-At.schedule c.args.shape)
    ∙ ap (λ (w : When). filter (is_due_by c.args.zone w c.args.shape) day_minutes) (sym c.in-At.is ∙ c.when.ensures)

none_due : (zone : Zone) (shape : Shape) (ms : List ℕ) → [] ≡ filter (is_due_by zone Reboot shape) ms
none_due zone shape [] = refl
none_due zone shape (m ∷ ms) = none_due zone shape ms

pub returns-in-Reboot-clause-all : goal.returns-in-Reboot-clause-all
returns-in-Reboot-clause-all c =
    c.new.ensures ∙ none_due c.args.zone c.args.shape day_minutes
    ∙ ap (λ (w : When). filter (is_due_by c.args.zone w c.args.shape) day_minutes) (sym c.in-Reboot.is ∙ c.when.ensures)
