use Rattle.std.proofs.Common.{◌≡◌, ℕ, List, [], ◌∷◌, filter, refl, sym, subst, ◌∙◌}
use Rattle.cs_civil.specs.Calendar.{Kind}
use Rattle.cs_crontab.specs.declared.table.When.{When}
use Rattle.cs_crontab.specs.declared.table.When.TheVariants.{At, Reboot}
use Rattle.cs_schedule.specs.Minutes.{minutes_where}
use Rattle.cs_schedule.specs.Times.{Times}
use Rattle.cs_zone.specs.Starts.{is_due}
use Rattle.cs_zone.specs.Zone.{Zone}
use Rattle.cs_windows.specs.Windows.{day_minutes}
use Rattle.cs_classes.specs.Planned.{is_due_on}
use Rattle.cs_classes.proofs.DayLists.{minutes_passing}
use Rattle.cs_classes.proofs.worked.minutes_on.Goals as goal

none_due : (zone : Zone) (kind : Kind) (ms : List ℕ) → filter (is_due_on zone Reboot kind) ms ≡ []
none_due zone kind [] = refl
none_due zone kind (m ∷ ms) = none_due zone kind ms

at_is : (zone : Zone) (when : When) (kind : Kind) (schedule : Times) (ms : List ℕ) → when ≡ At schedule → ms ≡ minutes_where (is_due zone schedule kind) → ms ≡ filter (is_due_on zone when kind) day_minutes
at_is zone when kind schedule ms e h = subst (λ (w : When). ms ≡ filter (is_due_on zone w kind) day_minutes) (sym e) (h ∙ minutes_passing (is_due zone schedule kind))

reboot_is : (zone : Zone) (when : When) (kind : Kind) (ms : List ℕ) → when ≡ Reboot → ms ≡ [] → ms ≡ filter (is_due_on zone when kind) day_minutes
reboot_is zone when kind ms e h = subst (λ (w : When). ms ≡ filter (is_due_on zone w kind) day_minutes) (sym e) (h ∙ sym (none_due zone kind day_minutes))

pub returns-in-At : goal.returns-in-At
returns-in-At c = at_is c.args.zone c.args.line.now.when c.args.kind c.in-At.schedule c.minutes_of.result (sym c.when.ensures ∙ c.in-At.is) c.minutes_of.ensures

pub returns-in-Reboot : goal.returns-in-Reboot
returns-in-Reboot c = reboot_is c.args.zone c.args.line.now.when c.args.kind c.new.result (sym c.when.ensures ∙ c.in-Reboot.is) c.new.ensures
