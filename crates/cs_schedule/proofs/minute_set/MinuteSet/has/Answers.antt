use Rattle.std.proofs.Common.{◌∙◌, sym, ap, arith, List, ℕ}
use Rattle.std.proofs.lemmas.Bool.{le-ltb}
use Rattle.cs_schedule.specs.Numbers.{has}
use Rattle.cs_schedule.specs.Minutes.{is_in, minutes_where}
use Rattle.cs_schedule.proofs.Ranges.{has-filter, has-filter_past}
use Rattle.cs_schedule.proofs.minute_set.MinuteSet.has.Goals as goal

pub returns-then-minute-lt1440 : goal.returns-then-minute-lt1440
unfolding minutes_where
returns-then-minute-lt1440 c =
    c.is_set.ensures ∙ sym (has-filter (is_in c.self.inside.words) 0 1440 c.args.minute (omega arith) (omega arith))
    ∙ ap (λ (s : List ℕ). has s c.args.minute) c.self.view_is

pub returns-else-minute-lt1440 : goal.returns-else-minute-lt1440
unfolding minutes_where
returns-else-minute-lt1440 c =
    le-ltb c.args.minute 1440 (omega arith) ∙ sym (has-filter_past (is_in c.self.inside.words) 0 1440 c.args.minute (omega arith)) ∙ ap (λ (s : List ℕ). has s c.args.minute) c.self.view_is
