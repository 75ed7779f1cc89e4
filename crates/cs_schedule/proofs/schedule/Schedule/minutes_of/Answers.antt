use Rattle.std.proofs.Common.{◌∙◌, sym}
use Rattle.std.proofs.lemmas.Bool.{and_right}
use Rattle.cs_schedule.specs.Minutes.{minutes_where}
use Rattle.cs_schedule.specs.Times.{is_time_due, is_day_due, is_due}
use Rattle.cs_schedule.proofs.Ranges.{filter_nothing}
use Rattle.cs_schedule.proofs.schedule.Schedule.minutes_of.Goals as goal

pub returns-then-not-is_day_due : goal.returns-then-not-is_day_due
unfolding minutes_where
returns-then-not-is_day_due c =
    c.new.ensures ∙ sym (filter_nothing (is_due c.args.self.now c.args.kind) 0 1440 (λ n low high.
    and_right (is_time_due c.args.self.now n) (is_day_due c.args.self.now c.args.kind) (sym c.is_day_due.ensures ∙ c.if-not-is_day_due.true)))
