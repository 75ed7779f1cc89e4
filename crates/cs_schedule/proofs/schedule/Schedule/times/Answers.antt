use Rattle.std.proofs.Common.{◌∙◌, arith}
use Rattle.cs_schedule.specs.Minutes.{minutes_where}
use Rattle.cs_schedule.specs.Times.{is_time_due, is_time_shown}
use Rattle.cs_schedule.proofs.Hours.{unturned}
use Rattle.cs_schedule.proofs.Ranges.{filter_same}
use Rattle.cs_schedule.proofs.schedule.Schedule.times.Goals as goal

pub returns : goal.returns
unfolding minutes_where
returns c = c.times_shown.ensures ∙ filter_same (is_time_shown c.args.self.now 0 0 1440) (is_time_due c.args.self.now) 0 1440 (λ k low high. unturned c.args.self.now k (omega arith))
