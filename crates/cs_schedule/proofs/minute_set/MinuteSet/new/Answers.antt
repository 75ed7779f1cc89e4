use Rattle.std.proofs.Common.{replicate}
use Rattle.cs_schedule.specs.Minutes.{is_in, minutes_where}
use Rattle.cs_schedule.proofs.Ranges.{filter_nothing}
use Rattle.cs_schedule.proofs.Words.{none_in}
use Rattle.cs_schedule.proofs.minute_set.MinuteSet.new.Goals as goal

pub returns : goal.returns
unfolding minutes_where
returns c = filter_nothing (is_in (replicate 23 0)) 0 1440 (λ n low high. none_in n)
