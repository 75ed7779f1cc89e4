use Rattle.std.proofs.Common.{arith}
use Rattle.cs_schedule.specs.Minutes.{is_in}
use Rattle.cs_schedule.proofs.Hours.{put_three}
use Rattle.cs_schedule.proofs.minute_set.put_hour.Goals as goal

pub returns : goal.returns
returns c k below = put_three c.args.hour c.args.first c.min.result k (is_in c.args.words.now k) (is_in c.put.new.words k) (is_in c.put-2.new.words k) (is_in c.put-3.new.words k) c.requires.hour c.requires.first below (omega arith) (c.put.ensures k below) (c.put-2.ensures k below) (c.put-3.ensures k below)
