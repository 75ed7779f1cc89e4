use Rattle.cs_schedule.proofs.Words.{put_in}
use Rattle.cs_schedule.proofs.numbers.put.Goals as goal

pub returns : goal.returns
returns c = λ k below. put_in c.args.word c.args.number k c.requires
