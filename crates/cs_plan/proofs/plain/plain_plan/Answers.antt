use Rattle.cs_plan.specs.Plain.{plain_plan}
use Rattle.cs_plan.proofs.Plains.{plain_whole}
use Rattle.cs_plan.proofs.plain.plain_plan.Goals as goal

pub new-requires : goal.new-requires
unfolding plain_plan
new-requires c =
    rw (c.new-left_out.ensures, c.none.ensures, c.all_day-hours.ensures, c.new-groups.ensures, c.in_ok-jobs.ensures, c.lines.ensures.value, c.lines-2.ensures.value)
    (plain_whole c.args.crontab c.args.anacrontab c.args.max c.requires.max.0 c.requires.max.1 c.lines.ensures.few c.lines-2.ensures.few c.lines-2.ensures.possible c.requires.timed)
