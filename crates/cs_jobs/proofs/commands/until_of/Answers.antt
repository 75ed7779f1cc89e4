use Rattle.std.proofs.Common.{◌≡◌, ◌+◌, ◌∙◌, ap, rules}
use Rattle.cs_plan.specs.Plan.{as_plan}
use Rattle.cs_jobs.specs.Commands.{civil}
use Rattle.cs_jobs.proofs.Untils.{made}
use Rattle.cs_jobs.proofs.commands.until_of.Goals as goal

pub returns-in-Some : goal.returns-in-Some
returns-in-Some c =
    let is : c.in-Some.number ≡ c.args.going.since + (as_plan c.args.plan.now).limit c.args.going.run.job = search rules in
    made c.new.result c.in-Some.number c.new.ensures.in_range c.new.ensures.value ∙ ap civil is
