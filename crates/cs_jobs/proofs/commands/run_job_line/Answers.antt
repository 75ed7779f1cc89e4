use Rattle.std.proofs.Common.{refl, rules, None}
use Rattle.cs_device.specs.Asked.{asked}
use Rattle.cs_jobs.proofs.Asked.{of_job}
use Rattle.cs_jobs.proofs.commands.run_job_line.Goals as goal

pub returns-clause-runs : goal.returns-clause-runs
returns-clause-runs g c =
    let env = c.as_slice.result.now in (
      asked c.args.name.now None c.command.result.now None env c.args.until,
      refl,
      refl,
      of_job c.args.table.now c.args.line.now c.args.name.now c.number.result c.command.result.now c.in_ok-env.env env c.args.until
          c.number.ensures c.command.ensures c.in_ok-env.ensures.names c.in_ok-env.ensures.values (search rules),
      c.run.ensures.runs,
    )
