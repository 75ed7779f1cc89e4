use Rattle.std.proofs.Common.{refl, rules}
use Rattle.std.specs.Option.{option_copied}
use Rattle.cs_device.specs.Asked.{asked}
use Rattle.cs_jobs.proofs.Asked.{of_command}
use Rattle.cs_jobs.proofs.commands.run_line.Goals as goal

pub returns-clause-runs : goal.returns-clause-runs
returns-clause-runs g c =
    let command = c.as_slice.result.now in
    let env = c.as_slice-2.result.now in (
      asked c.args.name.now c.user_of-user.result command c.lent.result env c.args.until,
      refl,
      refl,
      of_command c.args.table.now (option_copied c.args.owner) c.args.line.now c.args.name.now c.user_of-user.result c.settings_for.result.now c.number.result c.command.result.now c.in_ok-command.command command c.in_ok-command.input c.lent.result c.in_ok-env.env env c.args.until
          c.user_of-user.ensures c.settings_for.ensures c.number.ensures c.command.ensures c.in_ok-command.ensures.parts c.in_ok-env.ensures.names c.in_ok-env.ensures.values (search rules) (search rules) (search rules),
      c.run.ensures.runs,
    )
