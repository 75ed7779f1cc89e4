use Rattle.std.proofs.Common.{◌∙◌, ap, sym}
use Rattle.cs_args.proofs.CommandLineLemmas.{with_next}
use Rattle.cs_args.proofs.commands.with_all.Goals as goal

pub loop-subcommand-preserved : goal.loop-subcommand-preserved
loop-subcommand-preserved c =
    let added = c.in_ok-command.ensures.shape c.in_ok-command_of.ensures.local in
    let below = ap (λ app. app.top) c.in_ok-command_of.ensures.app in
    sym (with_next c.args.subcommands.now c.loop-subcommand.subcommand-index _ _ _ _ c.loop-subcommand-test.true below added) ∙ c.loop-subcommand.invariant
