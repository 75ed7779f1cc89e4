use Rattle.std.proofs.Common.{◌≡◌, IfOk, subst}
use Rattle.clap.specs.Words.{app_of}
use Rattle.cs_args.specs.CommandLine.{all_subcommands, cronsafe_app, with_all}
use Rattle.cs_args.proofs.commands.command.Goals as goal

pub returns : goal.returns
unfolding all_subcommands cronsafe_app
returns c = subst (λ app. IfOk c.with_all.result (λ x. app_of x ≡ with_all app all_subcommands)) c.top.ensures c.with_all.ensures
