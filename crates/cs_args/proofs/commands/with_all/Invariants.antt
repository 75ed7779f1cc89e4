use Rattle.std.proofs.Common.{◌≡◌, drop}
use Rattle.clap.specs.Words.{app_of}
use Rattle.cs_args.specs.CommandLine.{with_all}
use Rattle.cs_args.proofs.commands.with_all.Given as goal

-- with the subcommands that are left it is the whole command
abbrev pub invariant-loop-subcommand : goal.invariant-loop-subcommand
invariant-loop-subcommand l = with_all (app_of l.command) (drop l.subcommand-index l.subcommands) ≡ with_all (app_of l.fn.command) l.subcommands
