use Rattle.std.proofs.Common.{◌≡◌, drop, fold, map}
use Rattle.clap.specs.Words.{app_of, with_rule}
use Rattle.cs_args.specs.Table.{IsLocal, rule_in}
use Rattle.cs_args.specs.CommandLine.{app_of_subcommand}
use Rattle.cs_args.proofs.commands.command_of.Given as goal

-- with the arguments that are left it is the whole command
pub record SoFar (l : goal.Live-loop-argument) : Type 0 where
  pub app : fold with_rule (app_of l.command) (map rule_in (drop l.argument-index l.argument-items)) ≡ app_of_subcommand l.fn.subcommand
  pub local : IsLocal l.command

abbrev pub invariant-loop-argument : goal.invariant-loop-argument
invariant-loop-argument l = SoFar l
