use Rattle.std.proofs.Common.{◌≡◌, drop}
use Rattle.cs_args.specs.CommandLine.{named_among}
use Rattle.cs_args.proofs.commands.named_among.Given as goal

-- the first of those that are left is the first of all
abbrev pub invariant-loop-subcommand : goal.invariant-loop-subcommand
invariant-loop-subcommand l = named_among (drop l.subcommand-index l.subcommands) l.name ≡ named_among l.subcommands l.name
