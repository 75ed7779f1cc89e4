use Rattle.cs_args.specs.CommandLine.{all_subcommands}
use Rattle.cs_args.proofs.table.Subcommand.named.Goals as goal

pub returns : goal.returns
unfolding all_subcommands
returns c = c.named_among.ensures
