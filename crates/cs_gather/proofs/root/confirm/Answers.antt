use Rattle.std.proofs.Common.{[], ◌∷◌}
use Rattle.cs_files.proofs.TurnLemmas.{first_read}
use Rattle.cs_gather.proofs.root.confirm.Goals as goal

pub returns-in_err-from_str-in-Err-CannotRead-clause-turn : goal.returns-in_err-from_str-in-Err-CannotRead-clause-turn
returns-in_err-from_str-in-Err-CannotRead-clause-turn g c = (c.args.root.now ∷ [], first_read c.args.root.now [] _ _ c.read_whole.ensures.alone)

pub returns-clause-turn : goal.returns-clause-turn
returns-clause-turn g c = (c.args.root.now ∷ [], first_read c.args.root.now [] _ _ c.read_whole.ensures.alone)
