use Rattle.cs_ruling.proofs.TwoDays.{listed_itself, in_pairs, accepted_in_pairs}
use Rattle.cs_cli.proofs.laws.what_version_1_says.Goals as goal

pub returns-clause-itself : goal.returns-clause-itself
returns-clause-itself c = listed_itself

pub returns-clause-pairs : goal.returns-clause-pairs
returns-clause-pairs c = in_pairs

pub returns-clause-accepted : goal.returns-clause-accepted
returns-clause-accepted c = accepted_in_pairs
