use Rattle.cs_decl.proofs.Firsts.{first_is, none_stands}
use Rattle.cs_decl.proofs.laws.first_of_faults.Goals as goal

pub returns-clause-first : goal.returns-clause-first
returns-clause-first c = first_is

pub returns-clause-none : goal.returns-clause-none
returns-clause-none c = none_stands
