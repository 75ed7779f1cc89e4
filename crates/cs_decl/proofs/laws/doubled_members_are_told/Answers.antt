use Rattle.cs_decl.proofs.Uniques.{none_missed, none_made_up}
use Rattle.cs_decl.proofs.laws.doubled_members_are_told.Goals as goal

pub returns-clause-all : goal.returns-clause-all
returns-clause-all c = none_missed

pub returns-clause-only : goal.returns-clause-only
returns-clause-only c = none_made_up
