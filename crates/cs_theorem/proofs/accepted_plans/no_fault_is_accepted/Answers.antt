use Rattle.cs_theorem.proofs.Points.{says_all}
use Rattle.cs_theorem.proofs.Lengths.{length_is}
use Rattle.cs_theorem.proofs.accepted_plans.no_fault_is_accepted.Goals as goal

pub returns-clause-faults : goal.returns-clause-faults
returns-clause-faults c p on a n plan some = says_all p plan on a n some

pub returns-clause-length : goal.returns-clause-length
returns-clause-length c p on reach plan modest = length_is p plan on reach modest
