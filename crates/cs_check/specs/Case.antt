-- A plan and a certificate, as the rules of acceptance see them.
use Rattle.std.specs.Prelude.{ℕ, List, Option}
use Rattle.cs_plan.specs.Plan.{Declared, as_plan}
use Rattle.cs_windows.specs.declared.reach.JobReach.{JobReach}
use Rattle.cs_classes.specs.Planned.{due_on, reach_by}
use Rattle.cs_claims.specs.Content.{Content}
use Rattle.cs_classes.specs.Claim.{Claimed, as_certificate}
use Rattle.cs_classes.specs.StandsFor.{claimed, days_by}
use Rattle.cs_history.specs.Plan.{IsPlan}
use Rattle.cs_theorem.specs.Accepted.{IsAccepted, IsModest}
use Rattle.cs_theorem.specs.Faults.{Fault, first_fault}

-- the reach of a job: the one that the certificate lists, else its declared time
abbrev pub reach_for : Declared → Content → ℕ → ℕ
reach_for d c = reach_by d c.reach

-- how many days a stretch has
abbrev pub length_for : Declared → Content → ℕ
length_for d c = days_by d c.reach

-- the first fault of what is claimed
unfoldable pub claim_fault : Declared → Claimed → Option Fault
claim_fault d c = first_fault (as_plan d) (due_on d) (as_certificate c) (days_by d c.reach)

-- the eight rules hold of what is claimed
abbrev pub IsAcceptedClaim : Declared → Claimed → Type 0
IsAcceptedClaim d c = IsAccepted (as_plan d) (due_on d) (as_certificate c) (days_by d c.reach)

-- the first fault of a certificate: that of what it stands for
unfoldable pub fault_of : Declared → Content → Option Fault
fault_of d c = claim_fault d (claimed d c)

-- the eight rules hold of what the certificate stands for
abbrev pub IsAcceptedWith : Declared → Content → Type 0
IsAcceptedWith d c = IsAcceptedClaim d (claimed d c)

-- numbers in range, names resolved, and no job takes or waits longer than three days
pub record IsFit (d : Declared) (reach : List JobReach) : Type 0 where
  pub plan : IsPlan (as_plan d)
  pub modest : IsModest (as_plan d) (reach_by d reach)
