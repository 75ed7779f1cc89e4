use Rattle.std.proofs.Common.{◌≡◌, ℕ, Bool, not, ◌||◌, Option, None, Some, refl, ap, sym, ◌∙◌}
use Rattle.cs_plan.specs.Plan.{Declared, as_plan}
use Rattle.cs_classes.specs.Claim.{Claimed, as_certificate}
use Rattle.cs_civil.specs.Calendar.{Kind}
use Rattle.cs_history.specs.Lists.{below}
use Rattle.cs_history.specs.Plan.{Plan, waits}
use Rattle.cs_classes.specs.Planned.{due_on}
use Rattle.cs_theorem.specs.Certificate.{Certificate}
use Rattle.cs_theorem.specs.Faults.{Fault, ReachTooShort, due_fault, first_fault, first_of, leaf_fault, or_else, reach_fault, reaches_far, step_fault, stretch_fault, unless, used_stretches, collision_fault, capacity_fault, skip_fault}
use Rattle.cs_classes.specs.StandsFor.{days_by}
use Rattle.cs_check.specs.Case.{claim_fault}
use Rattle.cs_check.specs.Stretches as ours
use Rattle.cs_check.specs.Stretches.{later_fault, windows_fault}

module _ (p : Plan) (on : ℕ → Kind → ℕ → Bool) (a : Certificate) (n : ℕ) where
  rest : Option Fault
  rest = or_else (step_fault p a n) (or_else (reach_fault p a n) (or_else (leaf_fault p a n) (or_else (collision_fault p a n) (or_else (capacity_fault p a n) (skip_fault p a n)))))

  first_is : first_fault p on a n ≡ or_else (due_fault p on a) (or_else (stretch_fault a n) rest)
  unfolding first_fault rest
  first_is = refl

  far_same : (j : ℕ) (o : Option ℕ) → reaches_far p a n j o ≡ ours.reaches_far p a (used_stretches a n) j o
  far_same j None = refl
  far_same j (Some r) = refl

  reach_same : reach_fault p a n ≡ first_of (λ j. unless (not (waits p j) || ours.reaches_far p a (used_stretches a n) j (a.reach j)) (ReachTooShort j)) (below p.crons)
  reach_same = ap (λ (f : ℕ → Option Fault). first_of f (below p.crons)) (λ i j. unless (not (waits p j) || far_same j (a.reach j) i) (ReachTooShort j))

  rest_is : rest ≡ later_fault p a n (used_stretches a n)
  unfolding later_fault windows_fault rest
  rest_is = ap (λ (o : Option Fault). or_else (step_fault p a n) (or_else o (or_else (leaf_fault p a n) (or_else (collision_fault p a n) (or_else (capacity_fault p a n) (skip_fault p a n)))))) reach_same

  pub one_first : (f : Fault) → due_fault p on a ≡ Some f → first_fault p on a n ≡ Some f
  one_first f e = first_is ∙ ap (λ (o : Option Fault). or_else o (or_else (stretch_fault a n) rest)) e

  pub two_next : (f : Fault) → due_fault p on a ≡ None → stretch_fault a n ≡ Some f → first_fault p on a n ≡ Some f
  two_next f none e = first_is ∙ (ap (λ (o : Option Fault). or_else o (or_else (stretch_fault a n) rest)) none ∙ ap (λ (o : Option Fault). or_else o rest) e)

  pub later_last : due_fault p on a ≡ None → stretch_fault a n ≡ None → first_fault p on a n ≡ later_fault p a n (used_stretches a n)
  later_last none complete = first_is ∙ (ap (λ (o : Option Fault). or_else o (or_else (stretch_fault a n) rest)) none ∙ (ap (λ (o : Option Fault). or_else o rest) complete ∙ rest_is))

pub unlike_first : (d : Declared) (c : Claimed) (f : Fault) → due_fault (as_plan d) (due_on d) (as_certificate c) ≡ Some f → claim_fault d c ≡ Some f
unfolding claim_fault
unlike_first d c f e = one_first (as_plan d) (due_on d) (as_certificate c) (days_by d c.reach) f e

pub missing_next : (d : Declared) (c : Claimed) (n : ℕ) (f : Fault) → n ≡ days_by d c.reach → due_fault (as_plan d) (due_on d) (as_certificate c) ≡ None → stretch_fault (as_certificate c) n ≡ Some f → claim_fault d c ≡ Some f
unfolding claim_fault
missing_next d c n f long none e = two_next (as_plan d) (due_on d) (as_certificate c) (days_by d c.reach) f none (ap (stretch_fault (as_certificate c)) (sym long) ∙ e)

pub others_last : (d : Declared) (c : Claimed) (n : ℕ) → n ≡ days_by d c.reach → due_fault (as_plan d) (due_on d) (as_certificate c) ≡ None → stretch_fault (as_certificate c) n ≡ None → claim_fault d c ≡ later_fault (as_plan d) (as_certificate c) n (used_stretches (as_certificate c) n)
unfolding claim_fault
others_last d c n long none complete =
    later_last (as_plan d) (due_on d) (as_certificate c) (days_by d c.reach) none (ap (stretch_fault (as_certificate c)) (sym long) ∙ complete)
    ∙ ap (λ (k : ℕ). later_fault (as_plan d) (as_certificate c) k (used_stretches (as_certificate c) k)) (sym long)
