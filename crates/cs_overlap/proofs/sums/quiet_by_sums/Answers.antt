use Rattle.std.proofs.Common.{ℕ, subst, eqb-true}
use Rattle.cs_overlap.specs.Sums.{AreApartBy, AreFreeBy, AreWithinBy}
use Rattle.cs_overlap.proofs.sums.quiet_by_sums.Goals as goal

pub returns-clause-apart : goal.returns-clause-apart
returns-clause-apart c = λ t. subst (λ (end : ℕ). AreApartBy end c.args.roles.now c.args.windows.now) (eqb-true c.in_ok-kept.kept.apart 1440 t) c.in_ok-kept.ensures.apart

pub returns-clause-within : goal.returns-clause-within
returns-clause-within c = λ t. subst (λ (end : ℕ). AreWithinBy end c.args.roles.now c.args.groups c.args.capacity c.args.windows.now) (eqb-true c.in_ok-kept.kept.within 1440 t) c.in_ok-kept.ensures.within

pub returns-clause-free : goal.returns-clause-free
returns-clause-free c = λ t. subst (λ (end : ℕ). AreFreeBy end c.args.roles.now c.args.windows.now) (eqb-true c.in_ok-kept.kept.free 1440 t) c.in_ok-kept.ensures.free
