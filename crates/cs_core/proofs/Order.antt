-- The anacron jobs by delay.
use Rattle.std.proofs.Common.{ℕ, zero, suc, ◌+◌, ◌≤◌, ◌≡◌, Bool, if◌then◌else◌, [], refl, ap, arith, length}
use Rattle.std.proofs.lemmas.Bool.{lt-ltb, le-ltb}
use Rattle.cs_plan.specs.Plan.{Declared, IsWhole, crons}
use Rattle.cs_plan.proofs.Plans.{count}
use Rattle.cs_history.specs.Lists.{placed}
use Rattle.cs_history.specs.Plan.{Plan, is_sooner, placed_below}

pub none_below : (p : Plan) (n : ℕ) → n ≤ p.crons → placed_below p n ≡ []
none_below p zero l = refl
none_below p (suc n) l = ap (λ (b : Bool). if b then [] else placed (is_sooner p) n (placed_below p n)) (lt-ltb n p.crons (omega (arith, l)))

-- one more job takes its place
pub one_below : (p : Plan) (n : ℕ) → p.crons ≤ n → placed_below p (suc n) ≡ placed (is_sooner p) n (placed_below p n)
one_below p n l = ap (λ (b : Bool). if b then [] else placed (is_sooner p) n (placed_below p n)) (le-ltb n p.crons l)

pub few_anacron : (d : Declared) → IsWhole d → length d.jobs ≤ crons d + 64
few_anacron d w = omega (arith, count d w, w.few_lines)
