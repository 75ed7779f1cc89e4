use Rattle.std.proofs.Common.{◌≡◌, ℕ, List, length, map, take, subst, sym, ap, ◌∙◌, arith, Bor, unwrap_or}
use Rattle.cs_claims.specs.declared.class.Class.{Class}
use Rattle.cs_claims.specs.Certificate.{bound_in, is_due_in}
use Rattle.cs_plan.specs.Plan.{as_plan}
use Rattle.cs_wait.specs.Bounds.{ClearsBy, at}
use Rattle.cs_wait.specs.declared.backlog.Backlog.{Backlog}
use Rattle.cs_classes.proofs.DayMinutes.{all_from_each, each_from_all}
use Rattle.cs_classes.specs.Claim.{class_at}
use Rattle.cs_theorem.proofs.Stretches.{map_twice}
use Rattle.cs_classes.proofs.Lists.{first_day}
use Rattle.cs_classes.proofs.reach.clears.Goals as goal

pub returns : goal.returns
returns c =
    let j = c.args.number in
    let first : class_at (map (λ (class : Bor Class). class.now) c.args.days.now) 0 ≡ c.index-days-0.result.now = first_day c.args.days.now c.index-days-0.result (omega (arith, c.requires.some)) c.index-days-0.is in
    let bounds = c.bounds_of-bounds.ensures.value ∙ ap (λ (g : ℕ). map (λ (class : Bor Class). bound_in class.now g) c.args.days.now) c.group_of.ensures.value ∙ sym (map_twice (λ (class : Class). bound_in class (unwrap_or ((as_plan c.args.plan.now).group j) 0)) (λ (class : Bor Class). class.now) c.args.days.now) in
    let P = λ (m : ℕ). ClearsBy (map (λ (b : Bor Backlog). at b.now) (take (length c.args.days.now) c.bounds_of-bounds.result)) m c.args.reach in (
      λ t m lt due. subst (λ (bs : List (ℕ → ℕ)). ClearsBy bs m c.args.reach) bounds (each_from_all P c.due_in_order-minutes.result (c.clears_each.ensures.0 t) m (c.due_in_order-minutes.ensures.due m lt ∙ (ap (λ (class : Class). is_due_in class j m) (sym first) ∙ due))),
      λ h. c.clears_each.ensures.1 (all_from_each P 0 c.due_in_order-minutes.result c.due_in_order-minutes.ensures.rising (λ m lt due. subst (λ (bs : List (ℕ → ℕ)). ClearsBy bs m c.args.reach) (sym bounds) (h m lt (ap (λ (class : Class). is_due_in class j m) first ∙ (sym (c.due_in_order-minutes.ensures.due m lt) ∙ due))))),
    )
