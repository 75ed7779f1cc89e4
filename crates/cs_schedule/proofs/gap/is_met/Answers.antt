use Rattle.std.proofs.Common.{◌≡◌, ◌<◌, ◌∷◌, ◌∙◌, List, All, ℕ, subst, sym}
use Rattle.std.proofs.lemmas.List.Elements.{All-tail}
use Rattle.cs_schedule.specs.Gap.{is_followed}
use Rattle.cs_schedule.proofs.Apart.{one_fewer}
use Rattle.cs_schedule.proofs.gap.is_met.Goals as goal

pub loop-minute-preserved : goal.loop-minute-preserved
loop-minute-preserved c =
    let left : c.loop-minute.minute-iterator ≡ c.in-Some.minute ∷ c.next.new.self = c.in-Some.ensures.steps in
    record {
      day = All-tail (λ minute. minute < 1440) c.in-Some.minute c.next.new.self (subst (λ (ms : List ℕ). All (λ minute. minute < 1440) ms) left c.loop-minute.invariant.day);
      rest = one_fewer (is_followed c.args.second.now c.args.days.now c.args.gap) _ c.in-Some.minute c.next.new.self _ left (sym c.is_followed.ensures ∙ c.if-is_followed.false) c.loop-minute.invariant.rest;
    }
