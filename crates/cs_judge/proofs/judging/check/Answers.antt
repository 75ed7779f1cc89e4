use Rattle.std.proofs.Common.{◌≡◌, None, subst, sym}
use Rattle.cs_claims.specs.Content.{Content}
use Rattle.cs_check.specs.Case.{fault_of, reach_for}
use Rattle.cs_check.specs.Checked.{IsCalmThroughout}
use Rattle.cs_plan.specs.Plan.{as_plan}
use Rattle.cs_judge.specs.Judged.{IsCheckedFor}
use Rattle.cs_judge.proofs.judging.check.Goals as goal

pub returns-in-Ok-clause-known : goal.returns-in-Ok-clause-known
returns-in-Ok-clause-known g c =
    let plan = c.args.plan.now in
    let same = sym c.in-Ok.ensures.value.1 in
    let accepted = subst (λ (k : Content). fault_of plan k ≡ None) same c.in-Ok.ensures.ok in
    let safe : IsCheckedFor plan c.in-Ok.checked = record { same = c.in-Ok.ensures.value.0; accepted = accepted } in
    let calm = subst (λ (k : Content). IsCalmThroughout (as_plan plan) (reach_for plan k)) same c.in-Ok.ensures.calm in
    record { safe = safe; headline = c.in-Ok.ensures.headline; calm = calm; shown = tt; refused = tt }
