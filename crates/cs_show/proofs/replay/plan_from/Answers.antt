use Rattle.std.proofs.Common.{ℕ, List, Option, option_map, Bor, subst, sym}
use Rattle.cs_show.specs.Replayed.{ReadsPlan}
use Rattle.cs_files.specs.Trouble.{CameTo}
use Rattle.cs_show.proofs.replay.plan_from.Goals as goal

pub returns-in-Some-clause-step : goal.returns-in-Some-clause-step
returns-in-Some-clause-step g c = λ fresh.
    let files = g.I.Inputs.whole c.args.inputs.now in
    let before = g.I.Inputs.failed c.args.inputs.now in
    let after = g.I.Inputs.failed c.declared_plan_from.new.inputs in
    subst (λ (o : Option (Bor (List ℕ))). CameTo (ReadsPlan files (c.args.table, c.args.jobs) c.args.request.now.max (option_map (λ p. p.now) o) before after) c.declared_plan_from.result)
    (sym c.in-Some.is) (c.declared_plan_from.ensures.step fresh)
