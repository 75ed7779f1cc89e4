use Rattle.std.proofs.Common.{◌≡◌, Ok, subst}
use Rattle.cs_decl.specs.Meaning.{declared_by}
use Rattle.std.proofs.lemmas.Result.{err_from_is_err_and}
use Rattle.cs_files.specs.Fitting.{fitting}
use Rattle.cs_files.proofs.TroubleLemmas.{plan_unmade, plan_unread}
use Rattle.cs_files.proofs.reads.placed_plan_and_text.Goals as goal

pub returns-in_err-bytes-clause-step : goal.returns-in_err-bytes-clause-step
returns-in_err-bytes-clause-step g c = λ fresh.
    let p = err_from_is_err_and c.from_residual.result c.from_residual.ensures.1 in
    rw (p.1, p.2) (plan_unread (fitting c.args.places.now (c.args.table, c.args.jobs)) (g.I.Inputs.whole c.args.inputs.now) (g.I.Inputs.left c.args.inputs.now) c.args.path.now (g.I.Inputs.failed c.args.inputs.now) (g.I.Inputs.failed c.all_bytes_at.new.inputs)
    (g.I.Inputs.reads c.args.inputs.now) (g.I.Inputs.reads c.all_bytes_at.new.inputs) c.in_err-bytes.field-0.0 fresh c.in_err-bytes.ensures.fails)

pub returns-clause-step : goal.returns-clause-step
returns-clause-step g c = λ fresh.
    let bytes = c.in_ok-bytes.bytes.items in
    let d = c.in-Ok.declarations in
    let is = subst (λ b. declared_by b ≡ Ok d) c.as_slice.ensures.value c.in-Ok.ensures in
    plan_unmade (fitting c.args.places.now (c.args.table, c.args.jobs)) (g.I.Inputs.whole c.args.inputs.now) (g.I.Inputs.left c.args.inputs.now) c.args.path.now bytes d c.in-Err-join_placed.error c.declared_fault-in-Err-join_placed.result
    (g.I.Inputs.failed c.args.inputs.now) _ c.in_ok-bytes.ensures.works fresh c.in_ok-bytes.ensures.bytes is c.in-Err-join_placed.ensures c.declared_fault-in-Err-join_placed.ensures
