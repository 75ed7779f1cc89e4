use Rattle.std.proofs.lemmas.Result.{err_from_is_err_and, IfErr-weaker}
use Rattle.cs_lint.proofs.AnswerLemmas.{none_is_true, none_is_told, unread_is_other, zone_is_honest}
use Rattle.cs_lint.proofs.answer.changes_at.Goals as goal

pub returns-in_err-zone-clause-told : goal.returns-in_err-zone-clause-told
returns-in_err-zone-clause-told g c =
    let p = err_from_is_err_and c.from_residual.result c.from_residual.ensures.1 in
    rw (c.in-Some.is, p.1, p.2) (unread_is_other (g.I.Inputs.whole c.args.inputs.now) c.in-Some.path.now (g.I.Inputs.failed c.args.inputs.now) (g.I.Inputs.failed c.bytes_at.new.inputs) c.in_err-zone.field-0.0 c.in_err-zone.ensures.fails).0

pub returns-in_err-zone-clause-none : goal.returns-in_err-zone-clause-none
returns-in_err-zone-clause-none g c = λ fresh.
    let p = err_from_is_err_and c.from_residual.result c.from_residual.ensures.1 in
    rw (c.in-Some.is, p.1, p.2) (unread_is_other (g.I.Inputs.whole c.args.inputs.now) c.in-Some.path.now (g.I.Inputs.failed c.args.inputs.now) (g.I.Inputs.failed c.bytes_at.new.inputs) c.in_err-zone.field-0.0 c.in_err-zone.ensures.fails).1

pub returns-clause-told : goal.returns-clause-told
returns-clause-told g c =
    rw c.in-Some.is (IfErr-weaker c.changes_in.result _ _ (λ e is. none_is_told c.in-Some.path.now c.as_slice.result.now (g.I.Inputs.failed c.args.inputs.now) (g.I.Inputs.failed c.bytes_at.new.inputs) e c.in_ok-zone.ensures.works is) c.changes_in.ensures.fault)

pub returns-clause-none : goal.returns-clause-none
returns-clause-none g c = λ fresh.
    rw c.in-Some.is (IfErr-weaker c.changes_in.result _ _ (λ e is. none_is_true (g.I.Inputs.whole c.args.inputs.now) (g.I.Inputs.left c.args.inputs.now) c.in-Some.path.now c.in_ok-zone.zone.items e fresh c.in_ok-zone.ensures.bytes (rw c.as_slice.ensures.value at is)) c.changes_in.ensures.fault)

pub returns-clause-status : goal.returns-clause-status
returns-clause-status g c =
    IfErr-weaker c.changes_in.result _ _ (λ e is. zone_is_honest (g.I.Inputs.failed c.bytes_at.new.inputs) (g.I.Inputs.reads c.bytes_at.new.inputs) c.in-Some.path.now c.as_slice.result.now e is) c.changes_in.ensures.fault
