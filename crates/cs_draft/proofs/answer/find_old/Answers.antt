use Rattle.std.proofs.Common.{ℕ, List, Option, Err, Bor, option_map, subst, sym}
use Rattle.std.proofs.lemmas.Result.{err_from_is_err_and}
use Rattle.cs_files.specs.Trouble.{CameTo}
use Rattle.cs_draft.specs.Answer.{ReadsOld}
use Rattle.cs_draft.proofs.AnswerLemmas.{old_unread}
use Rattle.cs_draft.proofs.answer.find_old.Goals as goal

pub returns-in_err-bytes-in-Some-clause-step : goal.returns-in_err-bytes-in-Some-clause-step
returns-in_err-bytes-in-Some-clause-step g c = λ fresh.
    let files = g.I.Inputs.whole c.args.inputs.now in
    let before = g.I.Inputs.failed c.args.inputs.now in
    let after = g.I.Inputs.failed c.all_bytes_at.new.inputs in
    let fault = c.in_err-bytes-in-Some.field-0.0 in
    let p = err_from_is_err_and c.from_residual.result c.from_residual.ensures.1 in
    let is = old_unread files (g.I.Inputs.left c.args.inputs.now) c.in-Some.path.now before after (g.I.Inputs.reads c.args.inputs.now) (g.I.Inputs.reads c.all_bytes_at.new.inputs) fault fresh c.in_err-bytes-in-Some.ensures.fails in
    rw (p.1, p.2) (subst (λ (o : Option (Bor (List ℕ))). CameTo (ReadsOld files (option_map (λ p. p.now) o) before after) (Err fault)) (sym c.in-Some.is) is)
