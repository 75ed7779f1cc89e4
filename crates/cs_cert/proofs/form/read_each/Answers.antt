use Rattle.std.proofs.Common.{rules}
use Rattle.std.proofs.lemmas.Result.{err_from_is_err_and}
use Rattle.cs_json.proofs.Items.{map_push, Reads-start, Reads-more, Reads-fails, Reads-end}
use Rattle.cs_cert.proofs.form.read_each.Goals as goal

pub loop-value-init : goal.loop-value-init
loop-value-init g c = rw c.in_ok-found.ensures.items (Reads-start g.T.Form.said c.args.list.now.items)

pub loop-value-preserved : goal.loop-value-preserved
loop-value-preserved g c =
    rw (c.in_ok-push.ensures.items, map_push)
    (Reads-more g.T.Form.said _ _ _ _ _ (search rules) (search rules) c.in_ok-read.ensures c.loop-value.invariant)

pub returns-in_err-read : goal.returns-in_err-read
returns-in_err-read g c =
    let p = err_from_is_err_and c.from_residual-in_err-read.result c.from_residual-in_err-read.ensures.1 in
    rw (p.1, p.2) (Reads-fails g.T.Form.said _ _ _ _ _ (search rules) (search rules) c.in_err-read.ensures c.loop-value.invariant)

pub returns : goal.returns
returns g c = Reads-end g.T.Form.said _ _ _ (search rules) c.loop-value.invariant
