use Rattle.std.proofs.Common.{rules}
use Rattle.std.proofs.lemmas.Result.{err_from_is_err_and}
use Rattle.cs_json.proofs.Items.{map_push, Reads-start, Reads-more, Reads-fails, Reads-end}
use Rattle.cs_json.proofs.reading.each.Goals as goal

pub loop-v-init : goal.loop-v-init
loop-v-init g c = rw c.new-found.ensures.items (Reads-start g.T.FromJson.shape c.args.list.now.items)

pub loop-v-preserved : goal.loop-v-preserved
loop-v-preserved g c =
    rw (c.in_ok-push.ensures.items, map_push)
    (Reads-more g.T.FromJson.shape _ _ _ _ _ (search rules) (search rules) c.in_ok-from_json.ensures c.loop-v.invariant)

pub returns-in_err-from_json : goal.returns-in_err-from_json
returns-in_err-from_json g c =
    let p = err_from_is_err_and c.from_residual.result c.from_residual.ensures.1 in
    rw (p.1, p.2) (Reads-fails g.T.FromJson.shape _ _ _ _ _ (search rules) (search rules) c.in_err-from_json.ensures c.loop-v.invariant)

pub returns : goal.returns
returns g c = Reads-end g.T.FromJson.shape _ _ _ (search rules) c.loop-v.invariant
