use Rattle.std.proofs.lemmas.Result.{IfOk-weaker}
use Rattle.cs_json.proofs.Items.{json_back}
use Rattle.cs_json.proofs.writing.write.Goals as goal

pub returns-clause-reads_back : goal.returns-clause-reads_back
returns-clause-reads_back g c =
    let back = rw c.in_ok-to_json.ensures at c.to_vec.ensures.reads_back in
    json_back c.to_vec.result (g.T.ToJson.spelled c.args.value.now) c.to_vec.ensures.utf8 back

pub returns-clause-text : goal.returns-clause-text
returns-clause-text g c =
    let text = rw c.in_ok-to_json.ensures at c.to_vec.ensures.text in
    IfOk-weaker c.to_vec.result _ _ (λ b h. h (g.met.T.ToJson.no_float c.args.value.now)) text
