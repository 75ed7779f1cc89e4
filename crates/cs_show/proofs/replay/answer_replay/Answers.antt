use Rattle.std.proofs.lemmas.Result.{IfOk-weaker}
use Rattle.cs_args.specs.Asked.{asked_replay}
use Rattle.cs_files.proofs.AskedLemmas.{content_done, fault_answered}
use Rattle.cs_show.specs.Replayed.{IsReplyTo}
use Rattle.cs_show.proofs.ReplayLemmas.{fault_to, reply_to}
use Rattle.cs_show.proofs.replay.answer_replay.Goals as goal

pub returns-in-Ok-clause-reply : goal.returns-in-Ok-clause-reply
returns-in-Ok-clause-reply c = reply_to (asked_replay c.args.words.now) c.args.found c.in-Ok.answer c.in-Ok.ensures.value

pub returns-clause-reply : goal.returns-clause-reply
returns-clause-reply c =
    let a = asked_replay c.args.words.now in
    IfOk-weaker c.response.result _ (IsReplyTo a c.args.found) (λ r told. fault_answered (IsReplyTo a c.args.found) c.as_slice.result.now c.in-Err.fault r c.as_slice.ensures (fault_to a c.args.found c.in-Err.fault c.in-Err.ensures.value) told) c.response.ensures

pub returns-clause-done : goal.returns-clause-done
returns-clause-done c = IfOk-weaker c.response.result _ _ (λ r told. content_done c.as_slice.result.now c.in-Err.fault r c.in-Err.ensures.status told) c.response.ensures
