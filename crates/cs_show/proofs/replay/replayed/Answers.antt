use Rattle.std.proofs.lemmas.Result.{err_from_is_err_and}
use Rattle.cs_show.proofs.replay.replayed.Goals as goal

pub returns-in_err-script-clause-value : goal.returns-in_err-script-clause-value
returns-in_err-script-clause-value c =
    let p = err_from_is_err_and c.from_residual.result c.from_residual.ensures.1 in
    rw (p.1, p.2) c.in_err-script.ensures.value

pub returns-clause-value : goal.returns-clause-value
returns-clause-value c = (c.in_ok-script.script, c.in_ok-script.ensures.value, c.in_ok-show.ensures.value)
