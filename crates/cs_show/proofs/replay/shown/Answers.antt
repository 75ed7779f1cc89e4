use Rattle.std.proofs.Common.{◌∙◌, ℕ, List, Err, Ok, ap, subst}
use Rattle.std.proofs.lemmas.Result.{err_from_is_err_and}
use Rattle.cs_files.specs.Reads.{MeansIt}
use Rattle.cs_files.specs.Response.{done}
use Rattle.cs_files.specs.Trouble.{InScript}
use Rattle.cs_show.specs.Replayed.{TellsScript}
use Rattle.cs_show.proofs.replay.shown.Goals as goal

pub returns-in_err-script-clause-value : goal.returns-in_err-script-clause-value
returns-in_err-script-clause-value c =
    let p = err_from_is_err_and c.from_residual.result c.from_residual.ensures.1 in
    rw (p.1, p.2) (subst (λ (b : List ℕ). MeansIt TellsScript InScript b (Err c.in_err-script.field-0.0)) c.as_slice.ensures.value c.in_err-script.ensures.value)

pub returns-clause-value : goal.returns-clause-value
returns-clause-value c =
    let x : List ℕ = c.in_ok-script.script in
    let tells = subst (λ (b : List ℕ). TellsScript b (Ok x)) c.as_slice.ensures.value c.in_ok-script.ensures.value in
    (x, tells, c.done.ensures ∙ ap (λ (l : List ℕ). done l c.new.result) c.into_vec.ensures ∙ ap (done x) c.new.ensures)
