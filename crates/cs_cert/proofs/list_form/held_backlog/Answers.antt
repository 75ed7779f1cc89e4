use Rattle.std.proofs.Common.{refl, sym, ◌∙◌}
use Rattle.cs_claims.proofs.Backlogs.{backlog_so, no_backlog}
use Rattle.cs_cert.proofs.list_form.held_backlog.Goals as goal

pub returns-in-Ok : goal.returns-in-Ok
returns-in-Ok c =
    let good = backlog_so 0 c.args.pieces (rw c.into_vec.ensures at (c.in-Ok.ensures.ok.0 refl)) in
    rw (c.in-Ok.ensures.value ∙ c.into_vec.ensures, good) refl

pub returns-in-Err : goal.returns-in-Err
returns-in-Err c =
    let bad = no_backlog c.args.pieces (λ b. let e = c.in-Err.ensures.ok.1 (rw (sym c.into_vec.ensures) at b) in cc) in
    rw (c.none.ensures, bad) refl
