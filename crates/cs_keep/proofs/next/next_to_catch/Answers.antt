use Rattle.std.proofs.Common.{sym, ◌∙◌}
use Rattle.cs_plan.specs.Plan.{as_plan}
use Rattle.cs_keep.proofs.FirstChoice.{catch_first, catch_none_left, catch_refused, head_is, no_head}
use Rattle.cs_keep.proofs.next.next_to_catch.Goals as goal

pub returns-in_default : goal.returns-in_default
returns-in_default c = catch_none_left (as_plan c.args.core.now.plan) c.args.core.now.state (sym c.left.ensures ∙ no_head c.left.result.now c.in_default.ensures.value)

pub returns-in-Ok : goal.returns-in-Ok
returns-in-Ok c =
    let list = head_is c.left.result.now c.in-Some.job.now c.in-Some.ensures.value in
    catch_first (as_plan c.args.core.now.plan) c.args.core.now.state c.in-Some.job.now list.0 (sym c.left.ensures ∙ list.1) c.in-Ok.ensures

pub returns-in-Err : goal.returns-in-Err
returns-in-Err c =
    let list = head_is c.left.result.now c.in-Some.job.now c.in-Some.ensures.value in
    catch_refused (as_plan c.args.core.now.plan) c.args.core.now.state c.in-Some.job.now list.0 c.in-Err.field-0 (sym c.left.ensures ∙ list.1) c.in-Err.ensures
