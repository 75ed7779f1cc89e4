use Rattle.std.proofs.Common.{◌++◌, ◌∙◌, sym}
use Rattle.cs_plan.specs.Plan.{as_plan}
use Rattle.cs_daemon.specs.Late.{late_lines}
use Rattle.cs_daemon.proofs.Lateness.{late_done, late_more, late_none}
use Rattle.cs_daemon.proofs.late.note_overruns.Goals as goal

pub loop-going-preserved-then-becomes_late : goal.loop-going-preserved-then-becomes_late
loop-going-preserved-then-becomes_late c =
    let p = as_plan c.args.core.now.plan in
    let so = c.loop-going in
    let new = c.add.new.self in
    late_more p c.args.last c.args.minute c.in-Some.going c.next.new.self so.going-iterator
    (c.args.notices.now.lines.items ++ late_lines p c.args.last c.args.minute c.args.core.now.state.running)
    so.notices.lines.items new.lines.items so.notices.lost new.lost
    (sym c.becomes_late.ensures ∙ c.if-becomes_late.true) c.add.ensures c.in-Some.ensures.steps so.invariant

pub loop-going-preserved : goal.loop-going-preserved
loop-going-preserved c =
    let p = as_plan c.args.core.now.plan in
    let so = c.loop-going in
    late_none p c.args.last c.args.minute c.in-Some.going c.next.new.self so.going-iterator
    (c.args.notices.now.lines.items ++ late_lines p c.args.last c.args.minute c.args.core.now.state.running)
    so.notices.lines.items so.notices.lost
    (sym c.becomes_late.ensures ∙ c.if-becomes_late.false) c.in-Some.ensures.steps so.invariant

pub returns : goal.returns
returns c =
    let p = as_plan c.args.core.now.plan in
    let so = c.loop-going in
    late_done p c.args.last c.args.minute so.going-iterator
    (c.args.notices.now.lines.items ++ late_lines p c.args.last c.args.minute c.args.core.now.state.running)
    so.notices.lines.items so.notices.lost c.in-None.ensures.steps.0 so.invariant
