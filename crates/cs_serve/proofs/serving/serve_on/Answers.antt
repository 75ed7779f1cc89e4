use Rattle.std.proofs.Common.{rules, ◌≡◌, ◌∙◌, ap, inl, subst, sym}
use Rattle.std.proofs.lemmas.Option.{IfSome_then}
use Rattle.cs_args.specs.Asked.{asked_run}
use Rattle.cs_daemon.specs.declared.end.Cause.TheVariants.{Stopped}
use Rattle.cs_files.specs.Response.{status_of}
use Rattle.cs_files.specs.Ending.{Tries, sink}
use Rattle.cs_serve.specs.Serve.{IsServedBehind, cause_status, taken_away}
use Rattle.cs_serve.proofs.Turns.{behind, followed, lost, tellings}
use Rattle.cs_serve.proofs.serving.serve_on.Goals as goal

pub returns-then-has_lost-clause-served : goal.returns-then-has_lost-clause-served
returns-then-has_lost-clause-served g c =
    let err-old = sink (g.E.Output.contents c.args.err.now) (g.E.Output.failed c.args.err.now) in
    let between = sink (g.E.Output.contents c.tell.new.err) (g.E.Output.failed c.tell.new.err) in
    let stopped = sink (g.E.Output.contents c.serve_by-status.new.err) (g.E.Output.failed c.serve_by-status.new.err) in
    let err-new = sink (g.E.Output.contents c.tell-then-has_lost.new.err) (g.E.Output.failed c.tell-then-has_lost.new.err) in
    let warned : Tries c.args.order.warnings err-old between = subst (λ t. Tries t err-old between) c.as_slice.ensures c.tell.ensures in
    let after = tellings c.serve_by-status.new.clock.told c.serve_by-status.new.store.failures in
    let status = status_of c.serve_by-status.result.0 in
    let served : IsServedBehind c.args.order err-old stopped status = behind c.args.order err-old between stopped _ c.args.stamps.now.failures after status warned c.resumed-clock.ensures.told c.requires.fresh c.serve_by-status.ensures.0 in
    let told : Tries taken_away stopped err-new = subst (λ t. Tries t stopped err-new) c.as_bytes.ensures.value c.tell-then-has_lost.ensures in
    let by : status ≡ cause_status c.serve_by-status.result.1 = c.serve_by-status.ensures.0.by_cause ∙ ap cause_status (sym c.serve_by-status.ensures.1) in
    let is : c.serve_by-status.result.1 ≡ Stopped = search (rules, c.has_lost.ensures) in
    lost c.args.order err-old stopped err-new c.serve_by-status.result.1 status served by is told

pub returns-clause-served : goal.returns-clause-served
returns-clause-served g c =
    let err-old = sink (g.E.Output.contents c.args.err.now) (g.E.Output.failed c.args.err.now) in
    let between = sink (g.E.Output.contents c.tell.new.err) (g.E.Output.failed c.tell.new.err) in
    let err-new = sink (g.E.Output.contents c.serve_by-status.new.err) (g.E.Output.failed c.serve_by-status.new.err) in
    let warned : Tries c.args.order.warnings err-old between = subst (λ t. Tries t err-old between) c.as_slice.ensures c.tell.ensures in
    let after = tellings c.serve_by-status.new.clock.told c.serve_by-status.new.store.failures in
    inl (behind c.args.order err-old between err-new _ c.args.stamps.now.failures after (status_of c.serve_by-status.result.0) warned c.resumed-clock.ensures.told c.requires.fresh c.serve_by-status.ensures.0)

pub returns-clause-next : goal.returns-clause-next
returns-clause-next g c =
    let err-old = sink (g.E.Output.contents c.args.err.now) (g.E.Output.failed c.args.err.now) in
    let between = sink (g.E.Output.contents c.tell.new.err) (g.E.Output.failed c.tell.new.err) in
    let err-new = sink (g.E.Output.contents c.serve_by-status.new.err) (g.E.Output.failed c.serve_by-status.new.err) in
    let warned : Tries c.args.order.warnings err-old between = subst (λ t. Tries t err-old between) c.as_slice.ensures c.tell.ensures in
    let after = tellings c.serve_by-status.new.clock.told c.serve_by-status.new.store.failures in
    let status = status_of c.serve_by-status.result.0 in
    let served : IsServedBehind c.args.order err-old err-new status = behind c.args.order err-old between err-new _ c.args.stamps.now.failures after status warned c.resumed-clock.ensures.told c.requires.fresh c.serve_by-status.ensures.0 in
    let by : status ≡ cause_status c.serve_by-status.result.1 = c.serve_by-status.ensures.0.by_cause ∙ ap cause_status (sym c.serve_by-status.ensures.1) in
    IfSome_then c.next_of-next.result c.next_of-next.ensures.next
    (λ next is. followed c.args.order err-old err-new c.serve_by-status.result.1 status (asked_run c.args.words) next.order served by c.requires.words is)
