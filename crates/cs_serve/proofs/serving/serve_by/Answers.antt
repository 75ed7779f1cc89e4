use Rattle.std.proofs.Common.{◌∙◌, refl, subst}
use Rattle.cs_files.specs.Ending.{Tries, sink}
use Rattle.cs_serve.specs.Serve.{HasRun, Tellings, farewell}
use Rattle.cs_serve.proofs.serving.serve_by.Goals as goal

pub returns : goal.returns
returns g c =
    let before : Tellings = record { last = g.C.Clock.last c.args.clock.now; top = g.C.Clock.top c.args.clock.now; risen = g.C.Clock.risen c.args.clock.now; clock_failures = g.C.Clock.failures c.args.clock.now; stamp_failures = g.S.StampStore.failures c.args.store.now } in
    let after : Tellings = record { last = g.C.Clock.last c.run_daemon-end.new.clock; top = g.C.Clock.top c.run_daemon-end.new.clock; risen = g.C.Clock.risen c.run_daemon-end.new.clock; clock_failures = g.C.Clock.failures c.run_daemon-end.new.clock; stamp_failures = g.S.StampStore.failures c.run_daemon-end.new.store } in
    let err-old = sink (g.E.Output.contents c.args.err.now) (g.E.Output.failed c.args.err.now) in
    let err-new = sink (g.E.Output.contents c.tell.new.err) (g.E.Output.failed c.tell.new.err) in
    let e = c.run_daemon-end.ensures in
    let run : HasRun c.args.checked c.args.owners before after c.run_daemon-end.result = record { threads = e.shares; shares = e.sum; none = e.none; same = e.checked; kept = e.kept; total = e.total; owned = e.owners; stopped = e.stopped; rises = e.rises; back = e.back; came = e.end; last_keep = e.end_keep; full_keep = e.full_keep; failed = e.failed; rest = e.rest; faults = e.faults } in
    let told : Tries (farewell c.run_daemon-end.result.cause) err-old err-new = subst (λ t. Tries t err-old err-new) (c.as_bytes.ensures.value ∙ c.farewell.ensures) c.tell.ensures in
    (record { end = c.run_daemon-end.result; run = run; told = told; by_cause = c.status_for.ensures }, refl, refl)
