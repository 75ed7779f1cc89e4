use Rattle.std.proofs.Common.{rules, ◌≡◌, ◌⊎◌, ℕ, true, inl, inr, refl}
use Rattle.cs_files.specs.Response.{status_of}
use Rattle.cs_files.specs.Ending.{Ends, RunsOut, Sink, sink}
use Rattle.cs_args.specs.Asked.{asked_stop, AskedStop}
use Rattle.cs_ask.specs.Asking.{MayTell, Refuses}
use Rattle.cs_ask.specs.Stopping.{Stops, waiting_text}
use Rattle.cs_ask.specs.declared.asking.Refusal.{Refusal}
use Rattle.cs_machine.specs.declared.last_word.StampsLeft.TheVariants.{AllWritten}
use Rattle.cs_ask.proofs.stopping.stop.Goals as goal

-- no daemon is stopped
refused_so : (refusal : Refusal) (a : AskedStop) (out-old out-new err-old waited err-new : Sink) (status : ℕ) → MayTell waiting_text err-old waited → (a.now ≡ true → waited ≡ err-old)
    → Refuses refusal a.stamps out-old out-new waited err-new status → Stops a out-old out-new err-old err-new status
refused_so refusal a out-old out-new err-old waited err-new status may now (inl told) = (waited, may, now, inr (inl (refusal, told)))
refused_so refusal a out-old out-new err-old waited err-new status may now (inr ran) = (waited, may, now, inr (inr ran))

pub returns-in_default : goal.returns-in_default
returns-in_default g c =
    let out = sink (g.O.Output.contents c.args.out.now) (g.O.Output.failed c.args.out.now) in
    let err-old = sink (g.E.Output.contents c.args.err.now) (g.E.Output.failed c.args.err.now) in
    let err-new = sink (g.E.Output.contents c.run_out.new.err) (g.E.Output.failed c.run_out.new.err) in
    let ran : RunsOut out out err-old err-new (status_of c.run_out.result) = search rules in
    (err-old, inl refl, (λ now. refl), inr (inr ran))

pub returns-in-Ok-ask_and_wait : goal.returns-in-Ok-ask_and_wait
returns-in-Ok-ask_and_wait g c = (_, c.ask_and_wait.ensures.told, c.ask_and_wait.ensures.now, inl (_, left, c.tell_left.ensures))
  where
    left : (asked_stop c.args.words).now ≡ true → c.in-Ok-ask_and_wait.left ≡ AllWritten
    left = c.in-Ok-ask_and_wait.ensures.left

pub returns : goal.returns
returns g c = refused_so c.in-Err.refusal (asked_stop c.args.words) _ _ _ _ _ _ c.ask_and_wait.ensures.told c.ask_and_wait.ensures.now c.refuse.ensures
