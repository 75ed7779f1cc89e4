use Rattle.std.proofs.Common.{◌≡◌, ◌∙◌, ◌+◌, ◌++◌, List, Result, Ok, Err, Bool, true, false, ◌&&◌, ap, append_assoc, refl, subst, sym, take, true≢false}
use Rattle.std.specs.Result.{OnOk, is_ok}
use Rattle.cs_args.specs.Asked.{asked_run}
use Rattle.cs_serve.specs.Failing.{Memory}
use Rattle.cs_serve.specs.Hooks.{Hook, hooks_along, hooks_more, hooks_of, known_after}
use Rattle.cs_serve.proofs.Calls.{along_more}
use Rattle.cs_serve.proofs.hooks.start_each.Goals as goal

both : (a b : Bool) → (a && b) ≡ true → (a ≡ true) × (b ≡ true)
both true true is = (refl, refl)
both true false is = absurd (true≢false (sym is))
both false b is = absurd (true≢false (sym is))

of_ok : {T E P : Type 0} (r : Result T E) → is_ok r ≡ true → OnOk r P → P
of_ok (Ok x) is p = p
of_ok (Err e) is p = absurd (true≢false (sym is))

pub loop-call-preserved : goal.loop-call-preserved
loop-call-preserved g c = λ whole.
    let a = asked_run c.args.words.now in
    let jobs = c.args.jobs.now in
    let calls = c.args.calls.now in
    let call = c.call-item.result in
    let failing = c.args.failing.now.items in
    let along = hooks_along a jobs c.args.now failing (take c.loop-call.call-index calls) in
    let more : hooks_along a jobs c.args.now failing (take (c.loop-call.call-index + 1) calls) ≡ hooks_more a jobs c.args.now along call = along_more a jobs c.args.now failing calls c.loop-call.call-index call c.loop-call-test.true c.call-item.is in
    let parts = both c.loop-call.is_whole c.is_ok-is_whole.result whole in
    let is : c.is_ok-is_whole.result ≡ is_ok c.start_one-made.result = c.is_ok-is_whole.ensures.value in
    let ok : is_ok c.start_one-made.result ≡ true = sym is ∙ parts.1 in
    let known = of_ok c.start_one-made.result ok c.start_one-made.ensures.known in
    let started = of_ok c.start_one-made.result ok c.start_one-made.ensures.asked in
    let so_far = c.loop-call.invariant parts.0 in (
      known ∙ ap (λ (m : Memory). known_after jobs c.args.now m call) so_far.0 ∙ ap (λ (s : List Hook × Memory). s.1) (sym more),
      λ before asked. subst (λ (hooks : List Hook). g.S.Starter.asked c.start_one-made.new.starter hooks)
          (append_assoc before along.0 (hooks_of a jobs c.args.now c.loop-call.failing.items call) ∙ ap (λ (m : Memory). before ++ (along.0 ++ hooks_of a jobs c.args.now m call)) so_far.0 ∙ ap (λ (s : List Hook × Memory). before ++ s.0) (sym more))
          (started (before ++ along.0) (so_far.1 before asked)),
    )
