use Rattle.std.proofs.Common.{◌≡◌, ◌++◌, List, take, true}
use Rattle.cs_args.specs.Asked.{asked_run}
use Rattle.cs_serve.specs.Hooks.{Hook, hooks_along}
use Rattle.cs_serve.proofs.hooks.start_each.Given as goal

abbrev pub invariant-loop-call : goal.invariant-loop-call
invariant-loop-call g l =
    let along = hooks_along (asked_run l.words) l.jobs l.now l.fn.failing.items (take l.call-index l.calls) in
    l.is_whole ≡ true → (l.failing.items ≡ along.1) × ((before : List Hook) → g.S.Starter.asked l.fn.starter before → g.S.Starter.asked l.starter (before ++ along.0))
