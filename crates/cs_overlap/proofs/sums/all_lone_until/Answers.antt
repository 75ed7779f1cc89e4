use Rattle.std.proofs.Common.{ℕ, ◌≤◌, List, take, get_or, subst, sym, arith}
use Rattle.std.proofs.lemmas.List.{take_more}
use Rattle.std.specs.List.{AllByRecursion}
use Rattle.cs_history.proofs.Lists.{all_map, all_push}
use Rattle.cs_windows.specs.declared.window.Window.{Window}
use Rattle.cs_overlap.specs.Sums.{IsLone}
use Rattle.cs_overlap.proofs.sums.all_lone_until.Goals as goal

pub loop-window-preserved : goal.loop-window-preserved
loop-window-preserved c =
    let i = c.loop-window.window-index in
    let roles = c.args.roles.now in
    let takers : List ℕ = c.args.takers.now in
    let ws : List Window = c.args.windows.now in
    let d : Window = record { job = 0; day_back = 0; from = 0; reach = 0 } in
    let old : ℕ = c.loop-window.end in
    let here : ℕ = c.lone_until.result in
    let end : ℕ = c.min-end.result in
    let before : end ≤ old = omega (arith, c.min-end.ensures) in
    let by_this : end ≤ here = omega (arith, c.min-end.ensures) in (
      omega (arith, c.loop-window.invariant.0, before),
      subst (λ (l : List Window). AllByRecursion (IsLone end roles takers) l) (sym (take_more ws i d c.loop-window-test.true))
          (all_push (IsLone end roles takers) (take i ws) (get_or ws i d)
          (all_map (IsLone old roles takers) (IsLone end roles takers) (take i ws) (λ w lone s b lt. lone s b (omega (arith, lt, before))) c.loop-window.invariant.1)
          (λ s b lt. c.lone_until.ensures.lone s b (omega (arith, lt, by_this)))),
    )
