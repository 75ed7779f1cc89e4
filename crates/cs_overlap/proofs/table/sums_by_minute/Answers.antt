use Rattle.std.proofs.Common.{refl, List, ℕ, ◌≡◌, ap, ◌∙◌, get_or, arith}
use Rattle.cs_windows.specs.declared.window.Window.{Window}
use Rattle.cs_overlap.specs.declared.role.Role.{Role}
use Rattle.cs_overlap.specs.Sums.{amount_in, amount_of}
use Rattle.cs_overlap.proofs.HolderLemmas.{none, sum_step}
use Rattle.cs_overlap.proofs.table.sums_by_minute.Goals as goal

pub loop-window-init : goal.loop-window-init
loop-window-init c = (refl, none)

pub loop-window-preserved : goal.loop-window-preserved
loop-window-preserved c =
    let i = c.loop-window.window-index in
    let ws : List Window = c.args.windows.now in
    let d : Window = record { job = 0; day_back = 0; from = 0; reach = 0 } in
    let f = amount_in c.args.roles.now c.args.amount in
    let old : List ℕ = c.loop-window.table in
    let new = c.add.new.table in
    let number : c.amount_of.result ≡ f (get_or ws i d) = c.amount_of.ensures ∙ ap (λ (r : Role). amount_of c.args.amount r) c.role_of.ensures in
    (omega (arith, c.add.ensures.long), sum_step f ws i d c.loop-window-test.true old new c.loop-window.invariant.1 (λ m l t. omega (arith, c.add.ensures.held m l t, number)) (λ m l t. c.add.ensures.other m l t))
