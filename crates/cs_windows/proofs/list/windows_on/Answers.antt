use Rattle.std.proofs.Common.{◌≡◌, List, sym, subst, arith, map}
use Rattle.std.specs.Prelude.{Contains, ◌↔◌}
use Rattle.std.proofs.lemmas.Grind.{common_steps}
use Rattle.cs_windows.specs.declared.window.Window.{Window}
use Rattle.cs_windows.specs.Occupied.{job_of}
use Rattle.cs_windows.specs.Window.{IsRising}
use Rattle.cs_windows.specs.Windows.{IsWindowOn, windows_on}
use Rattle.cs_windows.proofs.Exact.{exact}
use Rattle.cs_windows.proofs.Rising.{windows_rise}
use Rattle.cs_windows.proofs.list.windows_on.Goals as goal

pub returns-clause-rising : goal.returns-clause-rising
returns-clause-rising c =
    let jobs = map job_of c.args.occupied.now in
    let e : c.loop-place.windows.items ≡ windows_on jobs c.args.days.now = grind (arith, common_steps) in
    subst IsRising (sym e) (windows_rise jobs c.args.days.now)

pub returns-clause-exact : goal.returns-clause-exact
returns-clause-exact c w =
    let jobs = map job_of c.args.occupied.now in
    let e : c.loop-place.windows.items ≡ windows_on jobs c.args.days.now = grind (arith, common_steps) in
    subst (λ (ws : List Window). Contains ws w ↔ IsWindowOn jobs c.args.days.now w) (sym e) (exact jobs c.args.days.now w)
