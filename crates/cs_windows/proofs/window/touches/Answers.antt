use Rattle.std.proofs.Common.{◌≡◌, sym, ◌∙◌, nat_lt}
use Rattle.cs_windows.specs.Window.{touches}
use Rattle.cs_windows.proofs.Touching.{touches_held, held_touches}
use Rattle.cs_windows.proofs.window.touches.Goals as goal

pub returns-clause-held : goal.returns-clause-held
returns-clause-held c =
    let w = c.args.window.now in
    let same : nat_lt c.max-first.result c.min.result ≡ touches w c.args.lo c.args.hi = cc in
    (λ yes. touches_held w c.args.lo c.args.hi (sym same ∙ yes), λ h. same ∙ held_touches w c.args.lo c.args.hi h.0 h.1 h.2 h.3)
