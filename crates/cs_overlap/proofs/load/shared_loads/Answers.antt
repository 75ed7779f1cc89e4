use Rattle.std.proofs.Common.{ℕ, arith, refl}
use Rattle.std.proofs.lemmas.List.{get_or-replicate}
use Rattle.cs_overlap.proofs.load.shared_loads.Goals as goal

pub loop-window-init : goal.loop-window-init
loop-window-init c = (refl, (λ g h. omega (arith, get_or-replicate {A = ℕ} 64 g 0 0 h)), λ g h. omega (arith, get_or-replicate {A = ℕ} 64 g 0 0 h))
