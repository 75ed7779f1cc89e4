use Rattle.std.proofs.Common.{◌≡◌, ℕ, List, rules, arith, refl, Bool, true, false, Some, Option, option_map, if◌then◌else◌}
use Rattle.std.proofs.lemmas.Grind.{common_steps}
use Rattle.cs_machine.proofs.Hooks.{one_more}
use Rattle.cs_machine.proofs.hook.set_all.Goals as goal

said_more : (b : Bool) (x : List ℕ) (old : Option (List ℕ)) → (if b then Some (Some x) else option_map Some old) ≡ option_map Some (if b then Some x else old)
said_more true x old = refl
said_more false x old = refl

pub loop-name-preserved : goal.loop-name-preserved
loop-name-preserved c = (search rules, search rules, search rules, λ k. grind (arith, common_steps, one_more, said_more))
