use Rattle.std.proofs.Common.{refl, arith, true, false, ◌≡◌, ◌+◌}
use Rattle.cs_history.specs.Calm.{IsCalm}
use Rattle.cs_history.specs.Examples.{beside_catch_up, midnights}
use Rattle.cs_history.specs.History.{run_of}
use Rattle.cs_history.proofs.stories.windows_and_calm.Goals as goal

pub returns-clause-ends : goal.returns-clause-ends
returns-clause-ends c r = (record { known = omega arith; opens = refl; begun = omega arith; lasts = omega arith }, λ h. omega (arith, h.lasts))

pub returns-clause-meets : goal.returns-clause-meets
returns-clause-meets c r calm = let x = calm.exclusive (run_of 0 2850) (run_of 1 2880) (record { known = omega arith; opens = refl; begun = omega arith; lasts = omega arith }) (record { known = omega arith; opens = refl; begun = omega arith; lasts = omega arith }) refl refl refl refl in let y : false ≡ true = x.0 in cc

pub returns-clause-itself : goal.returns-clause-itself
returns-clause-itself c r calm = let x = calm.exclusive (run_of 0 2875) (run_of 0 2880) (record { known = omega arith; opens = refl; begun = omega arith; lasts = omega arith }) (record { known = omega arith; opens = refl; begun = omega arith; lasts = omega arith }) refl refl refl refl in let y : false ≡ true = x.0 in cc

pub returns-clause-next_day : goal.returns-clause-next_day
returns-clause-next_day c r = (λ (calm : IsCalm (midnights 1441) r 5760). let x = calm.exclusive (run_of 0 4320) (run_of 0 5760) (record { known = omega arith; opens = refl; begun = omega arith; lasts = omega arith }) (record { known = omega arith; opens = refl; begun = omega arith; lasts = omega arith }) refl refl refl refl in let y : false ≡ true = x.0 in cc, λ h. omega (arith, h.lasts))

pub returns-clause-three_days : goal.returns-clause-three_days
returns-clause-three_days c r = (record { known = omega arith; opens = refl; begun = omega arith; lasts = omega arith }, λ h. omega (arith, h.lasts))

pub returns-clause-catch_up : goal.returns-clause-catch_up
returns-clause-catch_up c r = (λ (calm : IsCalm (beside_catch_up 358) r (2880 + 358)). let x = calm.beside (run_of 0 (2880 + 358)) (run_of 1 (2880 + 180)) (record { known = omega arith; opens = refl; begun = omega arith; lasts = omega arith }) (record { known = omega arith; opens = refl; begun = omega arith; lasts = omega arith }) refl refl in let y : true ≡ false = x.0 in cc, λ h. omega (arith, h.lasts))

pub returns-clause-skip : goal.returns-clause-skip
returns-clause-skip c calm = let x : true ≡ false = calm.skip (run_of 1 (2880 + 49)) (run_of 0 2880) refl refl (record { known = omega arith; opens = refl; begun = omega arith; lasts = omega arith }) (record { known = omega arith; opens = refl; begun = omega arith; lasts = omega arith }) refl in cc
