use Rattle.std.proofs.Common.{refl, arith, true, false, ◌≡◌}
use Rattle.cs_history.specs.History.{run_of}
use Rattle.cs_history.proofs.boundaries.unsafe_history.Goals as goal

pub returns-clause-not_calm : goal.returns-clause-not_calm
returns-clause-not_calm c r calm = let x = calm.exclusive (run_of 0 4321) (run_of 1 4321) (record { known = omega arith; opens = refl; begun = omega arith; lasts = omega arith }) (record { known = omega arith; opens = refl; begun = omega arith; lasts = omega arith }) refl refl refl refl in let y : false ≡ true = x.0 in cc
