use Rattle.std.proofs.Common.{refl, arith, true, false, ◌≡◌}
use Rattle.cs_history.proofs.stories.safe_and_unsafe.Goals as goal

pub returns-clause-in_time : goal.returns-clause-in_time
returns-clause-in_time c = (((tt, tt), (omega arith, tt)), (omega arith, tt))

pub returns-clause-together : goal.returns-clause-together
returns-clause-together c s = let x : true ≡ false = s.1.apart.0.0 in cc

pub returns-clause-late : goal.returns-clause-late
returns-clause-late c s = omega (arith, s.0.1.0)

pub returns-clause-overload : goal.returns-clause-overload
returns-clause-overload c s = omega (arith, s.1.load)

pub returns-clause-skipped : goal.returns-clause-skipped
returns-clause-skipped c s = s.2 refl refl

pub returns-clause-shared : goal.returns-clause-shared
returns-clause-shared c = (((((record { apart = tt; load = omega arith }), record { apart = tt; load = omega arith }, tt), record { apart = (tt, tt); load = omega arith }, λ m e. cc), record { apart = ((refl, tt), (tt, tt)); load = omega arith }, λ m e. cc), record { apart = ((refl, tt), (tt, tt)); load = omega arith }, λ m e. cc)
