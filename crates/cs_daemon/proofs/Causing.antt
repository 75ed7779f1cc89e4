-- Why a tick makes a daemon end.
use Rattle.std.proofs.Common.{◌≡◌, Result, Ok, Err, refl, subst}
use Rattle.std.specs.Prelude.{IfErr}
use Rattle.cs_keep.specs.declared.tick.TickFault.{TickFault}
use Rattle.cs_keep.specs.declared.tick.TickFault.TheVariants.{ClockBack as TickBack}
use Rattle.cs_daemon.specs.declared.end.Cause.{Cause}
use Rattle.cs_daemon.specs.declared.end.Cause.TheVariants.{ClockBack}

-- what a tick says of a clock that went back, the daemon's end says too
pub went_back : (Says : Type 0) (ticked : Result (Unit {0}) TickFault) (r : Result (Unit {0}) Cause) → IfErr r (λ cause. cause ≡ ClockBack → ticked ≡ Err TickBack) → IfErr ticked (λ f. f ≡ TickBack → Says) → IfErr r (λ cause. cause ≡ ClockBack → Says)
went_back Says ticked (Ok v) why told = tt
went_back Says ticked (Err cause) why told = λ is. (subst (λ (t : Result (Unit {0}) TickFault). IfErr t (λ f. f ≡ TickBack → Says)) (why is) told) refl
