use Rattle.std.specs.Prelude.{◌≡◌, Result, Ok, Err, ⊤}
use Rattle.cs_claims.specs.declared.fault.CertFault.{CertFault}
use Rattle.cs_claims.specs.declared.fault.CertError.{CertError}
use Rattle.cs_claims.specs.declared.fault.CertError.TheVariants.{Fault, OutOfMemory}

-- what was returned, as it is seen, is the answer
abbrev pub Tells : {X Y : Type 0} → (X → Y) → Result X CertFault → Result Y CertFault → Type 0
Tells seen (Ok x) answer = answer ≡ Ok (seen x)
Tells seen (Err fault) answer = answer ≡ Err fault

-- out of memory, or the answer's own fault
abbrev pub Fails : {Y : Type 0} → CertError → Result Y CertFault → Type 0
Fails OutOfMemory answer = ⊤
Fails (Fault fault) answer = answer ≡ Err fault

-- the same, unless memory ran out
abbrev pub Gives : {X Y : Type 0} → (X → Y) → Result X CertError → Result Y CertFault → Type 0
Gives seen (Ok x) answer = answer ≡ Ok (seen x)
Gives seen (Err e) answer = Fails e answer
