-- What a call answers: what a definition answers, unless memory runs out.
use Rattle.std.specs.Prelude.{◌≡◌, Option, None, Some, Result, Ok, Err}
use Rattle.cs_plan.specs.declared.fault.DeclError.{DeclError}
use Rattle.cs_plan.specs.declared.fault.DeclError.TheVariants.{At, OutOfMemory}
use Rattle.cs_plan.specs.declared.fault.DeclFault.{DeclFault}
use Rattle.cs_plan.specs.declared.fault.Place.{Place}

abbrev pub Fault : Type 0
Fault = DeclFault × Option Place

-- what a call answered is what the definition answers, unless memory ran out
abbrev pub Fails : {X : Type 0} → DeclError → Result X Fault → Type 0
Fails OutOfMemory answer = Unit {0}
Fails (At fault place) answer = answer ≡ Err (fault, place)

abbrev pub Answers : {X Y : Type 0} → (X → Y) → Result Y Fault → Result X DeclError → Type 0
Answers view answer (Ok x) = answer ≡ Ok (view x)
Answers view answer (Err e) = Fails e answer

infixl 10 ◌>>=◌
abbrev pub ◌>>=◌ : {A B : Type 0} → Result A Fault → (A → Result B Fault) → Result B Fault
(Ok x) >>= f = f x
(Err e) >>= f = Err e

-- the value, unless there is a fault
abbrev pub unless : {A : Type 0} → A → Option Fault → Result A Fault
unless d None = Ok d
unless d (Some f) = Err f
