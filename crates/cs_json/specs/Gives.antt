-- What a call that may run out of memory answers.
use Rattle.std.specs.Prelude.{◌≡◌, Option, Some, None, Result, Ok, Err, ⊤}
use Rattle.cs_json.specs.declared.fault.JsonFault.{JsonFault}
use Rattle.cs_json.specs.declared.fault.Misread.{Misread}
use Rattle.cs_json.specs.declared.fault.Misread.TheVariants.{Memory, Fault}

-- out of memory, or the answer's own fault
abbrev pub Fails : {Y : Type 0} → Misread → Result Y JsonFault → Type 0
Fails Memory answer = ⊤
Fails (Fault f) answer = answer ≡ Err f

-- what was returned, seen through `view`, is the answer, unless memory ran out
abbrev pub Gives : {X Y : Type 0} → (X → Y) → Result X Misread → Result Y JsonFault → Type 0
Gives view (Ok x) answer = answer ≡ Ok (view x)
Gives view (Err e) answer = Fails e answer

abbrev pub or_fault : {A : Type 0} → JsonFault → Option A → Result A JsonFault
or_fault f (Some a) = Ok a
or_fault f None = Err f

-- one step after another: the first fault is the answer
infixl 10 ◌>>=◌
abbrev pub ◌>>=◌ : {A B : Type 0} → Result A JsonFault → (A → Result B JsonFault)
    → Result B JsonFault
(Ok x) >>= f = f x
(Err e) >>= f = Err e
