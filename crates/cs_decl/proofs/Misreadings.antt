-- Faults of JSON among those of declarations.
use Rattle.std.proofs.Common.{Result, refl}
use Rattle.cs_json.specs.Gives.{Fails as Misses}
use Rattle.cs_json.specs.declared.fault.JsonFault.{JsonFault}
use Rattle.cs_json.specs.declared.fault.JsonFault.TheVariants.{NotJson, BadShape}
use Rattle.cs_json.specs.declared.fault.Misread.{Misread}
use Rattle.cs_json.specs.declared.fault.Misread.TheVariants.{Memory, Fault}
use Rattle.cs_decl.specs.Meaning.{error_of, with_fault}
use Rattle.cs_plan.specs.Answers.{Fails}

pub failed : {A : Type 0} (e : Misread) (answer : Result A JsonFault) → Misses e answer → Fails (error_of e) (with_fault answer)
failed Memory answer h = tt
failed (Fault NotJson) answer h = rw h refl
failed (Fault BadShape) answer h = rw h refl
