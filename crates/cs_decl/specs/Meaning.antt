-- What bytes declare.
use Rattle.std.specs.Prelude.{◌≡◌, List, ℕ, None, Result, Ok, Err}
use Rattle.cs_json.specs.Bytes.{json_of}
use Rattle.cs_json.specs.declared.fault.JsonFault.{JsonFault}
use Rattle.cs_json.specs.declared.fault.JsonFault.TheVariants as json
use Rattle.cs_json.specs.declared.fault.Misread.{Misread}
use Rattle.cs_json.specs.declared.fault.Misread.TheVariants.{Memory, Fault as Misreading}
use Rattle.cs_json.specs.Gives.{or_fault}
use Rattle.cs_plan.specs.declared.fault.DeclFault.{DeclFault}
use Rattle.cs_plan.specs.declared.fault.DeclFault.TheVariants as faults
use Rattle.cs_plan.specs.declared.fault.DeclError.{DeclError}
use Rattle.cs_plan.specs.declared.fault.DeclError.TheVariants.{At, OutOfMemory}
use Rattle.cs_decl.specs.declared.entries.Entries.{Entries}
use Rattle.cs_decl.specs.Shape.{entries_of}
use Rattle.cs_decl.specs.Doubled.{doubled_member}
use Rattle.cs_decl.specs.Faults.{faults_of, first_fault}
use Rattle.cs_plan.specs.Answers.{Fault}
use Rattle.cs_plan.specs.Answers.{◌>>=◌, unless}

abbrev pub error_of : Misread → DeclError
error_of Memory = OutOfMemory
error_of (Misreading json.NotJson) = At faults.NotJson None
error_of (Misreading json.BadShape) = At faults.BadShape None

abbrev pub json_fault : JsonFault → DeclFault
json_fault json.NotJson = faults.NotJson
json_fault json.BadShape = faults.BadShape

abbrev pub with_fault : {A : Type 0} → Result A JsonFault → Result A Fault
with_fault (Ok x) = Ok x
with_fault (Err f) = Err (json_fault f, None)

-- what bytes declare: a JSON value of the right shape, without a fault of the table
unfoldable pub declared_by : List ℕ → Result Entries Fault
declared_by bytes = do
  json ← with_fault (or_fault json.NotJson (json_of bytes))
  d ← with_fault (entries_of json)
  unless (record d { doubled = doubled_member bytes }) (first_fault (faults_of d))

abbrev pub IsValid : Entries → Type 0
IsValid d = first_fault (faults_of d) ≡ None
