use Rattle.std.specs.Prelude.{List}
use Rattle.arrayvec.specs.ArrayVec.{ArrayVec}
use Rattle.cs_civil.specs.Calendar.{Kind}
use Rattle.cs_theorem.specs.Faults.{Fault, Missing}

abbrev pub kinds_of : ArrayVec Kind → List Kind
kinds_of chain = chain.items

-- the fault that no stretch has the classes of these kinds
abbrev pub missing_chain : ArrayVec Kind → Fault
missing_chain chain = Missing chain.items
