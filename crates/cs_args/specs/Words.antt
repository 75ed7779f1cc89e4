-- The faults of words as they are printed.
use Rattle.std.specs.Prelude.{ℕ, List, ◌++◌, codes}
use Rattle.cs_civil.specs.Faults.{fault_text}
use Rattle.cs_args.specs.declared.question.WordFault.{WordFault}
use Rattle.cs_args.specs.declared.question.WordFault.TheVariants.{Date, BadMax, BadHours}

abbrev pub word_fault : WordFault → List ℕ
word_fault (Date fault) = codes "date: " ++ fault_text fault
word_fault BadMax = codes "declarations: 6 BadMax"
word_fault BadHours = codes "declarations: 12 BadHours"
