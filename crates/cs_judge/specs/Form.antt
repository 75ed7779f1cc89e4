use Rattle.std.specs.Prelude.{⊤}
use Rattle.cs_check.specs.Checked.{certificate_in}
use Rattle.cs_check.specs.declared.checked.Checked.{Checked}
use Rattle.cs_judge.specs.Judged.{IfSafe, IsCompact}
use Rattle.cs_judge.specs.declared.answers.Wanted.{Wanted}
use Rattle.cs_judge.specs.declared.answers.Wanted.TheVariants.{Certificate, Compact, Verdict}
use Rattle.cs_judge.specs.declared.judged.Judged.{Judged}

-- the plan was accepted with a certificate as it is wanted: a compact one, unless a list is wanted
abbrev pub IsAsWanted : Wanted → Checked → Type 0
IsAsWanted Verdict checked = IsCompact (certificate_in checked)
IsAsWanted Certificate checked = ⊤
IsAsWanted Compact checked = IsCompact (certificate_in checked)

-- a plan that is safe was judged by such a certificate
abbrev pub IsJudgedBy : Wanted → Judged → Type 0
IsJudgedBy wanted judged = IfSafe judged (IsAsWanted wanted)
