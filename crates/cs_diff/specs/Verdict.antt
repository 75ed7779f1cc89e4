-- The verdict on a plan.
use Rattle.std.specs.Prelude.{◌≡◌, ℕ, Bool, nat_lt}
use Rattle.cs_plan.specs.Plan.{Declared}
use Rattle.cs_judge.specs.Judged.{IsJudgement}
use Rattle.cs_judge.specs.declared.judged.Judged.{Judged}
use Rattle.cs_judge.specs.declared.judged.Judged.TheVariants as judged
use Rattle.cs_diff.specs.declared.verdict.Verdict.{Verdict}
use Rattle.cs_diff.specs.declared.verdict.Verdict.TheVariants.{Safe, Unknown, Unsafe}

abbrev pub verdict_of : Judged → Verdict
verdict_of (judged.Safe checked) = Safe
verdict_of (judged.Unsafe script shown breach) = Unsafe
verdict_of (judged.Unknown reason refusal) = Unknown

-- the plan is judged so
unfoldable pub IsVerdict : Declared → Verdict → Type 0
IsVerdict plan verdict = (judged : Judged) × IsJudgement plan judged × (verdict ≡ verdict_of judged)

-- from good to bad
abbrev pub rank : Verdict → ℕ
rank Safe = 0
rank Unknown = 1
rank Unsafe = 2

abbrev pub is_worse : Verdict → Verdict → Bool
is_worse before after = nat_lt (rank before) (rank after)
