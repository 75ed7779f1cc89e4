use Rattle.std.proofs.Common.{◌≡◌, sym, ◌∙◌}
use Rattle.cs_plan.specs.Plan.{Declared}
use Rattle.cs_judge.specs.Called.{IsCalledSafe}
use Rattle.cs_judge.specs.Judged.{IsJudgement}
use Rattle.cs_judge.specs.declared.judged.Judged.{Judged}
use Rattle.cs_judge.specs.declared.judged.Judged.TheVariants as judged
use Rattle.cs_judge.proofs.Called.{called}
use Rattle.cs_diff.specs.declared.verdict.Verdict.{Verdict}
use Rattle.cs_diff.specs.declared.verdict.Verdict.TheVariants.{Safe, Unknown, Unsafe}
use Rattle.cs_diff.specs.Verdict.{IsVerdict, verdict_of}

pub judged_so : (plan : Declared) (j : Judged) (v : Verdict) → IsJudgement plan j → v ≡ verdict_of j → IsVerdict plan v
unfolding IsVerdict
judged_so plan j v known is = (j, known, is)

pub called_safe : (plan : Declared) (v : Verdict) → IsVerdict plan v → v ≡ Safe → IsCalledSafe plan
unfolding IsVerdict
called_safe plan v (judged.Safe checked, known, is) e = called plan checked known
called_safe plan v (judged.Unsafe script shown breach, known, is) e = absurd (let no : Unsafe ≡ Safe = sym is ∙ e in cc)
called_safe plan v (judged.Unknown reason refusal, known, is) e = absurd (let no : Unknown ≡ Safe = sym is ∙ e in cc)
