use Rattle.std.proofs.Common.{◌≤◌, length}
use Rattle.cs_advise.specs.Advice.{IsAdvice}
use Rattle.cs_advise.proofs.advice.told_changes.Given as goal

abbrev pub invariant-loop-change : goal.invariant-loop-change
invariant-loop-change g l =
    IsAdvice l.source l.plan l.told.items l.text.items × (length l.told.items ≤ l.most)
