use Rattle.std.proofs.Common.{rules}
use Rattle.std.proofs.lemmas.Fn.{always_returns_same}
use Rattle.cs_daytree.proofs.Rising.{sorted_by}
use Rattle.cs_claims.specs.Rules.{comes_before}
use Rattle.cs_claims.proofs.stretch.rise.Goals as goal

pub returns : goal.returns
returns c =
    sorted_by _ _ _ (c.is_sorted_by.ensures.cases (λ s t. comes_before s.of t.of) (always_returns_same _ _ _ (λ a r f' k. (search rules, search rules))))
