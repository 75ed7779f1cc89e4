use Rattle.std.proofs.Common.{rules}
use Rattle.std.specs.Prelude.{nat_lt}
use Rattle.std.proofs.lemmas.Fn.{always_returns_same}
use Rattle.cs_daytree.proofs.Rising.{sorted_by}
use Rattle.cs_claims.proofs.class.jobs_rise.Goals as goal

pub returns : goal.returns
returns c =
    sorted_by _ _ _ (c.is_sorted_by.ensures.cases (λ a b. nat_lt a.job b.job) (always_returns_same _ _ _ (λ a r f' k. (search rules, search rules))))
