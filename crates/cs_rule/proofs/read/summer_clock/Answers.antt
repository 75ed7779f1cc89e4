use Rattle.std.proofs.Common.{rules}
use Rattle.cs_rule.proofs.Usable.{is_usable}
use Rattle.cs_rule.proofs.read.summer_clock.Goals as goal

-- A rule whose parts are sound means its clock.
pub returns-then-to-from-clause-value : goal.returns-then-to-from-clause-value
returns-then-to-from-clause-value c =
    is_usable c.args.standard c.args.summer c.args.start c.args.end c.between.result c.requires.standard c.requires.summer
    (record { whole = c.requires.whole.0; inside = search rules; march = search rules })
    (record { whole = c.requires.whole.1; inside = search rules; march = search rules })
    (search rules) (search rules) (search rules)

pub returns-else-to-from-clause-value : goal.returns-else-to-from-clause-value
returns-else-to-from-clause-value c =
    is_usable c.args.standard c.args.summer c.args.start c.args.end c.between-else-to-from.result c.requires.standard c.requires.summer
    (record { whole = c.requires.whole.0; inside = search rules; march = search rules })
    (record { whole = c.requires.whole.1; inside = search rules; march = search rules })
    (search rules) (search rules) (search rules)
