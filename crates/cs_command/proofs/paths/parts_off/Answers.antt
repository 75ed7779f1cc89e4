use Rattle.std.proofs.Common.{◌∙◌, ◌==◌, [], ◌∷◌, codes, rules}
use borrow.Author.Tests.{tests}
use Rattle.std.specs.List.{slice_split}
use Rattle.std.proofs.lemmas.Iterator.Consumers.{YieldsList-at, YieldsList-from_filter, count_from_yields_List}
use Rattle.std.proofs.lemmas.Iterator.Splits.{YieldsList-from_slice_split}
use Rattle.std.proofs.lemmas.List.Sums.{length-filter}
use Rattle.cs_command.specs.Words.{is_among}
use Rattle.cs_command.proofs.paths.parts_off.Goals as goal

pub returns : goal.returns
returns c = count_from_yields_List c.filter.result _ c.count.ensures.ran
    (YieldsList-from_filter _ (is_among ([] ∷ codes "." ∷ codes ".." ∷ []))
    (YieldsList-at c.filter.ensures.source (YieldsList-from_slice_split _ (λ byte. byte == 47) c.args.path.now c.split.ensures.rest c.split.ensures.done c.split.ensures.closure (λ x r q k. search (rules, tests))))
    c.filter.ensures.closure (λ x r q k. search (rules, tests)))
    ∙ length-filter (is_among ([] ∷ codes "." ∷ codes ".." ∷ [])) (slice_split (λ byte. byte == 47) c.args.path.now)
