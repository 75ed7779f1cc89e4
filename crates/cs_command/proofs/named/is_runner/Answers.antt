use Rattle.std.proofs.Common.{◌==◌, codes, rules}
use borrow.Author.Tests.{tests}
use Rattle.std.specs.List.{starts_with}
use Rattle.std.proofs.lemmas.Iterator.Search.{any_from_yields_List}
use Rattle.std.proofs.lemmas.Iterator.Splits.{YieldsList-from_slice_split}
use Rattle.cs_command.specs.Words.{is_runner}
use Rattle.cs_command.proofs.named.is_runner.Goals as goal

pub returns : goal.returns
unfolding is_runner
returns c = any_from_yields_List (λ known. starts_with (λ a b. a == b) c.args.name.now known) _ _ _ c.any.ensures.ran
    (YieldsList-from_slice_split _ (λ byte. byte == 32) (codes "run-parts python perl php ruby node java dash ksh zsh") c.split.ensures.rest c.split.ensures.done c.split.ensures.closure (λ x r q k. search (rules, tests)))
    (λ x r q k. search (rules, tests))
