use Rattle.std.proofs.Common.{◌==◌, rules}
use borrow.Author.Tests.{tests}
use Rattle.std.proofs.lemmas.Iterator.Search.{find_from_yields_List}
use Rattle.std.proofs.lemmas.Iterator.Splits.{YieldsList-from_slice_split}
use Rattle.cs_machine.specs.Home.{is_entry}
use Rattle.cs_machine.proofs.home.entry_of.Goals as goal

pub returns : goal.returns
returns c = find_from_yields_List (is_entry c.args.fields c.args.place c.args.wanted.now) _ _ c.find.result c.find.ensures.ran
    (YieldsList-from_slice_split _ (λ b. b == 10) c.args.text.now c.split.ensures.rest c.split.ensures.done c.split.ensures.closure (λ x r q k. search (rules, tests)))
    (λ x b q k. search (rules, tests))
