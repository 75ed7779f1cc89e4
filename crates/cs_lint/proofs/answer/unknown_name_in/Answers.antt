use borrow.Author.Tests.{tests}
use Rattle.std.proofs.Common.{rules, arith, is_none}
use Rattle.std.proofs.lemmas.Iterator.Search.{find_from_yields_List}
use Rattle.std.proofs.lemmas.Iterator.Splits.{YieldsList-from_str_split}
use Rattle.cs_explain.specs.Odd.{odd_named}
use Rattle.cs_lint.proofs.answer.unknown_name_in.Goals as goal

pub returns : goal.returns
returns c = find_from_yields_List (λ name. is_none (odd_named name)) _ _ _ c.find.ensures.ran
    (YieldsList-from_str_split 44 c.args.word.now (omega (arith)) c.split.ensures.text c.split.ensures.has_more c.split.ensures.pattern) (λ x r q k. search (rules, tests))
