use Rattle.std.proofs.Common.{refl}
use Rattle.cs_explain.specs.Odd.{odd_names}
use Rattle.cs_explain.proofs.OddLemmas.{name_of_meaning}
use Rattle.cs_explain.proofs.texts.odd_name.Goals as goal

pub returns-in_err-meaning : goal.returns-in_err-meaning
returns-in_err-meaning c =
    let is = name_of_meaning c.args.name.now c.meanings.result.now odd_names c.meaning_of.result c.meaning_of.ensures (c.meanings.ensures refl) in
    rw c.from_residual.ensures (rw c.in_err-meaning.was at is)

pub returns : goal.returns
returns c =
    let is = name_of_meaning c.args.name.now c.meanings.result.now odd_names c.meaning_of.result c.meaning_of.ensures (c.meanings.ensures refl) in
    rw c.in_ok-meaning.was at is
