use Rattle.std.proofs.Common.{ℕ, List, Some, take, ◌+◌, ap, sym, ◌∙◌}
use Rattle.std.proofs.lemmas.List.{take_rest}
use Rattle.cs_report.proofs.FirstWord.{space_behind}
use Rattle.cs_report.proofs.words.first_word.Goals as goal

pub returns-in-Some : goal.returns-in-Some
returns-in-Some c =
    let text : List ℕ = c.args.text.now in
    let at : ℕ = c.in-Some.at in
    ap (λ (l : List ℕ). Some (take at text, l)) (take_rest text (at + 1)) ∙ space_behind text at (sym c.in-Some.ensures) c.if-at-ne0.true
