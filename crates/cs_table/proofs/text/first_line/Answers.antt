use Rattle.std.proofs.Common.{◌≡◌, ◌∷◌, ◌∙◌, ◌+◌, ℕ, List, suc, ap, sym, length, take, drop, arith}
use Rattle.std.proofs.lemmas.List.{take_rest}
use Rattle.std.proofs.Math.Seq.{drop-length}
use Rattle.cs_table.specs.Text.{lines_of}
use Rattle.cs_table.proofs.Lines.{line_at, one_line, lines_of_nothing}
use Rattle.cs_table.proofs.text.first_line.Goals as goal

pub returns-in-Some-clause-line : goal.returns-in-Some-clause-line
returns-in-Some-clause-line c =
    let text : List ℕ = c.args.text.now in
    let at : ℕ = c.in-Some.at in
    let next : suc at ≡ at + 1 = omega arith in
    let first = c.in-Some.ensures in
    line_at text at first.0.high (λ j lt is. first.0.before j (omega arith) lt is) first.1
    ∙ ap (λ n. take at text ∷ lines_of (drop n text)) next ∙ ap (λ (l : List ℕ). take at text ∷ lines_of l) (sym (take_rest text (at + 1)))

pub returns-in-None-clause-line : goal.returns-in-None-clause-line
returns-in-None-clause-line c =
    let text : List ℕ = c.args.text.now in
    let rest = take_rest text (length text) ∙ drop-length text in
    one_line text c.requires (λ k below is. c.in-None.ensures k (omega arith) below is)
    ∙ ap (λ (l : List (List ℕ)). text ∷ l) (sym lines_of_nothing ∙ sym (ap lines_of rest))
