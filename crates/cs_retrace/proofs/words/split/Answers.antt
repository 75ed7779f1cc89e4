use Rattle.std.proofs.Common.{◌≡◌, ◌∙◌, ◌+◌, ℕ, List, suc, Some, ap, sym, take, drop, arith}
use Rattle.std.proofs.lemmas.List.{take_rest}
use Rattle.cs_table.proofs.Quotes.{quote_at, no_quote}
use Rattle.cs_retrace.proofs.words.split.Goals as goal

pub returns-in_err-at : goal.returns-in_err-at
returns-in_err-at c = rw c.from_residual.ensures (sym (no_quote c.args.byte c.args.text.now (λ k below is. c.in_err-at.ensures k (omega arith) below is)))

pub returns : goal.returns
returns c =
    let text : List ℕ = c.args.text.now in
    let at : ℕ = c.in_ok-at.at in
    let next : suc at ≡ at + 1 = omega arith in
    let first = c.in_ok-at.ensures in
    sym (quote_at c.args.byte text at first.0.high (λ j lt is. first.0.before j (omega arith) lt is) first.1
    ∙ ap (λ n. Some (take at text, drop n text)) next ∙ ap (λ (l : List ℕ). Some (take at text, l)) (sym (take_rest text (at + 1))))
