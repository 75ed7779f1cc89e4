use Rattle.std.proofs.Common.{◌≡◌, ◌∷◌, ◌∙◌, ◌+◌, ℕ, List, suc, ap, sym, take, drop, arith}
use Rattle.std.specs.List.{slice_split}
use Rattle.std.proofs.lemmas.List.{take_rest}
use Rattle.cs_crontab.specs.Format.{is_comma}
use Rattle.cs_crontab.proofs.Lists.{no_comma, comma_at}
use Rattle.cs_crontab.proofs.field.first_item.Goals as goal

pub returns-in-Some-clause-items : goal.returns-in-Some-clause-items
returns-in-Some-clause-items c =
    let text : List ℕ = c.args.text.now in
    let at : ℕ = c.in-Some.at in
    let next : suc at ≡ at + 1 = omega arith in
    let first = c.in-Some.ensures in
    comma_at text at first.0.high (λ j lt is. first.0.before j (omega arith) lt is) first.1
    ∙ ap (λ n. take at text ∷ slice_split is_comma (drop n text)) next ∙ ap (λ (l : List ℕ). take at text ∷ slice_split is_comma l) (sym (take_rest text (at + 1)))

pub returns-in-None-clause-items : goal.returns-in-None-clause-items
returns-in-None-clause-items c = no_comma c.args.text.now (λ k below is. c.in-None.ensures k (omega arith) below is)
