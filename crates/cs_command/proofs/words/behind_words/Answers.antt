use Rattle.std.proofs.Common.{◌∙◌, ℕ, List, Bor, Option, ap, option_map, sym}
use Rattle.cs_command.specs.Words.{behind_one}
use Rattle.cs_command.proofs.Passed.{next_passed}
use Rattle.cs_command.proofs.words.behind_words.Goals as goal

pub loop-preserved : goal.loop-preserved
loop-preserved c =
    let second : List ℕ × List ℕ → List ℕ = λ w. w.1 in
    let is = ap (option_map second) (sym c.word_at.ensures) ∙ ap (λ (r : Option (Bor (List ℕ) × Bor (List ℕ))). option_map second (option_map (λ w. (w.0.now, w.1.now)) r)) c.in-Some.is in
    next_passed behind_one _ c.loop.counter c.loop.rest.now c.in-Some.behind.now _ c.loop-test.true is c.loop.invariant
