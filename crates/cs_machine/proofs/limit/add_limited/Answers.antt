use Rattle.std.proofs.Common.{◌≡◌, ◌∙◌, ◌++◌, ◌∷◌, [], ℕ, List, Option, Some, ap, sym, append_assoc}
use Rattle.std.proofs.lemmas.Result.{on_ok_weaker}
use Rattle.cs_machine.specs.Limit.{limit_words, limited, timeout}
use Rattle.cs_machine.proofs.limit.add_limited.Goals as goal

joined : (old mid new : List (List ℕ)) (n : ℕ) (left : Option ℕ) → left ≡ Some n → new ≡ mid ++ limit_words n → mid ≡ old ++ timeout ∷ [] → new ≡ old ++ limited left
joined old mid new n left is one begun = one ∙ ap (λ words. words ++ limit_words n) begun ∙ append_assoc old (timeout ∷ []) (limit_words n) ∙ ap (λ l. old ++ limited l) (sym is)

pub returns-clause-words : goal.returns-clause-words
returns-clause-words c = on_ok_weaker c.add_limit.result (λ one. joined _ _ _ c.in-Some.left c.args.left c.in-Some.is one c.in_ok-add_words.ensures.words) c.add_limit.ensures.words
