-- What follows the last bracket of a text.
use Rattle.std.proofs.Common.{◌≡◌, ◌∙◌, ℕ, suc, ◌+◌, ◌<◌, true, false, ◌||◌, List, [], ◌∷◌, ◌==◌, length, get_or, drop, refl, sym, ap, subst, arith, length-drop}
use Rattle.std.specs.List.{list_any}
use Rattle.std.proofs.lemmas.Bool.{false_from_ne_true}
use Rattle.std.proofs.lemmas.List.{get_or-drop}
use Rattle.memchr.specs.Find.{NoneAfter, Passes, is_byte}

no_bracket : (xs : List ℕ) → ((k : ℕ) → k < length xs → ¬ ((get_or xs k 0 == 41) ≡ true)) → list_any (λ b. b == 41) xs ≡ false
no_bracket [] none = refl
no_bracket (x ∷ xs) none =
    let head : (x == 41) ≡ false = false_from_ne_true (x == 41) (none 0 (omega arith)) in
    ap (λ t. t || list_any (λ b. b == 41) xs) head ∙ no_bracket xs (λ k low. none (suc k) (omega (arith, low)))

pub none_behind_bracket : (xs : List ℕ) (i : ℕ) → NoneAfter (Passes (is_byte 41) xs) 0 (length xs) i → list_any (λ b. b == 41) (drop (i + 1) xs) ≡ false
none_behind_bracket xs i last = no_bracket (drop (i + 1) xs) (λ k low is. last.after (i + 1 + k) (omega arith) (omega (arith, subst (λ n. k < n) (length-drop (i + 1) xs) low)) (sym (ap (λ b. b == 41) (get_or-drop (i + 1) xs k 0)) ∙ is))
