-- Two lists that are compared item by item.
use Rattle.std.proofs.Common.{◌≡◌, ◌∙◌, ◌+◌, ◌<◌, ℕ, List, ap, arith, get_or, length, sym, take}
use Rattle.std.proofs.lemmas.List.{take_all, take_more_same}

pub one_more : {X : Type 0} (xs ys : List X) (i : ℕ) (x y : X) → i < length xs → i < length ys → x ≡ get_or xs i x → y ≡ get_or ys i y → x ≡ y → take i xs ≡ take i ys → take (i + 1) xs ≡ take (i + 1) ys
one_more xs ys i x y in_xs in_ys is_x is_y same front = take_more_same xs ys i x in_xs in_ys front (sym is_x ∙ same ∙ is_y ∙ ap (get_or ys i) (sym same))

pub whole : {X : Type 0} (xs ys : List X) → length xs ≡ length ys → take (length xs) xs ≡ take (length xs) ys → xs ≡ ys
whole xs ys same front = sym (take_all (length xs) xs (omega arith)) ∙ front ∙ take_all (length xs) ys (omega arith)
