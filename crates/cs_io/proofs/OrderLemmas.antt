-- Names in order.
use Rattle.std.proofs.Common.{◌<◌, ◌+◌, List, [], ◌∷◌, length, map, arith}
use Rattle.std.specs.List.Sorted.{IsSorted, IsSortedByKey}
use Rattle.std.specs.declared.cmp.Ordering.{Ordering}
use Rattle.std.proofs.lemmas.List.{get_or-map, length-map}

-- what is in order by a key has its keys in order
pub keys_in_order : {X K : Type 0} (key : X → K) (cmp : K → K → Ordering) (xs : List X) → IsSortedByKey key cmp xs → IsSorted cmp (map key xs)
keys_in_order key cmp [] up k d low below = absurd (omega arith)
keys_in_order key cmp (x ∷ xs) up k d low below =
    let inside : k + 1 < length (x ∷ xs) = omega (arith, below, length-map (x ∷ xs) key) in
    let here : k < length (x ∷ xs) = omega (arith, inside) in
    rw (get_or-map key (x ∷ xs) (k + 1) x d inside, get_or-map key (x ∷ xs) k x d here) (up k x low inside)
