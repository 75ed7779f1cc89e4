use Rattle.std.proofs.Common.{List, [], ◌∷◌, Ok, Result, map}
use Rattle.std.specs.Prelude.{IfOk}
use Rattle.std.specs.List.{AllZip}
use Rattle.std.specs.declared.alloc.AllocError.{AllocError}

pub of_answers : {X Y : Type 0} (P : X → Y → Type 0) (xs : List X) (ys : List Y) → AllZip (λ x (r : Result Y AllocError). IfOk r (P x)) xs (map Ok ys) → AllZip P xs ys
of_answers P [] [] h = h
of_answers P [] (y ∷ ys) h = absurd h
of_answers P (x ∷ xs) [] h = absurd h
of_answers P (x ∷ xs) (y ∷ ys) h = (h.0, of_answers P xs ys h.1)
