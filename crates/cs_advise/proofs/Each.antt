use Rattle.std.proofs.Common.{◌≡◌, ℕ, zero, suc, ◌+◌, List, [], ◌∷◌, map, Ok, Err, Result, Vec, Global, refl, subst, sym}
use Rattle.std.specs.Prelude.{All, Contains, IfOk, MatchResult}
use Rattle.std.specs.List.{AllZip, range_with_len}
use Rattle.std.specs.declared.alloc.AllocError.{AllocError}
use Rattle.std.proofs.lemmas.List.Elements.{All-cons, All-nil}
use Rattle.cs_advise.specs.declared.room.Room.{Room}

abbrev pub IsAnswer : (Room → Type 0) → ℕ → Result Room AllocError → Type 0
IsAnswer P number answer = IfOk answer (λ room. (room.job ≡ number) × P room)

abbrev pub numbers_of : List Room → List ℕ
numbers_of rooms = map (λ (room : Room). room.job) rooms

in_order : (P : Room → Type 0) (a n : ℕ) (rooms : List Room) → AllZip (IsAnswer P) (range_with_len a n) (map Ok rooms)
    → (numbers_of rooms ≡ range_with_len a n) × All P rooms
in_order P a zero [] h = (refl, All-nil P)
in_order P a zero (room ∷ rooms) h = absurd h
in_order P a (suc n) [] h = absurd h
in_order P a (suc n) (room ∷ rooms) h =
    let rest = in_order P (a + 1) n rooms h.1 in
    (rw (h.0.0, rest.0) refl, All-cons P room rooms h.0.1 rest.1)

pub of_numbers : (P : Room → Type 0) (n : ℕ) (numbers : List ℕ) (answers : List (Result Room AllocError)) (r : Result (Vec Room Global) AllocError) → numbers ≡ range_with_len 0 n
    → AllZip (IsAnswer P) numbers answers
    → MatchResult r (λ v. (ys : List Room) × (answers ≡ map Ok ys) × (v.items ≡ ys)) (λ e. Contains answers (Err e))
    → IfOk r (λ rooms. (numbers_of rooms.items ≡ range_with_len 0 n) × All P rooms.items)
of_numbers P n numbers answers (Err e) all zip h = tt
of_numbers P n numbers answers (Ok v) all zip h =
    let rooms = h.0 in
    let answered = subst (λ (xs : List (Result Room AllocError)). AllZip (IsAnswer P) (range_with_len 0 n) xs) h.1 (subst (λ (ns : List ℕ). AllZip (IsAnswer P) ns answers) all zip) in
    subst (λ (xs : List Room). (numbers_of xs ≡ range_with_len 0 n) × All P xs) (sym h.2) (in_order P 0 n rooms answered)
