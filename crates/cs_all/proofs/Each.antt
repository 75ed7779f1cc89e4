use Rattle.std.proofs.Common.{◌≡◌, List, [], ◌∷◌, map, Ok, Err, Result, Vec, Global, subst, sym}
use Rattle.std.specs.Borrow.{Bor}
use Rattle.std.specs.Prelude.{Contains, IfOk, MatchResult}
use Rattle.std.specs.List.{AllZip}
use Rattle.std.specs.declared.alloc.AllocError.{AllocError}
use Rattle.rayon.proofs.ToStd.{slice-AllZip}
use Rattle.cs_all.specs.Answer.{IsTold}
use Rattle.cs_all.specs.declared.reading.Read.{Read}
use Rattle.cs_all.specs.declared.told.Told.{Told}

abbrev pub IsAnswer : (Read → Told → Type 0) → Bor Read → Result Told AllocError → Type 0
IsAnswer R read answer = IfOk answer (λ told. R read.now told)

answered : (R : Read → Told → Type 0) (reads : List (Bor Read)) (all : List Told) → AllZip (IsAnswer R) reads (map Ok all)
    → AllZip (λ (read : Bor Read) told. R read.now told) reads all
answered R [] [] h = h
answered R [] (told ∷ all) h = absurd h
answered R (read ∷ reads) [] h = absurd h
answered R (read ∷ reads) (told ∷ all) h = (h.0, answered R reads all h.1)

-- what a closure answers on each item of a slice, where none of its answers is an error
pub of_slice : (R : Read → Told → Type 0) (reads : List (Bor Read)) (s : List Read) (answers : List (Result Told AllocError)) (r : Result (Vec Told Global) AllocError)
    → map (λ (read : Bor Read). read.now) reads ≡ s → AllZip (IsAnswer R) reads answers
    → MatchResult r (λ v. (all : List Told) × (answers ≡ map Ok all) × (v.items ≡ all)) (λ e. Contains answers (Err e))
    → IfOk r (λ v. AllZip R s v.items)
of_slice R reads s answers (Err e) same zip h = tt
of_slice R reads s answers (Ok v) same zip h =
    let all = h.0 in
    let each = answered R reads all (subst (λ (xs : List (Result Told AllocError)). AllZip (IsAnswer R) reads xs) h.1 zip) in
    subst (λ (xs : List Told). AllZip R s xs) (sym h.2) (slice-AllZip reads s same R all each)

pub contents_told : (reads : List Read) (all : List Told) → AllZip (λ (read : Read) (told : Told). IsTold read.content told.status) reads all
    → AllZip IsTold (map (λ (read : Read). read.content) reads) (map (λ (told : Told). told.status) all)
contents_told [] [] h = h
contents_told [] (told ∷ all) h = absurd h
contents_told (read ∷ reads) [] h = absurd h
contents_told (read ∷ reads) (told ∷ all) h = (h.0, contents_told reads all h.1)
