-- Numbers that come a second time, and sets of numbers.
use Rattle.std.proofs.Common.{◌≡◌, ℕ, ◌+◌, ◌<◌, List, [], ◌∷◌, ◌++◌, Bool, true, false, ◌||◌, cond, drop, take, length, get_or, Some, None, Option, refl, sym, ◌∙◌, ℤ, append_assoc}
use Rattle.std.specs.Ordering.{int_eq}
use Rattle.std.specs.List.{list_any}
use Rattle.indexmap.specs.IndexSet.{insert_key}
use Rattle.std.proofs.lemmas.Bool.Decides.{Decides-int_eq}
use Rattle.std.proofs.lemmas.List.{drop_more, take_more}
use Rattle.cs_decl.specs.Faults.{same_number, first_again}
use Rattle.cs_decl.proofs.Texts.{any_push, if_true, if_false}

none_like : (xs : List (Option ℤ)) → list_any (same_number None) xs ≡ false
none_like [] = refl
none_like (x ∷ xs) = none_like xs

or_false : (b : Bool) → (b || false) ≡ b
or_false true = refl
or_false false = refl

any_insert : (n : ℤ) (ks : List ℤ) (v : ℤ) → list_any (int_eq n) (insert_key int_eq ks v) ≡ (list_any (int_eq n) ks || int_eq n v)
any_insert n ks v = by_cases (list_any (int_eq v) ks) refl
  where
    here : (b : Bool) → int_eq n v ≡ b → list_any (int_eq v) ks ≡ true → list_any (int_eq n) ks ≡ (list_any (int_eq n) ks || b)
    here true same found = let e : n ≡ v = (Decides-int_eq n v).0 same in rw (e, found) refl
    here false other found = sym (or_false _)

    by_cases : (b : Bool) → list_any (int_eq v) ks ≡ b → list_any (int_eq n) (cond b ks (ks ++ v ∷ [])) ≡ (list_any (int_eq n) ks || int_eq n v)
    by_cases true found = here (int_eq n v) refl found
    by_cases false missing = any_push (int_eq n) ks v

-- The set has exactly the numbers that are there.
abbrev pub HasNumbers : List ℤ → List (Option ℤ) → Type 0
HasNumbers keys numbers = (n : ℤ) → list_any (int_eq n) keys ≡ list_any (same_number (Some n)) numbers

pub with_number : (keys : List ℤ) (numbers : List (Option ℤ)) (m : ℤ) → HasNumbers keys numbers → HasNumbers (insert_key int_eq keys m) (numbers ++ Some m ∷ [])
with_number keys numbers m has = λ n. any_insert n keys m ∙ (rw (has n) refl ∙ sym (any_push (same_number (Some n)) numbers (Some m)))

pub with_none : (keys : List ℤ) (numbers : List (Option ℤ)) → HasNumbers keys numbers → HasNumbers keys (numbers ++ None ∷ [])
with_none keys numbers has = λ n. has n ∙ sym (any_push (same_number (Some n)) numbers None ∙ or_false _)

-- what is found twice after `before` and the first i is found twice in all
abbrev pub Comes : List (Option ℤ) → List (Option ℤ) → ℕ → Option ℕ → Type 0
Comes before numbers i total = first_again same_number (before ++ take i numbers) i (drop i numbers) ≡ total

pub one_more : (before numbers : List (Option ℤ)) (i : ℕ) (x : Option ℤ) → i < length numbers → x ≡ get_or numbers i x → (before ++ take i numbers) ++ x ∷ [] ≡ before ++ take (i + 1) numbers
one_more before numbers i x within is = rw (take_more numbers i x within, ← is) (append_assoc before (take i numbers) (x ∷ []))

at_number : (before numbers : List (Option ℤ)) (i : ℕ) (x : Option ℤ) → i < length numbers → x ≡ get_or numbers i x
    → first_again same_number (before ++ take i numbers) i (drop i numbers)
    ≡ cond (list_any (same_number x) (before ++ take i numbers)) (Some i) (first_again same_number (before ++ take (i + 1) numbers) (i + 1) (drop (i + 1) numbers))
at_number before numbers i x within is = rw (drop_more numbers i x within, ← is, ← one_more before numbers i x within is) refl

pub found_at : (before numbers : List (Option ℤ)) (i : ℕ) (x : Option ℤ) (total : Option ℕ) → i < length numbers → x ≡ get_or numbers i x → list_any (same_number x) (before ++ take i numbers) ≡ true → Comes before numbers i total → Some i ≡ total
found_at before numbers i x total within is found h = sym (at_number before numbers i x within is ∙ if_true _ _ _ found) ∙ h

pub goes_on : (before numbers : List (Option ℤ)) (i : ℕ) (x : Option ℤ) (total : Option ℕ) → i < length numbers → x ≡ get_or numbers i x → list_any (same_number x) (before ++ take i numbers) ≡ false → Comes before numbers i total → Comes before numbers (i + 1) total
goes_on before numbers i x total within is new h = sym (at_number before numbers i x within is ∙ if_false _ _ _ new) ∙ h

pub passes_none : (before numbers : List (Option ℤ)) (i : ℕ) (total : Option ℕ) → i < length numbers → None ≡ get_or numbers i None → Comes before numbers i total → Comes before numbers (i + 1) total
passes_none before numbers i total within is h = goes_on before numbers i None total within is (none_like (before ++ take i numbers)) h
