use Rattle.std.proofs.Common.{◌≡◌, ℕ, zero, suc, ◌+◌, ◌++◌, List, [], ◌∷◌, map, length, Some, Ok, Err, Result, Vec, Global, refl, sym, ap, ◌∙◌, subst, arith}
use Rattle.std.specs.Prelude.{slice_get, IfOk, MatchResult, Contains}
use Rattle.std.specs.List.{AllZip, range_with_len}
use Rattle.std.specs.declared.alloc.AllocError.{AllocError}
use Rattle.std.proofs.lemmas.Option.{slice_get_within}
use Rattle.cs_plan.specs.Plan.{Declared}
use Rattle.cs_classes.specs.Claim.{Claimed}
use Rattle.cs_check.specs.ClassDays.{AreClassDays, IsClassDay}
use Rattle.cs_check.specs.declared.class_day.ClassDay.{ClassDay}
use Rattle.cs_classes.proofs.Collected.{of_answers}

pub each_push : {X : Type 0} (P : ℕ → X → Type 0) (xs : List X) (x : X) → ((n : ℕ) (y : X) → slice_get xs n ≡ Some y → P n y) → P (length xs) x → (n : ℕ) (y : X) → slice_get (xs ++ x ∷ []) n ≡ Some y → P n y
each_push P [] x h p zero y e = subst (P 0) (cc) p
each_push P [] x h p (suc n) y e = absurd (cc)
each_push P (z ∷ xs) x h p zero y e = h zero y e
each_push P (z ∷ xs) x h p (suc n) y e = each_push (λ k. P (suc k)) xs x (λ k. h (suc k)) p n y e

as_long : {X : Type 0} (P : ℕ → X → Type 0) (a n : ℕ) (ys : List X) → AllZip P (range_with_len a n) ys → length ys ≡ n
as_long P a zero [] h = refl
as_long P a zero (y ∷ ys) h = absurd h
as_long P a (suc n) [] h = absurd h
as_long P a (suc n) (y ∷ ys) h = let e = as_long P (a + 1) n ys h.1 in omega (arith, e)

at_number : {X : Type 0} (P : ℕ → X → Type 0) (a n : ℕ) (ys : List X) → AllZip P (range_with_len a n) ys → (i : ℕ) (y : X) → slice_get ys i ≡ Some y → P (a + i) y
at_number P a zero [] h i y e = absurd (omega (arith, slice_get_within [] i y e))
at_number P a zero (z ∷ ys) h i y e = absurd h
at_number P a (suc n) [] h i y e = absurd h
at_number P a (suc n) (z ∷ ys) h zero y e = let same : a ≡ a + 0 = omega arith in subst (λ (k : ℕ). P k y) same (subst (P a) (cc) h.0)
at_number P a (suc n) (z ∷ ys) h (suc i) y e = let same : (a + 1) + i ≡ a + suc i = omega arith in subst (λ (k : ℕ). P k y) same (at_number P (a + 1) n ys h.1 i y e)

pub days_of_numbers : (d : Declared) (c : Claimed) (n : ℕ) (numbers : List ℕ) (answers : List (Result ClassDay AllocError)) (r : Result (Vec ClassDay Global) AllocError) → n ≡ length c.classes → numbers ≡ range_with_len 0 n
    → AllZip (λ number (answer : Result ClassDay AllocError). IfOk answer (IsClassDay d c number)) numbers answers
    → MatchResult r (λ v. (ys : List ClassDay) × (answers ≡ map Ok ys) × (v.items ≡ ys)) (λ e. Contains answers (Err e))
    → IfOk r (λ days. AreClassDays d c days.items)
days_of_numbers d c n numbers answers (Err e) long all zip h = tt
days_of_numbers d c n numbers answers (Ok v) long all zip h =
    let ys = h.0 in
    let zip = of_answers (IsClassDay d c) (range_with_len 0 n) ys (subst (λ (xs : List (Result ClassDay AllocError)). AllZip (λ number (answer : Result ClassDay AllocError). IfOk answer (IsClassDay d c number)) (range_with_len 0 n) xs) h.1 (subst (λ (ns : List ℕ). AllZip (λ number (answer : Result ClassDay AllocError). IfOk answer (IsClassDay d c number)) ns answers) all zip)) in
    record {
      long = ap length h.2 ∙ (as_long (IsClassDay d c) 0 n ys zip ∙ long);
      each = λ i day e. let same : 0 + i ≡ i = omega arith in subst (λ (k : ℕ). IsClassDay d c k day) same (at_number (IsClassDay d c) 0 n ys zip i day (ap (λ (xs : List ClassDay). slice_get xs i) (sym h.2) ∙ e));
    }
