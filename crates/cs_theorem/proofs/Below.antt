use Rattle.std.proofs.Common.{ℕ, zero, suc, ◌+◌, ◌<◌, ◌≡◌, List, [], ◌∷◌, ◌++◌, map, length, Some, refl, sym, ap, ◌∙◌, arith}
use Rattle.std.specs.Prelude.{slice_get, option_map}
use Rattle.std.specs.List.{range_with_len}
use Rattle.std.proofs.lemmas.List.{length-map}
use Rattle.std.proofs.lemmas.List.FromFn.{length-range_with_len, get_or-range_with_len}
use Rattle.std.proofs.lemmas.Option.{slice_get-map, slice_get_within, slice_get-get_or}
use Rattle.cs_history.specs.Lists.{below}

range_more : (a n : ℕ) → range_with_len a (suc n) ≡ range_with_len a n ++ (a + n) ∷ []
range_more a zero = let e : a ≡ a + 0 = omega arith in ap (λ (x : ℕ). x ∷ []) e
range_more a (suc n) = let e : (a + 1) + n ≡ a + suc n = omega arith in ap (λ (l : List ℕ). a ∷ l) (range_more (a + 1) n) ∙ ap (λ (x : ℕ). a ∷ (range_with_len (a + 1) n ++ x ∷ [])) e

pub below_range : (n : ℕ) → below n ≡ range_with_len 0 n
below_range zero = refl
below_range (suc n) = let e : 0 + n ≡ n = omega arith in ap (λ (l : List ℕ). l ++ n ∷ []) (below_range n) ∙ (ap (λ (k : ℕ). range_with_len 0 n ++ k ∷ []) (sym e) ∙ sym (range_more 0 n))

below_long : (n : ℕ) → length (below n) ≡ n
below_long n = ap length (below_range n) ∙ length-range_with_len 0 n

below_at : (n j : ℕ) → j < n → slice_get (below n) j ≡ Some j
below_at n j lt =
    let e : 0 + j ≡ j = omega arith in
    ap (λ (l : List ℕ). slice_get l j) (below_range n) ∙ (slice_get-get_or (range_with_len 0 n) j 0 (omega (arith, lt, length-range_with_len 0 n)) ∙ ap Some (get_or-range_with_len 0 n j 0 lt ∙ e))

pub job_at : {X : Type 0} (f : ℕ → X) (n j : ℕ) → j < n → slice_get (map f (below n)) j ≡ Some (f j)
job_at f n j lt = slice_get-map f (below n) j ∙ ap (option_map f) (below_at n j lt)

some_is : {X : Type 0} (x y : X) → Some x ≡ Some y → x ≡ y
some_is x y e = cc

pub at_job : {X : Type 0} (f : ℕ → X) (n j : ℕ) (o : X) → slice_get (map f (below n)) j ≡ Some o → (j < n) × (f j ≡ o)
at_job f n j o e =
    let lt : j < n = omega (arith, slice_get_within (map f (below n)) j o e, length-map (below n) f, below_long n) in
    (lt, some_is (f j) o (sym (job_at f n j lt) ∙ e))
