use Rattle.std.proofs.Common.{ℕ, zero, suc, ◌+◌, ◌-◌, ◌<◌, ◌≡◌, Bool, true, false, cond, List, [], ◌∷◌, Option, Some, None, refl, sym, ap, ◌∙◌, arith, map, ◌++◌}
use Rattle.std.specs.Prelude.{find, unwrap_or}
use Rattle.std.specs.List.{range_with_len}
use Rattle.cs_theorem.specs.Faults.{last_of, same_list}
use Rattle.std.proofs.lemmas.List.{map-append}
use Rattle.cs_civil.specs.Calendar.{kind}
use Rattle.cs_classes.specs.Claim.{Claimed, as_certificate, class_of}
use Rattle.cs_classes.specs.Days.{classes_on}

-- whether the days of which this is the last have the classes
abbrev pub ends : Claimed → ℕ → List ℕ → ℕ → Bool
ends c n s last = same_list (classes_on c (last + 1 - n) n) s

unfoldable pub first_from : (ℕ → Bool) → ℕ → Option ℕ
first_from t n = find t (range_with_len n 10227)

pub first_is : (t : ℕ → Bool) (n k : ℕ) → k ≡ 10227 → find t (range_with_len n k) ≡ first_from t n
unfolding first_from
first_is t n k e = ap (λ (j : ℕ). find t (range_with_len n j)) e

pub last_is : (c : Claimed) (n : ℕ) (s : List ℕ) → last_of (as_certificate c) n s ≡ unwrap_or (first_from (ends c n s) n) n
unfolding last_of first_from
last_is c n s = refl

opened : (t : ℕ → Bool) (m k : ℕ) (b : Bool) → 0 < k → t m ≡ b → find t (range_with_len m k) ≡ cond b (Some m) (find t (range_with_len (m + 1) (k - 1)))
opened t m zero b l e = absurd (omega (arith, l))
opened t m (suc k) b l e =
    let s : k ≡ suc k - 1 = omega arith in
    ap (λ (c : Bool). cond c (Some m) (find t (range_with_len (m + 1) k))) e ∙ ap (λ (j : ℕ). cond b (Some m) (find t (range_with_len (m + 1) j))) s

pub passed : (t : ℕ → Bool) (m j k : ℕ) (r : Option ℕ) → 0 < j → j ≡ k + 1 → t m ≡ false → find t (range_with_len m j) ≡ r → find t (range_with_len (m + 1) k) ≡ r
passed t m j k r l s e h = let p : k ≡ j - 1 = omega (arith, s) in ap (λ (i : ℕ). find t (range_with_len (m + 1) i)) p ∙ sym (opened t m j false l e) ∙ h

pub found : (t : ℕ → Bool) (m j : ℕ) (r : Option ℕ) → 0 < j → t m ≡ true → find t (range_with_len m j) ≡ r → r ≡ Some m
found t m j r l e h = sym h ∙ opened t m j true l e

pub nowhere : (t : ℕ → Bool) (m j : ℕ) (r : Option ℕ) → j ≡ 0 → find t (range_with_len m j) ≡ r → r ≡ None
nowhere t m j r e h = sym h ∙ ap (λ (i : ℕ). find t (range_with_len m i)) e

range_more : (a n : ℕ) → range_with_len a n ++ (a + n) ∷ [] ≡ range_with_len a (n + 1)
range_more a zero = let e : a + 0 ≡ a = omega arith in let s : suc 0 ≡ 0 + 1 = omega arith in ap (λ (x : ℕ). x ∷ []) e ∙ ap (range_with_len a) s
range_more a (suc n) =
    let e : a + suc n ≡ (a + 1) + n = omega arith in
    let s : suc (n + 1) ≡ suc n + 1 = omega arith in
    ap (λ (x : ℕ). a ∷ (range_with_len (a + 1) n ++ x ∷ [])) e ∙ ap (λ (l : List ℕ). a ∷ l) (range_more (a + 1) n) ∙ ap (range_with_len a) s

pub classes_more : (c : Claimed) (first n class : ℕ) → class ≡ class_of c (kind (first + n)) → classes_on c first n ++ class ∷ [] ≡ classes_on c first (n + 1)
classes_more c first n class e =
    ap (λ (k : ℕ). classes_on c first n ++ k ∷ []) e
    ∙ sym (map-append (λ d. class_of c (kind d)) (range_with_len first n) ((first + n) ∷ [])) ∙ ap (map (λ d. class_of c (kind d))) (range_more first n)
