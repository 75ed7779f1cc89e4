-- Paths and their parts.
use Rattle.std.proofs.Common.{◌≡◌, ◌⊎◌, ◌<◌, ◌≤◌, ◌-◌, ◌==◌, ◌∙◌, ℕ, Bool, false, List, [], ◌∷◌, ◌++◌, ap, append_assoc, arith, drop, eqb-true, get_or, inl, inr, length, subst, sym, take}
use Rattle.std.specs.List.{AllZip, after_first, before_first, list_any, position_or_len}
use Rattle.std.proofs.lemmas.Grind.{common_steps}
use Rattle.std.proofs.lemmas.List.Folds.{list_any_none}
use Rattle.std.proofs.lemmas.List.Sums.{fails_before_first, passes_at_first, split_at_first}

-- the parts before and after the first slash
parts : (part : List ℕ) → position_or_len (λ b. b == 47) part < length part → part ≡ before_first (λ b. b == 47) part ++ (47 ∷ after_first (λ b. b == 47) part)
parts part within =
    let p : ℕ → Bool = λ b. b == 47 in
    let i = position_or_len p part in
    let is : get_or part i 47 ≡ 47 = eqb-true (get_or part i 47) 47 (passes_at_first p part 47 within) in
    split_at_first p part 47 within ∙ ap (λ (x : ℕ). before_first p part ++ (x ∷ after_first p part)) is

-- what follows a slash of a part follows a slash of the whole
pub behind : (path part rest : List ℕ) → position_or_len (λ b. b == 47) part < length part → rest ≡ after_first (λ b. b == 47) part
    → (path ≡ part) ⊎ ((before : List ℕ) × (path ≡ before ++ (47 ∷ part))) → (path ≡ rest) ⊎ ((before : List ℕ) × (path ≡ before ++ (47 ∷ rest)))
behind path part rest within is so_far = elim so_far [
  | inl same ↦ inr (front, same ∙ whole)
  | inr (before, cut) ↦ inr (before ++ (47 ∷ front), cut ∙ ap (λ (x : List ℕ). before ++ (47 ∷ x)) whole ∙ sym (append_assoc before (47 ∷ front) (47 ∷ rest)))
]
  where
    front : List ℕ
    front = before_first (λ b. b == 47) part

    whole : part ≡ before_first (λ b. b == 47) part ++ (47 ∷ rest)
    whole = parts part within ∙ ap (λ (x : List ℕ). before_first (λ b. b == 47) part ++ (47 ∷ x)) (sym is)

-- no slash is left
pub none_left : (part : List ℕ) → position_or_len (λ b. b == 47) part ≡ length part → list_any (λ b. b == 47) part ≡ false
none_left part all =
    let p : ℕ → Bool = λ b. b == 47 in
    list_any_none p part (λ k d within. fails_before_first p part k d (subst (λ (n : ℕ). k < n) (sym all) within))

pub one_more : {A B : Type 0} (R : A → B → Type 0) (xs : List A) (ys : List B) (x : A) (y : B) → AllZip R xs ys → R x y → AllZip R (xs ++ x ∷ []) (ys ++ y ∷ [])
one_more R [] [] x y h r = (r, tt)
one_more R [] (b ∷ bs) x y h r = absurd h
one_more R (a ∷ xs) [] x y h r = absurd h
one_more R (a ∷ xs) (b ∷ ys) x y (one, rest) r = (one, one_more R xs ys x y rest r)

pub cut_first : {X : Type 0} (xs : List X) (x : X) → 1 ≤ length xs → x ≡ get_or xs 0 x → xs ≡ x ∷ take (length xs - 1) (drop 1 xs)
cut_first [] x some is = absurd (omega (arith, some))
cut_first (y ∷ ys) x some is = grind (arith, common_steps)
