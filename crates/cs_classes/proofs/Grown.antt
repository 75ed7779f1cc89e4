use Rattle.std.proofs.Common.{ℕ, zero, suc, ◌+◌, ◌-◌, ◌<◌, ◌≤◌, ◌≡◌, List, [], ◌∷◌, ◌++◌, map, length, get_or, drop, drop-cons, refl, sym, ap, ◌∙◌, arith, append_assoc, append-nil}
use Rattle.std.specs.Prelude.{flat_map}
use Rattle.std.proofs.lemmas.List.{map-append, drop_all}
use Rattle.cs_civil.specs.Calendar.{Kind, kinds_after}
use Rattle.cs_theorem.specs.Faults.{chains_from}

pub grown : {X Y Z : Type 0} (g : Y → Z) (f : X → List Y) (a b c : List Z) (x : X) (xs : List X) → b ≡ a ++ map g (f x) → a ++ map g (flat_map f (x ∷ xs)) ≡ c → b ++ map g (flat_map f xs) ≡ c
grown {X} {Y} {Z} g f a b c x xs e h =
    ap (λ (l : List Z). l ++ map g (flat_map f xs)) e ∙ append_assoc a (map g (f x)) (map g (flat_map f xs))
    ∙ ap (λ (l : List Z). a ++ l) (sym (map-append g (f x) (flat_map f xs))) ∙ h

joined : {A : Type 0} (b : List A) (k : A) (ls : List (List A)) → map (λ ks. (b ++ k ∷ []) ++ ks) ls ≡ map (λ ks. b ++ ks) (map (λ ks. k ∷ ks) ls)
joined b k [] = refl
joined {A} b k (l ∷ ls) = ap (λ (z : List A). z ∷ map (λ ks. (b ++ k ∷ []) ++ ks) ls) (append_assoc b (k ∷ []) l) ∙ ap (λ (zs : List (List A)). (b ++ k ∷ l) ∷ zs) (joined b k ls)

-- the chains of a kind and one more day at least
pub followed : (b : List Kind) (k : Kind) (n : ℕ) → 0 < n → map (λ ks. (b ++ k ∷ []) ++ ks) (flat_map (chains_from (n - 1)) (kinds_after k)) ≡ map (λ ks. b ++ ks) (chains_from n k)
followed b k zero l = absurd (omega (arith, l))
followed b k (suc n) l =
    let e : suc n - 1 ≡ n = omega arith in
    ap (λ (m : ℕ). map (λ ks. (b ++ k ∷ []) ++ ks) (flat_map (chains_from m) (kinds_after k))) e ∙ joined b k (flat_map (chains_from n) (kinds_after k))

pub unchanged : {A : Type 0} (ls : List (List A)) → map (λ ks. [] ++ ks) ls ≡ ls
unchanged [] = refl
unchanged {A} (l ∷ ls) = ap (λ (zs : List (List A)). l ∷ zs) (unchanged ls)

pub opened : {A : Type 0} (xs : List A) (i : ℕ) (x : A) → i < length xs → x ≡ get_or xs i x → drop i xs ≡ x ∷ drop (i + 1) xs
opened {A} xs i x lt e = let s : suc i ≡ i + 1 = omega arith in drop-cons xs i x lt ∙ ap (λ (y : A). y ∷ drop (suc i) xs) (sym e) ∙ ap (λ (k : ℕ). x ∷ drop k xs) s

-- the loop over a list: what its next element makes is added
pub next_grown : {X Y Z : Type 0} (g : Y → Z) (f : X → List Y) (a b c : List Z) (xs : List X) (i : ℕ) (x : X) → i < length xs → x ≡ get_or xs i x → b ≡ a ++ map g (f x) → a ++ map g (flat_map f (drop i xs)) ≡ c → b ++ map g (flat_map f (drop (i + 1) xs)) ≡ c
next_grown {X} {Y} {Z} g f a b c xs i x lt is e h = grown g f a b c x (drop (i + 1) xs) e (ap (λ (l : List X). a ++ map g (flat_map f l)) (sym (opened xs i x lt is)) ∙ h)

pub all_grown : {X Y Z : Type 0} (g : Y → Z) (f : X → List Y) (a c : List Z) (xs : List X) (i : ℕ) → length xs ≤ i → a ++ map g (flat_map f (drop i xs)) ≡ c → a ≡ c
all_grown {X} {Y} {Z} g f a c xs i past h = sym (append-nil a) ∙ ap (λ (l : List X). a ++ map g (flat_map f l)) (sym (drop_all i xs past)) ∙ h
