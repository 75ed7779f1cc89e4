-- Names that come a second time, and sets of names.
use Rattle.std.proofs.Common.{◌≡◌, ℕ, ◌+◌, ◌<◌, List, [], ◌∷◌, ◌++◌, Bool, true, false, not, ◌||◌, cond, map, drop, take, length, get_or, Some, None, Option, refl, ap, sym, ◌∙◌, Bor, bytes_eq}
use Rattle.std.specs.Prelude.{position}
use Rattle.indexmap.specs.IndexSet.{insert_key}
use Rattle.std.specs.List.{list_any, prefix_len}
use Rattle.std.proofs.lemmas.List.{drop_more, take_more}
use Rattle.std.proofs.lemmas.Slice.Eq.{bytes_eq-Decides}
use Rattle.cs_decl.specs.declared.entries.GroupEntry.{GroupEntry}
use Rattle.cs_decl.specs.Faults.{first_again, is_unlisted}
use Rattle.cs_decl.specs.NameSet.{is_unnamed}

any_map : {A B : Type 0} (f : A → B) (p : B → Bool) (xs : List A) → list_any p (map f xs) ≡ list_any (λ x. p (f x)) xs
any_map f p [] = refl
any_map f p (x ∷ xs) = rw (any_map f p xs) refl

now_push : (seen : List (Bor (List ℕ))) (r : Bor (List ℕ)) → map (λ k. k.now) (seen ++ r ∷ []) ≡ map (λ k. k.now) seen ++ r.now ∷ []
now_push [] r = refl
now_push (k ∷ seen) r = ap (λ xs. k.now ∷ xs) (now_push seen r)

pub if_true : {A : Type 0} (b : Bool) (x y : A) → b ≡ true → cond b x y ≡ x
if_true true x y e = refl
if_true false x y e = cc

pub if_false : {A : Type 0} (b : Bool) (x y : A) → b ≡ false → cond b x y ≡ y
if_false true x y e = cc
if_false false x y e = refl

again_at : {X : Type 0} (f : X → List ℕ) (seen : List (Bor (List ℕ))) (i : ℕ) (xs : List X) (x : X) (r : Bor (List ℕ)) → i < length xs → x ≡ get_or xs i x → r.now ≡ f x
    → first_again bytes_eq (map (λ k. k.now) seen) i (map f (drop i xs))
    ≡ cond (list_any (λ k. bytes_eq r.now k.now) seen) (Some i) (first_again bytes_eq (map (λ k. k.now) (seen ++ r ∷ [])) (i + 1) (map f (drop (i + 1) xs)))
again_at f seen i xs x r within is named = rw (drop_more xs i x within, ← is, ← named, any_map {A = Bor (List ℕ)} (λ k. k.now), now_push) refl

pub twice_found : {X : Type 0} (f : X → List ℕ) (seen : List (Bor (List ℕ))) (i : ℕ) (xs : List X) (x : X) (r : Bor (List ℕ)) (total : Option ℕ) → i < length xs → x ≡ get_or xs i x → r.now ≡ f x
    → list_any (λ k. bytes_eq r.now k.now) seen ≡ true → first_again bytes_eq (map (λ k. k.now) seen) i (map f (drop i xs)) ≡ total → Some i ≡ total
twice_found f seen i xs x r total within is named found h = sym (again_at f seen i xs x r within is named ∙ if_true _ _ _ found) ∙ h

pub twice_later : {X : Type 0} (f : X → List ℕ) (seen : List (Bor (List ℕ))) (i : ℕ) (xs : List X) (x : X) (r : Bor (List ℕ)) (total : Option ℕ) → i < length xs → x ≡ get_or xs i x → r.now ≡ f x
    → list_any (λ k. bytes_eq r.now k.now) seen ≡ false → first_again bytes_eq (map (λ k. k.now) seen) i (map f (drop i xs)) ≡ total
    → first_again bytes_eq (map (λ k. k.now) (seen ++ r ∷ [])) (i + 1) (map f (drop (i + 1) xs)) ≡ total
twice_later f seen i xs x r total within is named other h = sym (again_at f seen i xs x r within is named ∙ if_false _ _ _ other) ∙ h

pub not_true : (a b : Bool) → a ≡ not b → a ≡ true → b ≡ false
not_true a true e t = cc
not_true a false e t = refl

pub not_false : (a b : Bool) → a ≡ not b → a ≡ false → b ≡ true
not_false a true e t = refl
not_false a false e t = cc

pub any_push : {X : Type 0} (p : X → Bool) (xs : List X) (y : X) → list_any p (xs ++ y ∷ []) ≡ (list_any p xs || p y)
any_push p [] y = or_false (p y)
  where
    or_false : (b : Bool) → (b || false) ≡ b
    or_false true = refl
    or_false false = refl
any_push p (x ∷ xs) y = rw (any_push p xs y) (or_assoc (p x) (list_any p xs) (p y))
  where
    or_assoc : (a b c : Bool) → (a || (b || c)) ≡ ((a || b) || c)
    or_assoc true b c = refl
    or_assoc false b c = refl

pub any_insert : (name : List ℕ) (ks : List (Bor (List ℕ))) (v : Bor (List ℕ)) → list_any (λ k. bytes_eq name k.now) (insert_key (λ x y. bytes_eq x.now y.now) ks v) ≡ (list_any (λ k. bytes_eq name k.now) ks || bytes_eq name v.now)
any_insert name ks v = by_cases (list_any (λ k. bytes_eq v.now k.now) ks) refl
  where
    here : (b : Bool) → bytes_eq name v.now ≡ b → list_any (λ k. bytes_eq v.now k.now) ks ≡ true → list_any (λ k. bytes_eq name k.now) ks ≡ (list_any (λ k. bytes_eq name k.now) ks || b)
    here true same found = let e : name ≡ v.now = (bytes_eq-Decides name v.now).0 same in rw (e, found) refl
    here false other found = sym (or_false _)
      where
        or_false : (b : Bool) → (b || false) ≡ b
        or_false true = refl
        or_false false = refl

    by_cases : (b : Bool) → list_any (λ k. bytes_eq v.now k.now) ks ≡ b → list_any (λ k. bytes_eq name k.now) (cond b ks (ks ++ v ∷ [])) ≡ (list_any (λ k. bytes_eq name k.now) ks || bytes_eq name v.now)
    by_cases true found = here (bytes_eq name v.now) refl found
    by_cases false missing = any_push (λ k. bytes_eq name k.now) ks v

pub any_more : {X : Type 0} (f : X → List ℕ) (name : List ℕ) (xs : List X) (i : ℕ) (x : X) → i < length xs → x ≡ get_or xs i x
    → list_any (λ y. bytes_eq name (f y)) (take (i + 1) xs) ≡ (list_any (λ y. bytes_eq name (f y)) (take i xs) || bytes_eq name (f x))
any_more f name xs i x within is = rw (take_more xs i x within, ← is) (any_push (λ y. bytes_eq name (f y)) (take i xs) x)

prefix_same : {X : Type 0} (p q : X → Bool) → ((x : X) → p x ≡ q x) → (xs : List X) → prefix_len p xs ≡ prefix_len q xs
prefix_same p q same [] = refl
prefix_same p q same (x ∷ xs) = rw (same x, prefix_same p q same xs) refl

pub position_same : {X : Type 0} (p q : X → Bool) → ((x : X) → p x ≡ q x) → (xs : List X) → position p xs ≡ position q xs
position_same p q same xs = rw (prefix_same (λ x. not (p x)) (λ x. not (q x)) (λ x. ap not (same x)) xs) refl

pub unnamed_same : (names : List (Bor (List ℕ))) (groups : List GroupEntry) → ((name : List ℕ) → list_any (λ k. bytes_eq name k.now) names ≡ list_any (λ g. bytes_eq name g.name) groups) → (group : Option (List ℕ)) → is_unnamed names group ≡ is_unlisted groups group
unnamed_same names groups same None = refl
unnamed_same names groups same (Some name) = ap not (same name)
