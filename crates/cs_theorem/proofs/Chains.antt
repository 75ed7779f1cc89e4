-- The list of chains has each chain of kinds, and nothing else.
use Rattle.std.proofs.Common.{ℕ, zero, suc, ◌+◌, ◌-◌, ◌≤◌, ◌≡◌, ◌==◌, true, List, [], ◌∷◌, map, length, Contains, refl, sym, ap, ◌∙◌, subst, arith, inl, inr}
use Rattle.std.specs.Prelude.{flat_map}
use Rattle.std.specs.List.{range_with_len}
use Rattle.std.proofs.lemmas.Bool.{and_parts, and_from, eqb-true, eq-eqb}
use Rattle.std.proofs.lemmas.List.Elements.{All-contains}
use Rattle.cs_civil.specs.Calendar.{Kind, IsKind, longest, kinds_after, ComesWithin}
use Rattle.cs_civil.specs.Order.{kinds_of_day, kinds_of_month, all_kinds}
use Rattle.cs_civil.proofs.Following.{kind_possible}
use Rattle.cs_civil.proofs.Cycle.{next_come}
use Rattle.cs_theorem.specs.Certificate.{Certificate}
use Rattle.cs_theorem.specs.Accepted.{IsChain, IsUsed}
use Rattle.cs_theorem.specs.Faults.{same_list, chains_from, chains, is_used}
use Rattle.cs_windows.proofs.Members.{Has, has_flat, flat_has, has_range, range_has, has_contains, contains_has}
use Rattle.cs_theorem.proofs.Elements.{has_map, map_has, any_has}
use Rattle.cs_theorem.proofs.Says.{Tells, has_any}

pub kind_listed : (k : Kind) → IsKind k → Has all_kinds k
unfolding all_kinds kinds_of_month
kind_listed k h =
    has_flat kinds_of_month (range_with_len 1 12) k.month k (has_range 1 12 k.month h.month.0 (omega (arith, h.month.1)))
    (has_flat (kinds_of_day k.month) (range_with_len 1 (longest k.month)) k.dom k (has_range 1 (longest k.month) k.dom h.dom.0 (omega (arith, h.dom.1)))
    (has_map (λ (w : ℕ). let q : Kind = record { month = k.month; dom = k.dom; dow = w } in q) (range_with_len 0 7) k.dow (has_range 0 7 k.dow (omega arith) (omega (arith, h.dow)))))

pub listed_kind : (k : Kind) → Has all_kinds k → IsKind k
unfolding all_kinds kinds_of_month
listed_kind k h =
    let m = flat_has kinds_of_month (range_with_len 1 12) k h in
    let d = flat_has (kinds_of_day m.0) (range_with_len 1 (longest m.0)) k m.2 in
    let w = map_has (λ (w : ℕ). let q : Kind = record { month = m.0; dom = d.0; dow = w } in q) (range_with_len 0 7) k d.2 in
    let a = range_has 1 12 m.0 m.1 in
    let b = range_has 1 (longest m.0) d.0 d.1 in
    let c = range_has 0 7 w.0 w.1 in
    let is : IsKind (record { month = m.0; dom = d.0; dow = w.0 }) = record { month = (a.0, omega (arith, a.1)); dom = (b.0, omega (arith, b.1)); dow = omega (arith, c.1) } in
    subst IsKind w.2 is

pub next_kind : (k l : Kind) → IsKind k → Contains (kinds_after k) l → IsKind l
next_kind k l h c = let r = All-contains (ComesWithin 10_227 k) (kinds_after k) l (next_come k h) c in subst IsKind r.4 (kind_possible (r.0 + 1))

has_chain : (n : ℕ) (k : Kind) (ks : List Kind) → IsChain (k ∷ ks) → length ks ≡ n → Has (chains_from n k) (k ∷ ks)
has_chain zero k [] c e = inl refl
has_chain zero k (l ∷ ks) c e = absurd (omega (arith, e))
has_chain (suc n) k [] c e = absurd (omega (arith, e))
has_chain (suc n) k (l ∷ ks) c e =
    has_map (λ (q : List Kind). k ∷ q) (flat_map (chains_from n) (kinds_after k)) (l ∷ ks)
    (has_flat (chains_from n) (kinds_after k) l (l ∷ ks) (contains_has (kinds_after k) l c.1) (has_chain n l ks c.2 (omega (arith, e))))

record From (n : ℕ) (k : Kind) (ks : List Kind) : Type 0 where
  rest : List Kind
  is : ks ≡ k ∷ rest
  chain : IsChain (k ∷ rest)
  long : length rest ≡ n

chain_has : (n : ℕ) (k : Kind) (ks : List Kind) → IsKind k → Has (chains_from n k) ks → From n k ks
chain_has zero k ks h (inl e) = record { rest = []; is = sym e; chain = (h, tt, tt); long = refl }
chain_has zero k ks h (inr e) = absurd e
chain_has (suc n) k ks h m =
    let a = map_has (λ (q : List Kind). k ∷ q) (flat_map (chains_from n) (kinds_after k)) ks m in
    let b = flat_has (chains_from n) (kinds_after k) a.0 a.1 in
    let c = has_contains (kinds_after k) b.0 b.1 in
    let r = chain_has n b.0 a.0 (next_kind k b.0 h c) b.2 in
    record { rest = b.0 ∷ r.rest; is = sym a.2 ∙ ap (λ (q : List Kind). k ∷ q) r.is; chain = (h, c, r.chain); long = omega (arith, r.long) }

pub chain_listed : (n : ℕ) (ks : List Kind) → 1 ≤ n → IsChain ks → length ks ≡ n → Has (chains n) ks
unfolding chains
chain_listed n [] l c e = absurd (omega (arith, l, e))
chain_listed n (k ∷ ks) l c e = has_flat (chains_from (n - 1)) all_kinds k (k ∷ ks) (kind_listed k c.0) (has_chain (n - 1) k ks c (omega (arith, e)))

pub listed_chain : (n : ℕ) (ks : List Kind) → 1 ≤ n → Has (chains n) ks → IsChain ks × (length ks ≡ n)
unfolding chains
listed_chain n ks l h =
    let a = flat_has (chains_from (n - 1)) all_kinds ks h in
    let r = chain_has (n - 1) a.0 ks (listed_kind a.0 a.1) a.2 in
    let long : length (a.0 ∷ r.rest) ≡ n = omega (arith, r.long, l) in
    (subst IsChain (sym r.is) r.chain, ap length r.is ∙ long)

pub same_list_is : (xs ys : List ℕ) → same_list xs ys ≡ true → xs ≡ ys
same_list_is [] [] e = refl
same_list_is [] (y ∷ ys) e = absurd (cc)
same_list_is (x ∷ xs) [] e = absurd (cc)
same_list_is (x ∷ xs) (y ∷ ys) e = let h = and_parts (x == y) (same_list xs ys) e in ap (λ (z : ℕ). z ∷ xs) (eqb-true x y h.0) ∙ ap (λ (zs : List ℕ). y ∷ zs) (same_list_is xs ys h.1)

same_itself : (xs : List ℕ) → same_list xs xs ≡ true
same_itself [] = refl
same_itself (x ∷ xs) = and_from (x == x) (same_list xs xs) (eq-eqb x x refl) (same_itself xs)

pub is_same_list : (xs ys : List ℕ) → xs ≡ ys → same_list xs ys ≡ true
is_same_list xs ys e = subst (λ (zs : List ℕ). same_list xs zs ≡ true) e (same_itself xs)

pub tells_used : (a : Certificate) (n : ℕ) (s : List ℕ) → 1 ≤ n → Tells (is_used a n s) (IsUsed a n s)
tells_used a n s l = (
  λ e. let h = has_any (λ (ks : List Kind). same_list (map a.class_of ks) s) (chains n) e in
      let c = listed_chain n h.0 l h.1 in
      record { kinds = h.0; chain = c.0; long = c.1; classes = same_list_is (map a.class_of h.0) s h.2 },
  λ u. any_has (λ (ks : List Kind). same_list (map a.class_of ks) s) (chains n) u.kinds (chain_listed n u.kinds l u.chain u.long) (is_same_list (map a.class_of u.kinds) s u.classes),
)
