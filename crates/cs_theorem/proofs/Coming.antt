-- Each chain of up to four kinds occurs on successive days of the first 28 years.
use Rattle.std.proofs.Common.{◌≡◌, ℕ, zero, suc, ◌+◌, ◌-◌, ◌%◌, ◌≤◌, Bool, true, false, List, [], ◌∷◌, map, length, Contains, Option, Some, refl, sym, ap, ◌∙◌, subst, arith, inl, inr, ◌⊎◌}
use Rattle.std.specs.Prelude.{unwrap_or, ⊤}
use Rattle.std.specs.List.{find, range_with_len}
use Rattle.std.proofs.lemmas.Bool.{cases_lt, cases_eq}
use Rattle.std.proofs.lemmas.List.Elements.{All-contains}
use Rattle.cs_civil.specs.Calendar.{Kind, IsKind, kind, date_of, longest, days_after, kinds_after, ComesWithin}
use Rattle.cs_civil.proofs.Following.{kind_followed, kind_possible, is_28, after_in, after_last}
use Rattle.cs_civil.proofs.Cycle.{next_come}
use Rattle.cs_windows.proofs.Members.{Has, contains_has, has_contains, has_range, range_has}
use Rattle.cs_theorem.proofs.Chains.{same_list_is, is_same_list}
use Rattle.cs_theorem.specs.Accepted.{IsChain, IsUsed}
use Rattle.cs_theorem.specs.Certificate.{Certificate}
use Rattle.cs_theorem.specs.Ending.{EndsOn}
use Rattle.cs_theorem.specs.Faults.{last_of, same_list}

-- 28 February, the one kind that two can follow
abbrev Is28 : Kind → Type 0
Is28 k = (k.month ≡ 2) × (k.dom ≡ 28)

cases_28 : (k : Kind) → Is28 k ⊎ (Is28 k → ⊥)
cases_28 k =
    elim (cases_eq k.month 2) [
      | inl m ↦ elim (cases_eq k.dom 28) [
        | inl d ↦ inl (m, d)
        | inr ne ↦ inr (λ b. ne b.1)
      ]
      | inr ne ↦ inr (λ b. ne b.0)
    ]

abbrev after_on : Kind → ℕ × ℕ → Kind
after_on k p = record { month = p.0; dom = p.1; dow = (k.dow + 1) % 7 }

one_follows : (k : Kind) (p : ℕ × ℕ) (l : Kind) → days_after k.month k.dom ≡ p ∷ [] → Contains (kinds_after k) l → after_on k p ≡ l
one_follows k p l e c =
    let days = subst (λ (ps : List (ℕ × ℕ)). Has (map (after_on k) ps) l) e (contains_has (kinds_after k) l c) in
    elim days [ inl is ↦ is | inr none ↦ absurd none ]

single : (k l q : Kind) → (Is28 k → ⊥) → Contains (kinds_after k) l → Contains (kinds_after k) q → l ≡ q
single k l q apart c d =
    elim (cases_lt k.dom (longest k.month)) [
      | inl lt ↦ let e = after_in k.month k.dom apart lt in sym (one_follows k _ l e c) ∙ one_follows k _ q e d
      | inr le ↦ let e = after_last k.month k.dom apart le in sym (one_follows k _ l e c) ∙ one_follows k _ q e d
    ]

forward : (d : ℕ) (k l : Kind) → kind d ≡ k → (Is28 k → ⊥) → Contains (kinds_after k) l → kind (d + 1) ≡ l
forward d k l e apart c = single k (kind (d + 1)) l apart (subst (λ (q : Kind). Contains (kinds_after q) (kind (d + 1))) e (kind_followed d)) c

-- ---- days before

-- a kind that is neither the first of a month nor 29 February can follow only one kind
record Before (k l : Kind) : Type 0 where
  month : k.month ≡ l.month
  dom : k.dom + 1 ≡ l.dom
  dow : (k.dow + 1) % 7 ≡ l.dow

before_is : (k l : Kind) → IsKind k → 2 ≤ l.dom → l.dom ≤ 28 → Contains (kinds_after k) l → Before k l
before_is k l h low high c =
    elim (cases_28 k) [
      | inl b ↦
          let days = subst (λ (ps : List (ℕ × ℕ)). Has (map (after_on k) ps) l) (is_28 k.month k.dom b.0 b.1) (contains_has (kinds_after k) l c) in
          elim days [
            | inl is ↦ (let e : 29 ≡ l.dom = ap (λ (q : Kind). q.dom) is in absurd (omega (arith, e, high)))
            | inr more ↦ elim more [
              | inl is ↦ (let e : 1 ≡ l.dom = ap (λ (q : Kind). q.dom) is in absurd (omega (arith, e, low)))
              | inr none ↦ absurd none
            ]
          ]
      | inr apart ↦ elim (cases_lt k.dom (longest k.month)) [
        | inl lt ↦
            let is = one_follows k _ l (after_in k.month k.dom apart lt) c in
            record { month = ap (λ (q : Kind). q.month) is; dom = ap (λ (q : Kind). q.dom) is; dow = ap (λ (q : Kind). q.dow) is }
        | inr le ↦
            let is = one_follows k _ l (after_last k.month k.dom apart le) c in
            let e : 1 ≡ l.dom = ap (λ (q : Kind). q.dom) is in
            absurd (omega (arith, e, low))
      ]
    ]

kind_same : (k q : Kind) → k.month ≡ q.month → k.dom ≡ q.dom → k.dow ≡ q.dow → k ≡ q
kind_same k q m d w = rw (m, d, w)

backward : (d : ℕ) (k l : Kind) → IsKind k → kind (d + 1) ≡ l → 2 ≤ l.dom → l.dom ≤ 28 → Contains (kinds_after k) l → kind d ≡ k
backward d k l h e low high c =
    let a = before_is (kind d) l (kind_possible d) low high (subst (Contains (kinds_after (kind d))) e (kind_followed d)) in
    let b = before_is k l h low high c in
    kind_same (kind d) k (a.month ∙ sym b.month) (omega (arith, a.dom, b.dom)) (omega (arith, a.dow, b.dow, (kind_possible d).dow, h.dow))

-- ---- days of a chain

abbrev AreOn : ℕ → List Kind → Type 0
AreOn d [] = ⊤
AreOn d (k ∷ ks) = (kind d ≡ k) × AreOn (d + 1) ks

abbrev NoneIs28 : Kind → List Kind → Type 0
NoneIs28 k [] = ⊤
NoneIs28 k (l ∷ ks) = (Is28 k → ⊥) × NoneIs28 l ks

onward : (d : ℕ) (k : Kind) (ks : List Kind) → kind d ≡ k → IsChain (k ∷ ks) → NoneIs28 k ks → AreOn d (k ∷ ks)
onward d k [] e c n = (e, tt)
onward d k (l ∷ ks) e c n = (e, onward (d + 1) l ks (forward d k l e n.0 c.1) c.2 n.1)

comes : (k l : Kind) → IsKind k → Contains (kinds_after k) l → ComesWithin 10_227 k l
comes k l h c = All-contains (ComesWithin 10_227 k) (kinds_after k) l (next_come k h) c

dom_after : (k l : Kind) → Contains (kinds_after k) l → (l.dom ≡ k.dom + 1) ⊎ (l.dom ≡ 1)
dom_after k l c =
    elim (cases_28 k) [
      | inl b ↦
          let days = subst (λ (ps : List (ℕ × ℕ)). Has (map (after_on k) ps) l) (is_28 k.month k.dom b.0 b.1) (contains_has (kinds_after k) l c) in
          elim days [
            | inl is ↦ (let e : 29 ≡ l.dom = ap (λ (q : Kind). q.dom) is in inl (omega (arith, e, b.1)))
            | inr more ↦ elim more [
              | inl is ↦ (let e : 1 ≡ l.dom = ap (λ (q : Kind). q.dom) is in inr (sym e))
              | inr none ↦ absurd none
            ]
          ]
      | inr apart ↦ elim (cases_lt k.dom (longest k.month)) [
        | inl lt ↦ (let e : k.dom + 1 ≡ l.dom = ap (λ (q : Kind). q.dom) (one_follows k _ l (after_in k.month k.dom apart lt) c) in inl (sym e))
        | inr le ↦ (let e : 1 ≡ l.dom = ap (λ (q : Kind). q.dom) (one_follows k _ l (after_last k.month k.dom apart le) c) in inr (sym e))
      ]
    ]

next_not : (k l : Kind) → Is28 k → Contains (kinds_after k) l → Is28 l → ⊥
next_not k l b c is =
    elim (dom_after k l c) [
      | inl e ↦ omega (arith, e, b.1, is.1)
      | inr e ↦ omega (arith, e, is.1)
    ]

second_not : (k l m : Kind) → Is28 k → Contains (kinds_after k) l → Contains (kinds_after l) m → Is28 m → ⊥
second_not k l m b c d is =
    elim (dom_after k l c) [
      | inl e ↦ elim (dom_after l m d) [
        | inl f ↦ omega (arith, e, f, b.1, is.1)
        | inr f ↦ omega (arith, f, is.1)
      ]
      | inr e ↦ elim (dom_after l m d) [
        | inl f ↦ omega (arith, e, f, is.1)
        | inr f ↦ omega (arith, f, is.1)
      ]
    ]

not_first : (d : ℕ) (k : Kind) → kind d ≡ k → 2 ≤ k.dom → 1 ≤ d
unfolding date_of
not_first zero k e low = (let first : 1 ≡ k.dom = ap (λ (q : Kind). q.dom) e in absurd (omega (arith, first, low)))
not_first (suc d) k e low = omega arith

record Found (ks : List Kind) : Type 0 where
  day : ℕ
  low : 1 ≤ day
  high : day ≤ 10_227
  on : AreOn day ks

found_first : (k l : Kind) (ks : List Kind) → IsChain (k ∷ l ∷ ks) → NoneIs28 l ks → Found (k ∷ l ∷ ks)
found_first k l ks c n =
    let r = comes k l c.0 c.1 in
    record { day = r.0; low = r.1; high = r.2; on = (r.3, onward (r.0 + 1) l ks r.4 c.2 n) }

none_after : (k l : Kind) (ks : List Kind) → Is28 k → IsChain (k ∷ l ∷ ks) → length ks ≤ 2 → NoneIs28 l ks
none_after k l [] b c short = tt
none_after k l (m ∷ []) b c short = (next_not k l b c.1, tt)
none_after k l (m ∷ q ∷ []) b c short = (next_not k l b c.1, (second_not k l m b c.1 c.2.1, tt))
none_after k l (m ∷ q ∷ o ∷ ks) b c short = absurd (omega (arith, short))

found_second : (k l m : Kind) (ks : List Kind) → Is28 l → IsChain (k ∷ l ∷ m ∷ ks) → length ks ≤ 1 → Found (k ∷ l ∷ m ∷ ks)
found_second k l m ks b c short =
    let f = found_first l m ks c.2 (none_after l m ks b c.2 (omega (arith, short))) in
    let eve = f.day - 1 in
    let same : f.day ≡ eve + 1 = omega (arith, f.low) in
    let is : kind (eve + 1) ≡ l = ap kind (sym same) ∙ f.on.0 in
    let first : kind eve ≡ k = backward eve k l c.0 is (omega (arith, b.1)) (omega (arith, b.1)) c.1 in
    let before = before_is k l c.0 (omega (arith, b.1)) (omega (arith, b.1)) c.1 in
    record { day = eve; low = not_first eve k first (omega (arith, before.dom, b.1)); high = omega (arith, f.high); on = (first, subst (λ (d : ℕ). AreOn d (l ∷ m ∷ ks)) same f.on) }

found_third : (k l m q : Kind) → Is28 m → IsChain (k ∷ l ∷ m ∷ q ∷ []) → Found (k ∷ l ∷ m ∷ q ∷ [])
found_third k l m q b c =
    let f = found_second l m q [] b c.2 (omega arith) in
    let later = before_is l m c.2.0 (omega (arith, b.1)) (omega (arith, b.1)) c.2.1 in
    let eve = f.day - 1 in
    let same : f.day ≡ eve + 1 = omega (arith, f.low) in
    let is : kind (eve + 1) ≡ l = ap kind (sym same) ∙ f.on.0 in
    let first : kind eve ≡ k = backward eve k l c.0 is (omega (arith, later.dom, b.1)) (omega (arith, later.dom, b.1)) c.1 in
    let before = before_is k l c.0 (omega (arith, later.dom, b.1)) (omega (arith, later.dom, b.1)) c.1 in
    record { day = eve; low = not_first eve k first (omega (arith, before.dom, later.dom, b.1)); high = omega (arith, f.high); on = (first, subst (λ (d : ℕ). AreOn d (l ∷ m ∷ q ∷ [])) same f.on) }

after_listed : (k : Kind) (p : ℕ × ℕ) (ps : List (ℕ × ℕ)) → days_after k.month k.dom ≡ p ∷ ps → Contains (kinds_after k) (after_on k p)
after_listed k p ps e = has_contains (kinds_after k) (after_on k p) (subst (λ (qs : List (ℕ × ℕ)). Has (map (after_on k) qs) (after_on k p)) (sym e) (inl refl))

some_after : (k : Kind) → (l : Kind) × Contains (kinds_after k) l
some_after k =
    elim (cases_28 k) [
      | inl b ↦ (after_on k (2, 29), after_listed k (2, 29) ((3, 1) ∷ []) (is_28 k.month k.dom b.0 b.1))
      | inr apart ↦ elim (cases_lt k.dom (longest k.month)) [
        | inl lt ↦ (after_on k (k.month, k.dom + 1), after_listed k (k.month, k.dom + 1) [] (after_in k.month k.dom apart lt))
        | inr le ↦ (after_on k (k.month % 12 + 1, 1), after_listed k (k.month % 12 + 1, 1) [] (after_last k.month k.dom apart le))
      ]
    ]

found_one : (k : Kind) → IsKind k → Found (k ∷ [])
found_one k h = (let s = some_after k in let r = comes k s.0 h s.1 in record { day = r.0; low = r.1; high = r.2; on = (r.3, tt) })

found : (ks : List Kind) → IsChain ks → 1 ≤ length ks → length ks ≤ 4 → Found ks
found [] c low high = absurd (omega (arith, low))
found (k ∷ []) c low high = found_one k c.0
found (k ∷ l ∷ []) c low high = found_first k l [] c tt
found (k ∷ l ∷ m ∷ []) c low high =
    elim (cases_28 l) [
      | inl b ↦ found_second k l m [] b c (omega arith)
      | inr apart ↦ found_first k l (m ∷ []) c (apart, tt)
    ]
found (k ∷ l ∷ m ∷ q ∷ []) c low high =
    elim (cases_28 l) [
      | inl b ↦ found_second k l m (q ∷ []) b c (omega arith)
      | inr apart ↦ elim (cases_28 m) [
        | inl b ↦ found_third k l m q b c
        | inr too ↦ found_first k l (m ∷ q ∷ []) c (apart, (too, tt))
      ]
    ]
found (k ∷ l ∷ m ∷ q ∷ o ∷ ks) c low high = absurd (omega (arith, high))

-- ---- the day that is found

record FirstOf {X : Type 0} (t : X → Bool) (xs : List X) : Type 0 where
  first : X
  is : find t xs ≡ Some first
  among : Has xs first
  passes : t first ≡ true

found_at : {X : Type 0} (t : X → Bool) (y : X) (ys : List X) (x : X) (b : Bool) → t y ≡ b → Has (y ∷ ys) x → t x ≡ true → (Has ys x → FirstOf t ys) → FirstOf t (y ∷ ys)
found_at t y ys x true is h e more = record { first = y; is = rw is refl; among = inl refl; passes = is }
found_at t y ys x false is (inl same) e more = (let no : true ≡ false = sym e ∙ (ap t (sym same) ∙ is) in absurd cc)
found_at t y ys x false is (inr rest) e more = (let r = more rest in record { first = r.first; is = rw is r.is; among = inr r.among; passes = r.passes })

found_in : {X : Type 0} (t : X → Bool) (xs : List X) (x : X) → Has xs x → t x ≡ true → FirstOf t xs
found_in t [] x h e = absurd h
found_in t (y ∷ ys) x h e = found_at t y ys x (t y) refl h e (λ rest. found_in t ys x rest e)

mapped_on : (a : Certificate) (d : ℕ) (ks : List Kind) → AreOn d ks → map (λ e. a.class_of (kind e)) (range_with_len d (length ks)) ≡ map a.class_of ks
mapped_on a d [] h = refl
mapped_on a d (k ∷ ks) h = ap (λ (c : ℕ). c ∷ map (λ e. a.class_of (kind e)) (range_with_len (d + 1) (length ks))) (ap a.class_of h.0) ∙ ap (λ (cs : List ℕ). a.class_of k ∷ cs) (mapped_on a (d + 1) ks h.1)

pub last_ends : (a : Certificate) (n : ℕ) (s : List ℕ) → 1 ≤ n → n ≤ 4 → IsUsed a n s → EndsOn a n s (last_of a n s)
unfolding last_of
last_ends a n s low high u =
    let classes : ℕ → List ℕ = λ e. map (λ d. a.class_of (kind d)) (range_with_len (e + 1 - n) n) in
    let f = found u.kinds u.chain (omega (arith, u.long, low)) (omega (arith, u.long, high)) in
    let last = f.day + n - 1 in
    let first : f.day ≡ last + 1 - n = omega (arith, f.low, low) in
    let on : classes last ≡ s =
    ap (λ (d : ℕ). map (λ e. a.class_of (kind e)) (range_with_len d n)) (sym first) ∙ (ap (λ (m : ℕ). map (λ e. a.class_of (kind e)) (range_with_len f.day m)) (sym u.long) ∙ (mapped_on a f.day u.kinds f.on ∙ u.classes)) in
    let within : Has (range_with_len n 10227) last = has_range n 10227 last (omega (arith, f.low, low)) (omega (arith, f.high, low)) in
    let r = found_in (λ e. same_list (classes e) s) (range_with_len n 10227) last within (is_same_list (classes last) s on) in
    let is : r.first ≡ last_of a n s = sym (ap (λ (o : Option ℕ). unwrap_or o n) r.is) in
    let ends : EndsOn a n s r.first = record { far = (range_has n 10227 r.first r.among).0; classes = same_list_is (classes r.first) s r.passes } in
    subst (EndsOn a n s) is ends
