use Rattle.std.proofs.Common.{◌≡◌, ℕ, ◌<◌, ◌-◌, Bool, if◌then◌else◌, true, false, not, ◌||◌, List, [], ◌∷◌, map, length, refl, ap, sym, ◌∙◌, subst, arith, ◌↔◌}
use Rattle.std.specs.Prelude.{unwrap_or, IsTrue}
use Rattle.std.proofs.lemmas.Bool.{lt-ltb}
use Rattle.cs_history.specs.Plan.{Plan, IsPlan}
use Rattle.cs_claims.specs.declared.class.Class.{Class}
use Rattle.cs_claims.specs.Certificate.{bound_in, is_due_in}
use Rattle.cs_classes.specs.Claim.{Claimed, as_certificate, class_at}
use Rattle.cs_classes.specs.Reaches.{Clears, bounds_of}
use Rattle.cs_wait.specs.Bounds.{ClearsBy, at_days}
use Rattle.cs_theorem.specs.Accepted.{nth}
use Rattle.cs_theorem.specs.Certificate.{Certificate, Stretch}
use Rattle.cs_theorem.specs.Faults.{clears_by}
use Rattle.cs_theorem.proofs.Says.{Tells, tells_minutes, tells_if}
use Rattle.cs_theorem.proofs.Stretches.{map_twice}
use Rattle.cs_theorem.proofs.Points.{tells_clears}
use Rattle.cs_check.specs.Stretches.{clears_on}

abbrev ClearsOn : Plan → Certificate → Stretch → ℕ → ℕ → Type 0
ClearsOn p a s j r = (m : ℕ) → m < 1440 → a.due (nth s.of 0) j m ≡ true → ClearsBy (map (λ class. a.bound class (unwrap_or (p.group j) 0)) s.of) m r

pub tells_on : (p : Plan) → IsPlan p → (a : Certificate) (j r : ℕ) (s : Stretch) → Tells (clears_on p a j r s) (ClearsOn p a s j r)
tells_on p plan a j r s =
    tells_minutes (λ m. not (a.due (nth s.of 0) j m) || clears_by (map (λ class. a.bound class (unwrap_or (p.group j) 0)) s.of) m r)
    (λ m. a.due (nth s.of 0) j m ≡ true → ClearsBy (map (λ class. a.bound class (unwrap_or (p.group j) 0)) s.of) m r)
    (λ m. tells_if (a.due (nth s.of 0) j m) (clears_by (map (λ class. a.bound class (unwrap_or (p.group j) 0)) s.of) m r) (ClearsBy (map (λ class. a.bound class (unwrap_or (p.group j) 0)) s.of) m r)
    (tells_clears p plan (λ _ _ _. false) a 1 (omega arith) (map (λ class. a.bound class (unwrap_or (p.group j) 0)) s.of) m r))

pub tells_is : (x y : Bool) (P : Type 0) → (x ≡ true → P) × (P → x ≡ true) → Tells y P → x ≡ y
tells_is true true P s t = refl
tells_is true false P s t = absurd (let e = t.1 (s.0 refl) in cc)
tells_is false true P s t = absurd (let e = s.1 (t.0 refl) in cc)
tells_is false false P s t = refl

first_is : (classes : List Class) (of : List ℕ) → 0 < length of → class_at (map (class_at classes) of) 0 ≡ class_at classes (nth of 0)
first_is classes [] lt = absurd (omega (arith, lt))
first_is classes (x ∷ of) lt = refl

module _ (p : Plan) (plan : IsPlan p) (c : Claimed) (s : Stretch) (j r : ℕ) (some : 0 < length s.of) where
  bounds_are : bounds_of p j (map (class_at c.classes) s.of) ≡ map (λ class. (as_certificate c).bound class (unwrap_or (p.group j) 0)) s.of
  bounds_are = map_twice (λ (class : Class). bound_in class (unwrap_or (p.group j) 0)) (class_at c.classes) s.of

  to_on : Clears p (map (class_at c.classes) s.of) j r → ClearsOn p (as_certificate c) s j r
  to_on h m lt due = subst (λ (bs : List (ℕ → ℕ)). ClearsBy bs m r) bounds_are (h m lt (ap (λ (class : Class). is_due_in class j m) (first_is c.classes s.of some) ∙ due))

  from_on : ClearsOn p (as_certificate c) s j r → Clears p (map (class_at c.classes) s.of) j r
  from_on h m lt due = subst (λ (bs : List (ℕ → ℕ)). ClearsBy bs m r) (sym bounds_are) (h m lt (sym (ap (λ (class : Class). is_due_in class j m) (first_is c.classes s.of some)) ∙ due))

  pub clears_is : (x : Bool) (classes : List Class) → classes ≡ map (class_at c.classes) s.of → (IsTrue x ↔ Clears p classes j r) → x ≡ clears_on p (as_certificate c) j r s
  clears_is x classes e is =
      tells_is x (clears_on p (as_certificate c) j r s) (ClearsOn p (as_certificate c) s j r)
      (λ h. to_on (subst (λ (ks : List Class). Clears p ks j r) e (is.0 h)), λ h. is.1 (subst (λ (ks : List Class). Clears p ks j r) (sym e) (from_on h))) (tells_on p plan (as_certificate c) j r s)

-- what is clear on the first day is clear on it and those after it
more_days : (b : ℕ → ℕ) (bs : List (ℕ → ℕ)) (m r : ℕ) → ClearsBy (b ∷ []) m r → ClearsBy (b ∷ bs) m r
more_days b bs m r h =
    let lt : h.0 < 1440 = omega (arith, h.3.0) in
    (h.0, h.1, h.2, (omega (arith, lt), first_day b [] bs h.0 lt h.3.1))
  where
    first_day : (b : ℕ → ℕ) (xs ys : List (ℕ → ℕ)) (m : ℕ) → m < 1440 → at_days (b ∷ xs) m ≡ 0 → at_days (b ∷ ys) m ≡ 0
    first_day b xs ys m lt e = let is = lt-ltb m 1440 lt in ap (λ (t : Bool). if t then b m else at_days ys (m - 1440)) is ∙ sym (ap (λ (t : Bool). if t then b m else at_days xs (m - 1440)) is) ∙ e

pub clears_alone : (p : Plan) → IsPlan p → (c : Claimed) (s : Stretch) (j r : ℕ) → 0 < length s.of → Clears p (class_at c.classes (nth s.of 0) ∷ []) j r → clears_on p (as_certificate c) j r s ≡ true
clears_alone p plan c s j r some h = (tells_on p plan (as_certificate c) j r s).1 (on s.of some h)
  where
    on : (of : List ℕ) → 0 < length of → Clears p (class_at c.classes (nth of 0) ∷ []) j r → (m : ℕ) → m < 1440 → (as_certificate c).due (nth of 0) j m ≡ true → ClearsBy (map (λ class. (as_certificate c).bound class (unwrap_or (p.group j) 0)) of) m r
    on [] lt h m in_day due = absurd (omega (arith, lt))
    on (x ∷ of) lt h m in_day due = more_days (bound_in (class_at c.classes x) (unwrap_or (p.group j) 0)) (map (λ class. (as_certificate c).bound class (unwrap_or (p.group j) 0)) of) m r (h m in_day due)
