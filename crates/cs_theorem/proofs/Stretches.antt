-- Each n successive days are a stretch that is used, and so one that the certificate has.
use Rattle.std.proofs.Common.{ℕ, zero, suc, ◌+◌, ◌*◌, ◌<◌, ◌≡◌, Bool, true, List, [], ◌∷◌, map, Contains, refl, sym, ap, ◌∙◌, subst}
use Rattle.std.specs.List.{range_with_len}
use Rattle.std.proofs.lemmas.List.FromFn.{length-map-range_with_len}
use Rattle.cs_civil.specs.Calendar.{Kind, kind}
use Rattle.cs_civil.proofs.Following.{kind_followed, kind_possible}
use Rattle.cs_history.specs.Plan.{Plan, is_cron}
use Rattle.cs_theorem.specs.Certificate.{Certificate, Stretch}
use Rattle.cs_theorem.specs.Accepted.{IsFollowed, IsChain, IsUsed, InEach, IsAccepted, IsByKind, due_in}
use Rattle.cs_windows.proofs.Members.{contains_has}
use Rattle.cs_theorem.proofs.Elements.{map_has, all_has}

pub map_twice : {X Y Z : Type 0} (f : Y → Z) (g : X → Y) (xs : List X) → map f (map g xs) ≡ map (λ x. f (g x)) xs
map_twice f g [] = refl
map_twice f g (x ∷ xs) = ap (λ (l : List _). f (g x) ∷ l) (map_twice f g xs)

followed : (first n : ℕ) → IsFollowed (kind first) (map kind (range_with_len (first + 1) n))
followed first zero = tt
followed first (suc n) = kind_followed first

chain : (first n : ℕ) → IsChain (map kind (range_with_len first n))
chain first zero = tt
chain first (suc n) = (kind_possible first, followed first n, chain (first + 1) n)

abbrev pub classes : Certificate → ℕ → ℕ → List ℕ
classes a first n = map (λ e. a.class_of (kind e)) (range_with_len first n)

classes_are : (a : Certificate) (first n : ℕ) → map a.class_of (map kind (range_with_len first n)) ≡ classes a first n
classes_are a first n = map_twice a.class_of kind (range_with_len first n)

pub used : (a : Certificate) (first n : ℕ) → IsUsed a n (classes a first n)
used a first n = record { kinds = map kind (range_with_len first n); chain = chain first n; long = length-map-range_with_len kind first n; classes = classes_are a first n }

module _ (p : Plan) (on : ℕ → Kind → ℕ → Bool) (a : Certificate) (n : ℕ) (ok : IsAccepted p on a n) where
  -- what holds in each stretch that is used holds of any n successive days
  pub on_days : (P : Stretch → Type 0) → InEach a n P → (first : ℕ) → (s : Stretch) × (s.of ≡ classes a first n) × P s
  on_days P each first =
      let c : Contains (map (λ (s : Stretch). s.of) a.stretches) (map a.class_of (map kind (range_with_len first n))) =
      ok.listed (map kind (range_with_len first n)) (chain first n) (length-map-range_with_len kind first n) in
      let h = map_has (λ (s : Stretch). s.of) a.stretches (map a.class_of (map kind (range_with_len first n))) (contains_has (map (λ (s : Stretch). s.of) a.stretches) (map a.class_of (map kind (range_with_len first n))) c) in
      let e : h.0.of ≡ classes a first n = h.2 ∙ classes_are a first n in
      (h.0, e, all_has (λ (s : Stretch). IsUsed a n s.of → P s) a.stretches h.0 each h.1 (subst (IsUsed a n) (sym e) (used a first n)))

  -- the due minutes of the class of a day are those of the day
  pub due_tells : IsByKind p on → (j d m : ℕ) → is_cron p j ≡ true → m < 1440 → due_in a j (a.class_of (kind d)) m ≡ p.due j (1440 * d + m)
  due_tells by j d m cron lt = ok.due (kind d) (kind_possible d) j m cron lt ∙ sym (by j d m cron lt)
