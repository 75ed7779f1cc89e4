-- If nothing is found a rule holds; a test decides whether a fact holds.
use Rattle.std.proofs.Common.{ℕ, ◌<◌, ◌≡◌, Bool, true, false, not, ◌&&◌, ◌||◌, cond, List, [], ◌∷◌, filter, find, option_map, Option, Some, None, refl, sym, subst, arith, inl, inr, ⊎_elim}
use Rattle.std.specs.List.{AllByRecursion, list_any, list_all, range_with_len}
use Rattle.std.proofs.lemmas.Bool.{and_parts, and_from, or_cases}
use Rattle.cs_history.specs.Lists.{EachPair, below}
use Rattle.cs_windows.specs.Windows.{day_minutes}
use Rattle.cs_theorem.specs.Faults.{or_else, first_of, first_pair, unless}
use Rattle.cs_windows.proofs.Members.{Has, has_range, range_has}
use Rattle.cs_theorem.proofs.Elements.{all_has}
use Rattle.cs_theorem.proofs.Below.{below_range}

abbrev pub Says : {A : Type 0} → Option A → Type 0 → Type 0
Says o P = (o ≡ None → P) × (P → o ≡ None)

abbrev pub Tells : Bool → Type 0 → Type 0
Tells b P = (b ≡ true → P) × (P → b ≡ true)

pub says_to : {A : Type 0} (o : Option A) (P Q : Type 0) → Says o P → (P → Q) → (Q → P) → Says o Q
says_to o P Q s f g = (λ e. f (s.0 e), λ q. s.1 (g q))

pub tells_to : (b : Bool) (P Q : Type 0) → Tells b P → (P → Q) → (Q → P) → Tells b Q
tells_to b P Q s f g = (λ e. f (s.0 e), λ q. s.1 (g q))

pub says_or : {A : Type 0} (a b : Option A) (P Q : Type 0) → Says a P → Says b Q → Says (or_else a b) (P × Q)
says_or None b P Q s r = (λ e. (s.0 refl, r.0 e), λ h. r.1 h.1)
says_or (Some x) b P Q s r = (λ e. absurd (cc), λ h. absurd (let e = s.1 h.0 in cc))

pub says_unless : {A : Type 0} (b : Bool) (y : A) (P : Type 0) → Tells b P → Says (unless b y) P
says_unless true y P t = (λ e. t.0 refl, λ p. refl)
says_unless false y P t = (λ e. absurd (cc), λ p. absurd (let e = t.1 p in cc))

pub says_map : {A B : Type 0} (f : A → B) (o : Option A) (P : Type 0) → Says o P → Says (option_map f o) P
says_map f None P s = (λ e. s.0 refl, λ p. refl)
says_map f (Some x) P s = (λ e. absurd (cc), λ p. absurd (let e = s.1 p in cc))

pub says_first : {A B : Type 0} (f : A → Option B) (P : A → Type 0) → ((x : A) → Says (f x) (P x)) → (xs : List A) → Says (first_of f xs) (AllByRecursion P xs)
says_first f P s [] = (λ e. tt, λ p. refl)
says_first f P s (x ∷ xs) = says_or (f x) (first_of f xs) (P x) (AllByRecursion P xs) (s x) (says_first f P s xs)

find_step : {A : Type 0} (t : A → Bool) (x : A) (xs : List A) → Says (find t xs) (AllByRecursion (λ y. t y ≡ false) xs) → (b : Bool) → t x ≡ b → Says (cond b (Some x) (find t xs)) ((b ≡ false) × AllByRecursion (λ y. t y ≡ false) xs)
find_step t x xs s true e = (λ k. absurd (cc), λ p. absurd (let e = p.0 in cc))
find_step t x xs s false e = (λ k. (refl, s.0 k), λ p. s.1 p.1)

pub says_find : {A : Type 0} (t : A → Bool) (xs : List A) → Says (find t xs) (AllByRecursion (λ y. t y ≡ false) xs)
says_find t [] = (λ e. tt, λ p. refl)
says_find t (x ∷ xs) = find_step t x xs (says_find t xs) (t x) refl

pub says_pair : {A : Type 0} (t : A → A → Bool) (xs : List A) → Says (first_pair t xs) (EachPair (λ x y. t x y ≡ false) xs)
says_pair t [] = (λ e. tt, λ p. refl)
says_pair {A} t (x ∷ xs) = says_or (option_map (λ (y : A). (x, y)) (find (t x) xs)) (first_pair t xs) (AllByRecursion (λ y. t x y ≡ false) xs) (EachPair (λ x y. t x y ≡ false) xs)
    (says_map (λ (y : A). (x, y)) (find (t x) xs) (AllByRecursion (λ y. t x y ≡ false) xs) (says_find (t x) xs)) (says_pair t xs)

passing_step : {A B : Type 0} (f : A → Option B) (t : A → Bool) (P : A → Type 0) (x : A) (xs : List A) → Says (f x) (P x) → Says (first_of f (filter t xs)) (AllByRecursion (λ y. t y ≡ true → P y) xs) → (b : Bool) → t x ≡ b → Says (first_of f (cond b (x ∷ filter t xs) (filter t xs))) ((b ≡ true → P x) × AllByRecursion (λ y. t y ≡ true → P y) xs)
passing_step f t P x xs s r true e = says_to (or_else (f x) (first_of f (filter t xs))) (P x × AllByRecursion (λ y. t y ≡ true → P y) xs) ((true ≡ true → P x) × AllByRecursion (λ y. t y ≡ true → P y) xs)
    (says_or (f x) (first_of f (filter t xs)) (P x) (AllByRecursion (λ y. t y ≡ true → P y) xs) s r) (λ h. (λ _. h.0, h.1)) (λ h. (h.0 refl, h.1))
passing_step f t P x xs s r false e = (λ k. (λ q. absurd (cc), r.0 k), λ h. r.1 h.1)

pub says_passing : {A B : Type 0} (f : A → Option B) (t : A → Bool) (P : A → Type 0) → ((x : A) → Says (f x) (P x)) → (xs : List A) → Says (first_of f (filter t xs)) (AllByRecursion (λ x. t x ≡ true → P x) xs)
says_passing f t P s [] = (λ e. tt, λ p. refl)
says_passing f t P s (x ∷ xs) = passing_step f t P x xs (s x) (says_passing f t P s xs) (t x) refl

pub all_from_has : {X : Type 0} (P : X → Type 0) (xs : List X) → ((x : X) → Has xs x → P x) → AllByRecursion P xs
all_from_has P [] h = tt
all_from_has P (x ∷ xs) h = (h x (inl refl), all_from_has P xs (λ y k. h y (inr k)))

pub minutes_to : (P : ℕ → Type 0) → AllByRecursion P day_minutes → (m : ℕ) → m < 1440 → P m
unfolding day_minutes
minutes_to P a m lt = all_has P (range_with_len 0 1440) m a (has_range 0 1440 m (omega arith) (omega (arith, lt)))

pub minutes_from : (P : ℕ → Type 0) → ((m : ℕ) → m < 1440 → P m) → AllByRecursion P day_minutes
unfolding day_minutes
minutes_from P h = all_from_has P (range_with_len 0 1440) (λ m k. h m (range_has 0 1440 m k).1)

pub below_to : (P : ℕ → Type 0) (n : ℕ) → AllByRecursion P (below n) → (m : ℕ) → m < n → P m
below_to P n a m lt = all_has P (below n) m a (subst (λ (l : List ℕ). Has l m) (sym (below_range n)) (has_range 0 n m (omega arith) (omega (arith, lt))))

pub below_from : (P : ℕ → Type 0) (n : ℕ) → ((m : ℕ) → m < n → P m) → AllByRecursion P (below n)
below_from P n h = all_from_has P (below n) (λ m k. h m (let r = range_has 0 n m (subst (λ (l : List ℕ). Has l m) (below_range n) k) in omega (arith, r.1)))

pub says_minutes : {B : Type 0} (f : ℕ → Option B) (P : ℕ → Type 0) → ((m : ℕ) → Says (f m) (P m)) → Says (first_of f day_minutes) ((m : ℕ) → m < 1440 → P m)
says_minutes f P s = says_to (first_of f day_minutes) (AllByRecursion P day_minutes) ((m : ℕ) → m < 1440 → P m) (says_first f P s day_minutes) (minutes_to P) (minutes_from P)

pub says_below : {B : Type 0} (f : ℕ → Option B) (P : ℕ → Type 0) (n : ℕ) → ((m : ℕ) → Says (f m) (P m)) → Says (first_of f (below n)) ((m : ℕ) → m < n → P m)
says_below f P n s = says_to (first_of f (below n)) (AllByRecursion P (below n)) ((m : ℕ) → m < n → P m) (says_first f P s (below n)) (below_to P n) (below_from P n)

tells_and : (a b : Bool) (P Q : Type 0) → Tells a P → Tells b Q → Tells (a && b) (P × Q)
tells_and a b P Q s r = (λ e. let h = and_parts a b e in (s.0 h.0, r.0 h.1), λ h. and_from a b (s.1 h.0) (r.1 h.1))

pub tells_all : {X : Type 0} (t : X → Bool) (P : X → Type 0) → ((x : X) → Tells (t x) (P x)) → (xs : List X) → Tells (list_all t xs) (AllByRecursion P xs)
tells_all t P s [] = (λ e. tt, λ p. refl)
tells_all t P s (x ∷ xs) = tells_and (t x) (list_all t xs) (P x) (AllByRecursion P xs) (s x) (tells_all t P s xs)

pub tells_minutes : (t : ℕ → Bool) (P : ℕ → Type 0) → ((m : ℕ) → Tells (t m) (P m)) → Tells (list_all t day_minutes) ((m : ℕ) → m < 1440 → P m)
tells_minutes t P s = tells_to (list_all t day_minutes) (AllByRecursion P day_minutes) ((m : ℕ) → m < 1440 → P m) (tells_all t P s day_minutes) (minutes_to P) (minutes_from P)

pub tells_below : (t : ℕ → Bool) (P : ℕ → Type 0) (n : ℕ) → ((m : ℕ) → Tells (t m) (P m)) → Tells (list_all t (below n)) ((m : ℕ) → m < n → P m)
tells_below t P n s = tells_to (list_all t (below n)) (AllByRecursion P (below n)) ((m : ℕ) → m < n → P m) (tells_all t P s (below n)) (below_to P n) (below_from P n)

pub has_any : {X : Type 0} (t : X → Bool) (xs : List X) → list_any t xs ≡ true → (x : X) × Has xs x × (t x ≡ true)
has_any t [] e = absurd (cc)
has_any t (x ∷ xs) e = ⊎_elim (λ (k : t x ≡ true). (x, inl refl, k)) (λ (k : list_any t xs ≡ true). let r = has_any t xs k in (r.0, inr r.1, r.2)) (or_cases (t x) (list_any t xs) e)

pub tells_if : (a b : Bool) (Q : Type 0) → Tells b Q → Tells (not a || b) (a ≡ true → Q)
tells_if true b Q s = (λ e _. s.0 e, λ h. s.1 (h refl))
tells_if false b Q s = (λ e q. absurd (cc), λ h. refl)

pub tells_passing : {X : Type 0} (t u : X → Bool) (P : X → Type 0) → ((x : X) → Tells (u x) (P x)) → (xs : List X) → Tells (list_all u (filter t xs)) (AllByRecursion (λ x. t x ≡ true → P x) xs)
tells_passing t u P s [] = (λ e. tt, λ p. refl)
tells_passing {X} t u P s (x ∷ xs) = step (t x) refl (tells_passing t u P s xs)
  where
    step : (b : Bool) → t x ≡ b → Tells (list_all u (filter t xs)) (AllByRecursion (λ y. t y ≡ true → P y) xs) → Tells (list_all u (cond b (x ∷ filter t xs) (filter t xs))) ((b ≡ true → P x) × AllByRecursion (λ y. t y ≡ true → P y) xs)
    step true e r = let w = tells_and (u x) (list_all u (filter t xs)) (P x) (AllByRecursion (λ y. t y ≡ true → P y) xs) (s x) r in (λ k. (λ _. (w.0 k).0, (w.0 k).1), λ h. w.1 (h.0 refl, h.1))
    step false e r = (λ k. (λ q. absurd (cc), r.0 k), λ h. r.1 h.1)

pub all_swap : {G X : Type 0} (R : G → X → Type 0) (xs : List X) → ((g : G) → AllByRecursion (R g) xs) → AllByRecursion (λ x. (g : G) → R g x) xs
all_swap R [] h = tt
all_swap R (x ∷ xs) h = (λ g. (h g).0, all_swap R xs (λ g. (h g).1))

pub pairs_swap : {G X : Type 0} (R : G → X → X → Type 0) (xs : List X) → ((g : G) → EachPair (R g) xs) → EachPair (λ x y. (g : G) → R g x y) xs
pairs_swap R [] h = tt
pairs_swap R (x ∷ xs) h = (all_swap (λ g. R g x) xs (λ g. (h g).0), pairs_swap R xs (λ g. (h g).1))
