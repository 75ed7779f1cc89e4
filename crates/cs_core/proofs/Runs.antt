-- Runs by name: one that comes, one that leaves.
use Rattle.std.proofs.Common.{ℕ, ◌+◌, ◌≤◌, ◌≡◌, Bool, true, false, not, ◌||◌, cond, List, [], ◌∷◌, ◌++◌, filter, length, refl, sym, ap, ◌∙◌, arith}
use Rattle.std.specs.List.{AllByRecursion, list_any}
use Rattle.std.proofs.lemmas.Bool.{both_ways, false_from_ne_true}
use Rattle.cs_history.specs.History.{same_run}
use Rattle.cs_history.specs.Lists.{number_of}
use Rattle.cs_history.specs.declared.run.Run.{Run}
use Rattle.cs_history.specs.declared.run.Going.{Going}
use Rattle.cs_history.proofs.Lists.{none_pass, none_passes, one}
use Rattle.cs_history.proofs.Names.{none_same, run_is}
use Rattle.cs_roster.specs.Roster.{has, others}
use Rattle.cs_core.specs.Standing.{names}

-- one more

pub any_push : {X : Type 0} (t : X → Bool) (xs : List X) (y : X) → list_any t (xs ++ y ∷ []) ≡ (list_any t xs || t y)
any_push t [] y = by (t y)
  where
    by : (b : Bool) → (b || false) ≡ b
    by true = refl
    by false = refl
any_push t (x ∷ xs) y = by (t x) (any_push t xs y)
  where
    by : (b : Bool) → list_any t (xs ++ y ∷ []) ≡ (list_any t xs || t y) → (b || list_any t (xs ++ y ∷ [])) ≡ ((b || list_any t xs) || t y)
    by true rest = refl
    by false rest = rest

pub names_push : (xs : List Going) (y : Going) → names (xs ++ y ∷ []) ≡ names xs ++ y.run ∷ []
names_push [] y = refl
names_push (x ∷ xs) y = ap (λ (rs : List Run). x.run ∷ rs) (names_push xs y)

-- names among names

pub has_name : (r : Run) (xs : List Going) → has xs r ≡ list_any (same_run r) (names xs)
has_name r [] = refl
has_name r (x ∷ xs) = ap (λ b. same_run r x.run || b) (has_name r xs)

pub names_others : (r : Run) (xs : List Going) → names (others xs r) ≡ filter (λ w. not (same_run r w)) (names xs)
names_others r [] = refl
names_others r (x ∷ xs) = by (same_run r x.run) (names_others r xs)
  where
    by : (b : Bool) → names (others xs r) ≡ filter (λ w. not (same_run r w)) (names xs) → names (cond (not b) (x ∷ others xs r) (others xs r)) ≡ cond (not b) (x.run ∷ filter (λ w. not (same_run r w)) (names xs)) (filter (λ w. not (same_run r w)) (names xs))
    by true rest = rest
    by false rest = ap (λ (rs : List Run). x.run ∷ rs) rest

pub none_named : {X : Type 0} (f : X → Run) (r : Run) (xs : List X) → number_of (λ x. same_run r (f x)) xs ≤ 0 → list_any (λ x. same_run r (f x)) xs ≡ false
none_named f r xs e = none_pass (λ x. same_run r (f x)) xs (none_same f r xs e)

pub none_counted : {X : Type 0} (t : X → Bool) (xs : List X) → number_of t xs ≤ 0 → AllByRecursion (λ x. t x ≡ false) xs
none_counted t [] e = tt
none_counted t (x ∷ xs) e = (false_from_ne_true (t x) (λ q. let h : one (t x) ≡ 1 = ap one q in absurd (omega (arith, h, e))), none_counted t xs (omega (arith, e)))

-- one less

same_all : (r : Run) (xs : List Going) → AllByRecursion (λ x. same_run r x.run ≡ false) xs → others xs r ≡ xs
same_all r [] a = refl
same_all r (x ∷ xs) a = ap (λ (b : Bool). cond (not b) (x ∷ others xs r) (others xs r)) a.0 ∙ ap (λ (ys : List Going). x ∷ ys) (same_all r xs a.1)

-- where a name occurs once, the count is greater by that run
pub one_less : (t : Run → Bool) (r : Run) (xs : List Going) → number_of (λ x. same_run r x.run) xs ≤ 1 → has xs r ≡ true → number_of (λ x. t x.run) xs ≡ number_of (λ x. t x.run) (others xs r) + one (t r)
one_less t r [] once there = absurd (both_ways false refl there)
one_less t r (x ∷ xs) once there = by (same_run r x.run) refl (one_less t r xs)
  where
    number : List Going → ℕ
    number = number_of (λ x. t x.run)

    by : (b : Bool) → same_run r x.run ≡ b → (number_of (λ x. same_run r x.run) xs ≤ 1 → has xs r ≡ true → number xs ≡ number (others xs r) + one (t r))
        → one (t x.run) + number xs ≡ number (cond (not b) (x ∷ others xs r) (others xs r)) + one (t r)
    by true same rest =
        let here : one (same_run r x.run) ≡ 1 = ap one same in
        let gone : others xs r ≡ xs = same_all r xs (none_same (λ (y : Going). y.run) r xs (omega (arith, here, once))) in
        let alike : one (t x.run) ≡ one (t r) = ap (λ (q : Run). one (t q)) (sym (run_is r x.run same)) in
        omega (arith, alike, ap number gone)
    by false differs rest =
        let other : one (same_run r x.run) ≡ 0 = ap one differs in
        let less = rest (omega (arith, other, once)) (sym (ap (λ (b : Bool). b || has xs r) differs) ∙ there) in
        omega (arith, less)

pub all_counted : (xs : List Going) → number_of (λ x. true) xs ≡ length xs
all_counted [] = refl
all_counted (x ∷ xs) = omega (arith, all_counted xs)

-- how many go on when one ends
pub one_fewer : (r : Run) (xs : List Going) → number_of (λ x. same_run r x.run) xs ≤ 1 → has xs r ≡ true → length (others xs r) + 1 ≡ length xs
one_fewer r xs once there = omega (arith, one_less (λ q. true) r xs once there, all_counted xs, all_counted (others xs r))

-- what passes is still there, if it isn't that run
pub any_others : (t : Run → Bool) (r : Run) (xs : List Going) → t r ≡ false → list_any (λ x. t x.run) (others xs r) ≡ list_any (λ x. t x.run) xs
any_others t r [] miss = refl
any_others t r (x ∷ xs) miss = by (same_run r x.run) refl (any_others t r xs miss)
  where
    by : (b : Bool) → same_run r x.run ≡ b → list_any (λ x. t x.run) (others xs r) ≡ list_any (λ x. t x.run) xs
        → list_any (λ x. t x.run) (cond (not b) (x ∷ others xs r) (others xs r)) ≡ (t x.run || list_any (λ x. t x.run) xs)
    by true same rest = rest ∙ sym (ap (λ (b : Bool). b || list_any (λ x. t x.run) xs) (ap t (sym (run_is r x.run same)) ∙ miss))
    by false differs rest = ap (λ (b : Bool). t x.run || b) rest

pub names_none : (xs : List Going) (ws : List Run) → names xs ≡ ws → (xs ≡ [] → ws ≡ []) × (ws ≡ [] → xs ≡ [])
names_none [] ws e = (λ _. sym e, λ _. refl)
names_none (x ∷ xs) ws e = (λ f. absurd (omega (arith, ap length f)), λ f. absurd (omega (arith, ap length (e ∙ f))))

pub no_others : (r : Run) (xs : List Going) → has xs r ≡ false → others xs r ≡ xs
no_others r xs none = same_all r xs (none_passes (λ (x : Going). same_run r x.run) xs none)
