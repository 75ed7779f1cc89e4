-- Lists of classes, each once: all that are given are among them, and no others.
use Rattle.std.proofs.Common.{◌≡◌, ℕ, Bool, true, false, ◌||◌, List, [], ◌∷◌, ◌++◌, Option, None, cond, filter, refl, ap, ◌∙◌, map}
use Rattle.std.specs.Prelude.{fold}
use Rattle.std.specs.List.{AllByRecursion, list_any}
use Rattle.std.proofs.lemmas.List.Folds.{list_any-append}
use Rattle.cs_theorem.specs.Certificate.{Stretch}
use Rattle.cs_theorem.specs.Faults.{first_of, or_else, same_list}
use Rattle.cs_theorem.proofs.Chains.{is_same_list}
use Rattle.cs_classes.specs.StandsFor.{bare, distinct, with_list}

abbrev pub among : List ℕ → List (List ℕ) → Bool
among classes lists = list_any (λ list. same_list list classes) lists

or_true : (b : Bool) → (b || true) ≡ true
or_true true = refl
or_true false = refl

true_or : (a b : Bool) → a ≡ true → (a || b) ≡ true
true_or a b e = ap (λ (x : Bool). x || b) e

with_kept : (lists : List (List ℕ)) (one other : List ℕ) → among one lists ≡ true → among one (with_list lists other) ≡ true
with_kept lists one other h = by (among other lists)
  where
    by : (b : Bool) → among one (cond b lists (lists ++ other ∷ [])) ≡ true
    by true = h
    by false = list_any-append (λ list. same_list list one) lists (other ∷ []) ∙ true_or (among one lists) (among one (other ∷ [])) h

with_has : (lists : List (List ℕ)) (one : List ℕ) → among one (with_list lists one) ≡ true
with_has lists one = by (among one lists) refl
  where
    here : among one (one ∷ []) ≡ true
    here = ap (λ (b : Bool). b || false) (is_same_list one one refl)

    by : (b : Bool) → among one lists ≡ b → among one (cond b lists (lists ++ one ∷ [])) ≡ true
    by true e = e
    by false e = list_any-append (λ list. same_list list one) lists (one ∷ []) ∙ ap (λ (b : Bool). among one lists || b) here ∙ or_true (among one lists)

fold_kept : (more lists : List (List ℕ)) (one : List ℕ) → among one lists ≡ true → among one (fold with_list lists more) ≡ true
fold_kept [] lists one h = h
fold_kept (other ∷ more) lists one h = fold_kept more (with_list lists other) one (with_kept lists one other h)

fold_has : {X : Type 0} (g : X → List ℕ) (xs : List X) (lists : List (List ℕ)) → AllByRecursion (λ x. among (g x) (fold with_list lists (map g xs)) ≡ true) xs
fold_has g [] lists = tt
fold_has g (x ∷ xs) lists = (fold_kept (map g xs) (with_list lists (g x)) (g x) (with_has lists (g x)), fold_has g xs (with_list lists (g x)))

pub each_among : {X : Type 0} (g : X → List ℕ) (xs : List X) → AllByRecursion (λ x. among (g x) (distinct (map g xs)) ≡ true) xs
each_among g xs = fold_has g xs []

-- what is true of each list that is given is true of each that is kept
with_all : (P : List ℕ → Type 0) (lists : List (List ℕ)) (one : List ℕ) → AllByRecursion P lists → P one → AllByRecursion P (with_list lists one)
with_all P lists one h p = by (among one lists)
  where
    more : (ls : List (List ℕ)) → AllByRecursion P ls → AllByRecursion P (ls ++ one ∷ [])
    more [] h = (p, tt)
    more (l ∷ ls) h = (h.0, more ls h.1)

    by : (b : Bool) → AllByRecursion P (cond b lists (lists ++ one ∷ []))
    by true = h
    by false = more lists h

fold_all : {X : Type 0} (P : List ℕ → Type 0) (g : X → List ℕ) (xs : List X) (lists : List (List ℕ)) → AllByRecursion P lists → AllByRecursion (λ x. P (g x)) xs → AllByRecursion P (fold with_list lists (map g xs))
fold_all P g [] lists h each = h
fold_all P g (x ∷ xs) lists h each = fold_all P g xs (with_list lists (g x)) (with_all P lists (g x) h each.0) each.1

pub only_given : {X : Type 0} (P : List ℕ → Type 0) (g : X → List ℕ) (xs : List X) → AllByRecursion (λ x. P (g x)) xs → AllByRecursion P (distinct (map g xs))
only_given P g xs each = fold_all P g xs [] tt each

pub each_itself : {X : Type 0} (g : X → List ℕ) (xs : List X) → AllByRecursion (λ x. list_any (λ y. same_list (g y) (g x)) xs ≡ true) xs
each_itself {X} g xs = among_all xs xs (λ p h. h)
  where
    among_all : (ys all : List X) → ((p : X → Bool) → list_any p ys ≡ true → list_any p all ≡ true) → AllByRecursion (λ x. list_any (λ y. same_list (g y) (g x)) all ≡ true) ys
    among_all [] all part = tt
    among_all (y ∷ ys) all part = (
      part (λ z. same_list (g z) (g y)) (ap (λ (b : Bool). b || list_any (λ z. same_list (g z) (g y)) ys) (is_same_list (g y) (g y) refl)),
      among_all ys all (λ p h. part p (ap (λ (b : Bool). p y || b) h ∙ or_true (p y))),
    )

pub all_pass : (p : List ℕ → Bool) (lists : List (List ℕ)) → AllByRecursion (λ l. p l ≡ true) lists → filter (λ (s : Stretch). p s.of) (map bare lists) ≡ map bare lists
all_pass p [] h = refl
all_pass p (l ∷ ls) h = rw h.0 (ap (λ (ss : List Stretch). bare l ∷ ss) (all_pass p ls h.1))

pub none_of_each : {X Y : Type 0} (f : X → Option Y) (xs : List X) → AllByRecursion (λ x. f x ≡ None) xs → first_of f xs ≡ None
none_of_each f [] h = refl
none_of_each f (x ∷ xs) h = ap (λ (o : Option _). or_else o (first_of f xs)) h.0 ∙ none_of_each f xs h.1

pub each_made : {X Y : Type 0} (P : Y → Type 0) (f : X → Y) (xs : List X) → ((x : X) → P (f x)) → AllByRecursion P (map f xs)
each_made P f [] h = tt
each_made P f (x ∷ xs) h = (h x, each_made P f xs h)

pub none_of_kept : {X Y : Type 0} (f : X → Option Y) (p : X → Bool) (xs : List X) → AllByRecursion (λ x. f x ≡ None) xs → first_of f (filter p xs) ≡ None
none_of_kept f p [] h = refl
none_of_kept {X} {Y} f p (x ∷ xs) h = by (p x) (none_of_kept f p xs h.1)
  where
    by : (b : Bool) → first_of f (filter p xs) ≡ None → first_of f (cond b (x ∷ filter p xs) (filter p xs)) ≡ None
    by true rest = ap (λ (o : Option Y). or_else o (first_of f (filter p xs))) h.0 ∙ rest
    by false rest = rest

pub each_more : {X : Type 0} (P Q : X → Type 0) (xs : List X) → ((x : X) → P x → Q x) → AllByRecursion P xs → AllByRecursion Q xs
each_more P Q [] step h = tt
each_more P Q (x ∷ xs) step h = (step x h.0, each_more P Q xs step h.1)
