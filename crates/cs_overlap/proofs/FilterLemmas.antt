-- Lists that are filtered twice, and windows that are the same.
use Rattle.std.proofs.Common.{◌≡◌, Bool, true, false, not, ◌&&◌, ◌==◌, cond, List, [], ◌∷◌, filter, refl, ap, ◌∙◌, subst}
use Rattle.std.proofs.lemmas.Bool.{and_from, both_ways, eq-eqb}
use Rattle.cs_windows.specs.declared.window.Window.{Window}
use Rattle.cs_theorem.specs.Windows.{same_window}

within_step : {X : Type 0} (h e : X → Bool) (x : X) (xs : List X) → ((x : X) → h x ≡ true → e x ≡ true) → filter h (filter e xs) ≡ filter h xs → (a b : Bool) → h x ≡ a → e x ≡ b → filter h (cond b (x ∷ filter e xs) (filter e xs)) ≡ cond a (x ∷ filter h xs) (filter h xs)
within_step h e x xs k ih true true p q = ap (λ (c : Bool). cond c (x ∷ filter h (filter e xs)) (filter h (filter e xs))) p ∙ ap (λ (l : List _). x ∷ l) ih
within_step h e x xs k ih true false p q = absurd (both_ways (e x) q (k x p))
within_step h e x xs k ih false true p q = ap (λ (c : Bool). cond c (x ∷ filter h (filter e xs)) (filter h (filter e xs))) p ∙ ih
within_step h e x xs k ih false false p q = ih

pub filter_within : {X : Type 0} (h e : X → Bool) (xs : List X) → ((x : X) → h x ≡ true → e x ≡ true) → filter h (filter e xs) ≡ filter h xs
filter_within h e [] k = refl
filter_within h e (x ∷ xs) k = within_step h e x xs k (filter_within h e xs k) (h x) (e x) refl refl

pub not_true : (b : Bool) → not b ≡ true → b ≡ false
not_true true e = cc
not_true false e = refl

pub same_itself : (v w : Window) → v ≡ w → same_window v w ≡ true
same_itself v w e = subst (λ (u : Window). same_window v u ≡ true) e (and_from (v.job == v.job) ((v.day_back == v.day_back) && (v.from == v.from)) (eq-eqb v.job v.job refl) (and_from (v.day_back == v.day_back) (v.from == v.from) (eq-eqb v.day_back v.day_back refl) (eq-eqb v.from v.from refl)))
