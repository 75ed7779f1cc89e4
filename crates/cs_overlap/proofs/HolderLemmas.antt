use Rattle.std.proofs.Common.{ℕ, ◌+◌, ◌<◌, ◌≡◌, max, min, Bool, true, false, cond, List, [], ◌∷◌, ◌++◌, take, length, get_or, slice_index, refl, ap, ◌∙◌, arith, replicate}
use Rattle.std.proofs.lemmas.List.{get_or-replicate}
use Rattle.std.proofs.lemmas.List.Elements.{filter_more}
use Rattle.cs_history.specs.Lists.{total, greatest}
use Rattle.cs_windows.specs.declared.window.Window.{Window}
use Rattle.cs_windows.specs.Window.{touches}
use Rattle.cs_theorem.specs.Windows.{holders}
use Rattle.cs_overlap.specs.Sums.{IsSum, IsGreatest}

total_append : {X : Type 0} (f : X → ℕ) (xs ys : List X) → total f (xs ++ ys) ≡ total f xs + total f ys
total_append f [] ys = omega arith
total_append f (x ∷ xs) ys = omega (arith, total_append f xs ys)

greatest_append : {X : Type 0} (f : X → ℕ) (xs ys : List X) → greatest f (xs ++ ys) ≡ max (greatest f xs) (greatest f ys)
greatest_append f [] ys = omega arith
greatest_append f (x ∷ xs) ys = omega (arith, greatest_append f xs ys)

module _ (f : Window → ℕ) (ws : List Window) (i : ℕ) (d : Window) (m : ℕ) (lt : i < length ws) where
  abbrev held : Bool → List Window
  held b = cond b (get_or ws i d ∷ []) []

  more : (b : Bool) → touches (get_or ws i d) m (m + 1) ≡ b → holders m (take (i + 1) ws) ≡ holders m (take i ws) ++ held b
  more b e = filter_more (λ w. touches w m (m + 1)) ws i d lt ∙ ap (λ (c : Bool). holders m (take i ws) ++ held c) e

  pub total_held : touches (get_or ws i d) m (m + 1) ≡ true → total f (holders m (take (i + 1) ws)) ≡ total f (holders m (take i ws)) + f (get_or ws i d)
  total_held e = omega (arith, ap (total f) (more true e), total_append f (holders m (take i ws)) (held true))

  pub total_other : touches (get_or ws i d) m (m + 1) ≡ false → total f (holders m (take (i + 1) ws)) ≡ total f (holders m (take i ws))
  total_other e = omega (arith, ap (total f) (more false e), total_append f (holders m (take i ws)) (held false))

  pub greatest_held : touches (get_or ws i d) m (m + 1) ≡ true → greatest f (holders m (take (i + 1) ws)) ≡ max (greatest f (holders m (take i ws))) (f (get_or ws i d))
  greatest_held e = omega (arith, ap (greatest f) (more true e), greatest_append f (holders m (take i ws)) (held true))

  pub greatest_other : touches (get_or ws i d) m (m + 1) ≡ false → greatest f (holders m (take (i + 1) ws)) ≡ greatest f (holders m (take i ws))
  greatest_other e = omega (arith, ap (greatest f) (more false e), greatest_append f (holders m (take i ws)) (held false))

module _ (f : Window → ℕ) (ws : List Window) (i : ℕ) (d : Window) (lt : i < length ws) (old new : List ℕ) where
  sum_at : (m : ℕ) → slice_index old m ≡ min (total f (holders m (take i ws))) 65535 → (b : Bool) → touches (get_or ws i d) m (m + 1) ≡ b
      → (b ≡ true → slice_index new m ≡ min (slice_index old m + f (get_or ws i d)) 65535) → (b ≡ false → slice_index new m ≡ slice_index old m)
      → slice_index new m ≡ min (total f (holders m (take (i + 1) ws))) 65535
  sum_at m was true e held other = omega (arith, was, held refl, total_held f ws i d m lt e)
  sum_at m was false e held other = omega (arith, was, other refl, total_other f ws i d m lt e)

  pub sum_step : IsSum f (take i ws) old
      → ((m : ℕ) → m < 1440 → touches (get_or ws i d) m (m + 1) ≡ true → slice_index new m ≡ min (slice_index old m + f (get_or ws i d)) 65535)
      → ((m : ℕ) → m < 1440 → touches (get_or ws i d) m (m + 1) ≡ false → slice_index new m ≡ slice_index old m)
      → IsSum f (take (i + 1) ws) new
  sum_step was held other m day = sum_at m (was m day) (touches (get_or ws i d) m (m + 1)) refl (held m day) (other m day)

  greatest_now : (m : ℕ) → slice_index old m ≡ greatest f (holders m (take i ws)) → (b : Bool) → touches (get_or ws i d) m (m + 1) ≡ b
      → (b ≡ true → slice_index new m ≡ max (slice_index old m) (f (get_or ws i d))) → (b ≡ false → slice_index new m ≡ slice_index old m)
      → slice_index new m ≡ greatest f (holders m (take (i + 1) ws))
  greatest_now m was true e held other = omega (arith, was, held refl, greatest_held f ws i d m lt e)
  greatest_now m was false e held other = omega (arith, was, other refl, greatest_other f ws i d m lt e)

  pub greatest_step : IsGreatest f (take i ws) old
      → ((m : ℕ) → m < 1440 → touches (get_or ws i d) m (m + 1) ≡ true → slice_index new m ≡ max (slice_index old m) (f (get_or ws i d)))
      → ((m : ℕ) → m < 1440 → touches (get_or ws i d) m (m + 1) ≡ false → slice_index new m ≡ slice_index old m)
      → IsGreatest f (take (i + 1) ws) new
  greatest_step was held other m day = greatest_now m (was m day) (touches (get_or ws i d) m (m + 1)) refl (held m day) (other m day)

pub none : (m : ℕ) → m < 1440 → slice_index (replicate 1440 0) m ≡ 0
none m lt = get_or-replicate 1440 m 0 0 lt
