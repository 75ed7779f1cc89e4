use Rattle.std.proofs.Common.{ℕ, zero, suc, ◌+◌, ◌<◌, ◌≤◌, ◌≡◌, Bool, true, false, ◌&&◌, List, take, length, get_or, slice_index, refl, ap, ◌∙◌, arith, ⊎_elim, nat_le, nat_lt, replicate}
use Rattle.std.proofs.lemmas.Bool.Decides.{leb_tells}
use Rattle.cs_history.specs.Lists.{below}
use Rattle.cs_history.proofs.Lists.{total_push}
use Rattle.cs_windows.specs.declared.window.Window.{Window}
use Rattle.cs_windows.specs.Window.{touches}
use Rattle.cs_overlap.specs.Sums.{IsRaisedAt, IsTally, HoldsFrom, up_to}
use Rattle.cs_overlap.proofs.Weights.{total_below}
use Rattle.cs_overlap.proofs.HolderLemmas.{total_held, total_other}

pub up_to_more : (table : List ℕ) (k : ℕ) → up_to table (k + 1) ≡ up_to table k + slice_index table k
up_to_more table k = total_below (slice_index table) k

-- ---- if one place is raised

module _ (old new : List ℕ) (place more : ℕ) (is : IsRaisedAt place more old new) where
  pub raised_before : (k : ℕ) → k ≤ place → up_to new k ≡ up_to old k
  raised_before zero le = refl
  raised_before (suc k) le = omega (arith, total_push (slice_index new) (below k) k, total_push (slice_index old) (below k) k, raised_before k (omega (arith, le)), is.others k (λ e. omega (arith, e, le)))

  pub raised_after : (k : ℕ) → place < k → up_to new k ≡ up_to old k + more
  raised_after zero lt = absurd (omega (arith, lt))
  raised_after (suc k) lt =
      let n = total_push (slice_index new) (below k) k in
      let o = total_push (slice_index old) (below k) k in
      ⊎_elim (λ (t : (nat_le k place ≡ true) × (k ≤ place)).
      let e : k ≡ place = omega (arith, t.1, lt) in
      omega (arith, n, o, raised_before k t.1, is.here, ap (slice_index new) e, ap (slice_index old) e))
      (λ (t : (nat_le k place ≡ false) × (place < k)). omega (arith, n, o, raised_after k t.1, is.others k (λ e. omega (arith, e, t.1))))
      (leb_tells k place)

-- ---- a window more

module _ (f : Window → ℕ) (ws : List Window) (i : ℕ) (d : Window) (lt : i < length ws) (first end number : ℕ) (range : first ≤ end) (held : HoldsFrom (get_or ws i d) first end) (is : number ≡ f (get_or ws i d))
    (begun ended more gone : List ℕ) (begins : IsRaisedAt first number begun more) (ends : IsRaisedAt end number ended gone) where
  touch : (m : ℕ) → m < 1440 → (a b : Bool) → nat_le first m ≡ a → nat_lt m end ≡ b → touches (get_or ws i d) m (m + 1) ≡ (a && b)
  touch m day a b e g = held m day ∙ (ap (λ (c : Bool). c && nat_lt m end) e ∙ ap (λ (c : Bool). a && c) g)

  pub tally_step : IsTally f (take i ws) begun ended → IsTally f (take (i + 1) ws) more gone
  tally_step was m day = ⊎_elim
      (λ (t : (nat_le first m ≡ true) × (first ≤ m)). ⊎_elim
      (λ (u : (nat_le (suc m) end ≡ true) × (suc m ≤ end)).
      omega (
        arith,
        was m day,
        is,
        raised_after begun more first number begins (m + 1) (omega (arith, t.1)),
        raised_before ended gone end number ends (m + 1) (omega (arith, u.1)),
        total_held f ws i d m lt (touch m day true true t.0 u.0),
      ))
      (λ (u : (nat_le (suc m) end ≡ false) × (end < suc m)).
      omega (
        arith,
        was m day,
        is,
        raised_after begun more first number begins (m + 1) (omega (arith, t.1)),
        raised_after ended gone end number ends (m + 1) (omega (arith, u.1)),
        total_other f ws i d m lt (touch m day true false t.0 u.0),
      ))
      (leb_tells (suc m) end))
      (λ (t : (nat_le first m ≡ false) × (m < first)).
      omega (
        arith,
        was m day,
        raised_before begun more first number begins (m + 1) (omega (arith, t.1)),
        raised_before ended gone end number ends (m + 1) (omega (arith, t.1, range)),
        total_other f ws i d m lt (held m day ∙ ap (λ (c : Bool). c && nat_lt m end) t.0),
      ))
      (leb_tells first m)

-- ---- no window

pub none_at : (n k : ℕ) → slice_index (replicate n 0) k ≡ 0
none_at zero k = refl
none_at (suc n) zero = refl
none_at (suc n) (suc k) = none_at n k

pub none_up_to : (n k : ℕ) → up_to (replicate n 0) k ≡ 0
none_up_to n zero = refl
none_up_to n (suc k) = omega (arith, total_push (slice_index (replicate n 0)) (below k) k, none_up_to n k, none_at n k)
