-- What the numbers of windows at a minute mean for the three rules there.
use Rattle.std.proofs.Common.{ℕ, ◌+◌, ◌<◌, ◌≤◌, ◌≡◌, max, Bool, true, false, not, ◌&&◌, ◌||◌, cond, if◌then◌else◌, List, [], ◌∷◌, filter, Option, None, Some, refl, sym, ap, ◌∙◌, subst, arith, ⊎_elim, ◌⊎◌, ◌==◌, slice_index, is_some}
use Rattle.std.specs.List.{AllByRecursion}
use Rattle.std.proofs.lemmas.Bool.{and_parts, both_ways, false_from_ne_true, eq-eqb, eqb-true}
use Rattle.cs_history.specs.declared.mode.Mode.{Mode}
use Rattle.cs_history.specs.declared.mode.Mode.TheVariants.{Plain, Skip, Try, Wait, Shared}
use Rattle.cs_history.specs.Lists.{total, greatest, EachPair}
use Rattle.cs_history.specs.Plan.{takes, shares_in, is_group, is_skip}
use Rattle.cs_history.proofs.Lists.{all_map, all_any, all-filter, pairs-filter}
use Rattle.cs_windows.specs.declared.window.Window.{Window}
use Rattle.cs_windows.specs.Window.{touches}
use Rattle.cs_windows.proofs.Members.{Has, has_filter, filter_has}
use Rattle.cs_theorem.specs.Windows.{same_window, holders}
use Rattle.cs_theorem.proofs.Elements.{all_has, pair_has}
use Rattle.cs_theorem.proofs.Says.{all_from_has}
use Rattle.cs_overlap.specs.declared.role.Role.{Role}
use Rattle.cs_overlap.specs.declared.table.Amount.TheVariants.{FreeWeight, CatchWeight, AloneWeight, SharedWeight, OwnWeight, Run, PlainRun, CronRun, LockRun}
use Rattle.cs_overlap.specs.Roles.{role_at, share_group, roles_clash, alone_weight, shared_weight, catch_weight, group_weight}
use Rattle.cs_overlap.specs.Found.{role_blocks}
use Rattle.cs_overlap.specs.Sums.{amount_in, is_of, AreGrouped, AreApartBy, AreFreeBy, AreWithinBy, has_group_or_catches, IsSum, IsGreatest, IsGreaterAdded, IsLone, Locks, IsCaught, IsLoad, IsAdded}
use Rattle.cs_overlap.proofs.MostWeights.{own_most}
use Rattle.cs_overlap.proofs.FilterLemmas.{same_itself, not_true, filter_within}
use Rattle.cs_overlap.proofs.Weights.{total_below}

-- ---- lists

swap_step : {X : Type 0} (p q : X → Bool) (x : X) (xs : List X) → filter p (filter q xs) ≡ filter q (filter p xs) → (a b : Bool) → p x ≡ a → q x ≡ b
    → filter p (cond b (x ∷ filter q xs) (filter q xs)) ≡ filter q (cond a (x ∷ filter p xs) (filter p xs))
swap_step p q x xs ih true true e f = ap (λ (c : Bool). cond c (x ∷ filter p (filter q xs)) (filter p (filter q xs))) e ∙ (ap (λ (l : List _). x ∷ l) ih ∙ sym (ap (λ (c : Bool). cond c (x ∷ filter q (filter p xs)) (filter q (filter p xs))) f))
swap_step p q x xs ih true false e f = ih ∙ sym (ap (λ (c : Bool). cond c (x ∷ filter q (filter p xs)) (filter q (filter p xs))) f)
swap_step p q x xs ih false true e f = ap (λ (c : Bool). cond c (x ∷ filter p (filter q xs)) (filter p (filter q xs))) e ∙ ih
swap_step p q x xs ih false false e f = ih

pub filter_swap : {X : Type 0} (p q : X → Bool) (xs : List X) → filter p (filter q xs) ≡ filter q (filter p xs)
filter_swap p q [] = refl
filter_swap p q (x ∷ xs) = swap_step p q x xs (filter_swap p q xs) (p x) (q x) refl refl

module _ {X : Type 0} (q : X → Bool) (f h : X → ℕ) (counts : (x : X) → f x ≡ (if q x then h x else 0)) where
  total_step : (x : X) (xs : List X) → total h (filter q xs) ≡ total f xs → (b : Bool) → f x ≡ (if b then h x else 0) → total h (cond b (x ∷ filter q xs) (filter q xs)) ≡ f x + total f xs
  total_step x xs ih true e = omega (arith, ih, e)
  total_step x xs ih false e = omega (arith, ih, e)

  pub total_part : (xs : List X) → total h (filter q xs) ≡ total f xs
  total_part [] = refl
  total_part (x ∷ xs) = total_step x xs (total_part xs) (q x) (counts x)

  greatest_step : (x : X) (xs : List X) → greatest h (filter q xs) ≡ greatest f xs → (b : Bool) → f x ≡ (if b then h x else 0) → greatest h (cond b (x ∷ filter q xs) (filter q xs)) ≡ max (f x) (greatest f xs)
  greatest_step x xs ih true e = omega (arith, ih, e)
  greatest_step x xs ih false e = omega (arith, ih, e)

  pub greatest_part : (xs : List X) → greatest h (filter q xs) ≡ greatest f xs
  greatest_part [] = refl
  greatest_part (x ∷ xs) = greatest_step x xs (greatest_part xs) (q x) (counts x)

pub pairs_of : {X : Type 0} (P : X → Type 0) (R : X → X → Type 0) (xs : List X) → ((x y : X) → P x → P y → R x y) → AllByRecursion P xs → EachPair R xs
pairs_of P R [] h a = tt
pairs_of P R (x ∷ xs) h a = (all_map P (R x) xs (λ y p. h x y a.0 p) a.1, pairs_of P R xs h a.1)

none_counts : {X : Type 0} (t : X → Bool) (xs : List X) → total (λ x. if t x then 1 else 0) xs ≡ 0 → AllByRecursion (λ x. t x ≡ false) xs
none_counts t [] e = tt
none_counts t (x ∷ xs) e = (here (t x) (total (λ x. if t x then 1 else 0) xs) e, none_counts t xs (omega (arith, e)))
  where
    here : (b : Bool) (n : ℕ) → (if b then 1 else 0) + n ≡ 0 → b ≡ false
    here true n e = absurd (omega (arith, e))
    here false n e = refl

lone : {X : Type 0} (t : X → Bool) (xs : List X) → total (λ x. if t x then 1 else 0) xs ≤ 1 → EachPair (λ x y. (t x && t y) ≡ false) xs
lone t [] le = tt
lone t (x ∷ xs) le = (first (t x) le, lone t xs (omega (arith, le)))
  where
    first : (b : Bool) → (if b then 1 else 0) + total (λ x. if t x then 1 else 0) xs ≤ 1 → AllByRecursion (λ y. (b && t y) ≡ false) xs
    first true le = none_counts t xs (omega (arith, le))
    first false le = all_any (λ y. (false && t y) ≡ false) xs (λ y. refl)

-- ---- what the windows of a group weigh

alone_parts : (t q s : Bool) (k : ℕ) → (if (t && q) && not s then k else 0) ≡ (if q then (if t && not s then k else 0) else 0)
alone_parts true true s k = refl
alone_parts true false s k = refl
alone_parts false true s k = refl
alone_parts false false s k = refl

shared_parts : (t q s : Bool) (k : ℕ) → (if (t && q) && s then k else 0) ≡ (if q then (if t && s then k else 0) else 0)
shared_parts true true s k = refl
shared_parts true false s k = refl
shared_parts false true s k = refl
shared_parts false false s k = refl

module _ (roles : List Role) where
  pub group_is : (g : ℕ) (xs : List Window) → group_weight roles xs g ≡ max (greatest (amount_in roles AloneWeight) (filter (is_of roles g) xs)) (total (amount_in roles SharedWeight) (filter (is_of roles g) xs))
  group_is g xs =
      let role = λ (w : Window). role_at roles w.job in
      let a = greatest_part (is_of roles g) (alone_weight roles g) (amount_in roles AloneWeight) (λ w. alone_parts (takes (role w).mode) (is_of roles g w) (shares_in (role w).mode) (role w).weight) xs in
      let s = total_part (is_of roles g) (shared_weight roles g) (amount_in roles SharedWeight) (λ w. shared_parts (takes (role w).mode) (is_of roles g w) (shares_in (role w).mode) (role w).weight) xs in
      omega (arith, a, s)

  -- ---- clashes

  abbrev Apart : Window → Window → Type 0
  Apart v w = roles_clash (role_at roles v.job) (role_at roles w.job) ≡ false

  and_false : (a : Bool) → (a && false) ≡ false
  and_false true = refl
  and_false false = refl

  both_take : (a c t u : Bool) → t ≡ true → u ≡ true → (a && (c && not (t && u))) ≡ false
  both_take a c t u e f = ap (λ (b : Bool). a && (c && not (b && u))) e ∙ (ap (λ (b : Bool). a && (c && not b)) f ∙ (ap (λ (b : Bool). a && b) (and_false c) ∙ and_false a))

  neither_cron : (a c d n : Bool) → c ≡ false → d ≡ false → (a && ((c || d) && n)) ≡ false
  neither_cron a c d n e f = ap (λ (b : Bool). a && ((b || d) && n)) e ∙ (ap (λ (b : Bool). a && (b && n)) f ∙ and_false a)

  apart_takers : (v w : Window) → takes (role_at roles v.job).mode ≡ true → takes (role_at roles w.job).mode ≡ true → Apart v w
  apart_takers v w = both_take ((role_at roles v.job).is_exclusive && share_group (role_at roles v.job) (role_at roles w.job)) ((role_at roles v.job).is_cron || (role_at roles w.job).is_cron) (takes (role_at roles v.job).mode) (takes (role_at roles w.job).mode)

  apart_catch : (v w : Window) → (role_at roles v.job).is_cron ≡ false → (role_at roles w.job).is_cron ≡ false → Apart v w
  apart_catch v w = neither_cron ((role_at roles v.job).is_exclusive && share_group (role_at roles v.job) (role_at roles w.job)) (role_at roles v.job).is_cron (role_at roles w.job).is_cron (not (takes (role_at roles v.job).mode && takes (role_at roles w.job).mode))

  pub apart_one : (xs : List Window) → total (amount_in roles Run) xs ≤ 1 → EachPair Apart xs
  apart_one [] le = tt
  apart_one (x ∷ []) le = (tt, tt)
  apart_one (x ∷ y ∷ xs) le = absurd (omega (arith, le))

  not_false : (b : Bool) → not b ≡ false → b ≡ true
  not_false true e = refl
  not_false false e = cc

  pub apart_no_plain : (xs : List Window) → total (amount_in roles PlainRun) xs ≡ 0 → EachPair Apart xs
  apart_no_plain xs e = pairs_of (λ w. not (takes (role_at roles w.job).mode) ≡ false) Apart xs (λ v w p q. apart_takers v w (not_false (takes (role_at roles v.job).mode) p) (not_false (takes (role_at roles w.job).mode) q)) (none_counts (λ w. not (takes (role_at roles w.job).mode)) xs e)

  pub apart_no_cron : (xs : List Window) → total (amount_in roles CronRun) xs ≡ 0 → EachPair Apart xs
  apart_no_cron xs e = pairs_of (λ w. (role_at roles w.job).is_cron ≡ false) Apart xs apart_catch (none_counts (λ w. (role_at roles w.job).is_cron) xs e)

  pub apart_not_exclusive : (xs : List Window) → AllByRecursion (λ w. (role_at roles w.job).is_exclusive ≡ false) xs → EachPair Apart xs
  apart_not_exclusive xs a = pairs_of (λ w. (role_at roles w.job).is_exclusive ≡ false) Apart xs (λ v w p q. ap (λ (b : Bool). (b && share_group (role_at roles v.job) (role_at roles w.job)) && (((role_at roles v.job).is_cron || (role_at roles w.job).is_cron) && not (takes (role_at roles v.job).mode && takes (role_at roles w.job).mode))) p) a

  -- ---- skip jobs

  skip_takes : (mode : Mode) → is_skip mode ≡ true → takes mode ≡ true
  skip_takes Plain e = cc
  skip_takes Skip e = refl
  skip_takes Try e = refl
  skip_takes Wait e = refl
  skip_takes Shared e = refl

  abbrev Due : ℕ → Window → Bool
  Due m v = is_skip (role_at roles v.job).mode && ((v.day_back == 0) && (v.from == m))

  pub free_at : (m : ℕ) (xs : List Window) → ((v : Window) → Has xs v → Due m v ≡ true → total (amount_in roles LockRun) xs ≤ 1) → AllByRecursion (λ v. AllByRecursion (λ w. role_blocks roles m v w ≡ false) xs) xs
  free_at m xs few = all_from_has (λ v. AllByRecursion (λ w. role_blocks roles m v w ≡ false) xs) xs (λ v hv. all_from_has (λ w. role_blocks roles m v w ≡ false) xs (λ w hw.
      false_from_ne_true (role_blocks roles m v w) (λ e.
      let t = λ (u : Window). takes (role_at roles u.job).mode in
      let x = and_parts (Due m v) (not (same_window v w) && (t w && share_group (role_at roles v.job) (role_at roles w.job))) e in
      let y = and_parts (not (same_window v w)) (t w && share_group (role_at roles v.job) (role_at roles w.job)) x.1 in
      let z = and_parts (t w) (share_group (role_at roles v.job) (role_at roles w.job)) y.1 in
      let s = and_parts (is_skip (role_at roles v.job).mode) ((v.day_back == 0) && (v.from == m)) x.0 in
      let tv : t v ≡ true = skip_takes (role_at roles v.job).mode s.0 in
      let no : v ≡ w → ⊥ = λ q. both_ways (same_window v w) (not_true (same_window v w) y.0) (same_itself v w q) in
      let both : (a b : Bool) → a ≡ true → b ≡ true → (a && b) ≡ false → ⊥ = λ a b p q r. both_ways (a && b) r (ap (λ (c : Bool). c && b) p ∙ q) in
      ⊎_elim (λ (r : (t v && t w) ≡ false). both (t v) (t w) tv z.0 r) (λ (r : (t w && t v) ≡ false). both (t w) (t v) z.0 tv r)
      (pair_has (λ v w. (t v && t w) ≡ false) xs v w (lone t xs (few v hv x.0)) hv hw no))))

  -- ---- from each group to all windows

  pub in_group : (one other : Role) (o : Option ℕ) → one.group ≡ o → share_group one other ≡ true → (g : ℕ) × (one.group ≡ Some g) × (is_group g other.group ≡ true)
  in_group one other None e s = absurd (let f : share_group one other ≡ false = ap (λ (o : Option ℕ). elim o [ None ↦ false | Some g ↦ is_group g other.group ]) e in both_ways (share_group one other) f s)
  in_group one other (Some g) e s = (g, e, sym (ap (λ (o : Option ℕ). elim o [ None ↦ false | Some g ↦ is_group g other.group ]) e) ∙ s)

  own_group : (v : Window) (g : ℕ) → (role_at roles v.job).group ≡ Some g → is_of roles g v ≡ true
  own_group v g e = ap (λ (o : Option ℕ). is_group g o) e ∙ eq-eqb g g refl

  has_of : (g : ℕ) (o : Option ℕ) → is_group g o ≡ true → is_some o ≡ true
  has_of g None e = cc
  has_of g (Some h) e = refl

  or_true : (a : Bool) → (a || true) ≡ true
  or_true true = refl
  or_true false = refl

  pub of_grouped : (g : ℕ) (ws : List Window) → filter (is_of roles g) (filter (has_group_or_catches roles) ws) ≡ filter (is_of roles g) ws
  of_grouped g ws = filter_within (is_of roles g) (has_group_or_catches roles) ws
      (λ w e. ap (λ (b : Bool). not (role_at roles w.job).is_cron || b) (has_of g (role_at roles w.job).group e) ∙ or_true (not (role_at roles w.job).is_cron))

  pub free_all : (n m : ℕ) (xs : List Window) → AreGrouped roles n → ((g : ℕ) → g < n → AllByRecursion (λ v. AllByRecursion (λ w. role_blocks roles m v w ≡ false) (filter (is_of roles g) xs)) (filter (is_of roles g) xs)) → AllByRecursion (λ v. AllByRecursion (λ w. role_blocks roles m v w ≡ false) xs) xs
  free_all n m xs grouped each = all_from_has (λ v. AllByRecursion (λ w. role_blocks roles m v w ≡ false) xs) xs (λ v hv. all_from_has (λ w. role_blocks roles m v w ≡ false) xs (λ w hw.
      false_from_ne_true (role_blocks roles m v w) (λ e.
      let t = takes (role_at roles w.job).mode in
      let x = and_parts (Due m v) (not (same_window v w) && (t && share_group (role_at roles v.job) (role_at roles w.job))) e in
      let y = and_parts (not (same_window v w)) (t && share_group (role_at roles v.job) (role_at roles w.job)) x.1 in
      let z = and_parts t (share_group (role_at roles v.job) (role_at roles w.job)) y.1 in
      let g = in_group (role_at roles v.job) (role_at roles w.job) (role_at roles v.job).group refl z.1 in
      let vs = all_has (λ v. AllByRecursion (λ w. role_blocks roles m v w ≡ false) (filter (is_of roles g.0) xs)) (filter (is_of roles g.0) xs) v (each g.0 (grouped v.job g.0 g.1)) (has_filter (is_of roles g.0) xs v hv (own_group v g.0 g.1)) in
      both_ways (role_blocks roles m v w) (all_has (λ w. role_blocks roles m v w ≡ false) (filter (is_of roles g.0) xs) w vs (has_filter (is_of roles g.0) xs w hw g.2)) e)))

  head_pairs : (n : ℕ) (x : Window) (xs : List Window) → AreGrouped roles n → ((g : ℕ) → g < n → EachPair Apart (filter (is_of roles g) (x ∷ xs))) → AllByRecursion (Apart x) xs
  head_pairs n x xs grouped each = all_from_has (Apart x) xs (λ y hy.
      false_from_ne_true (roles_clash (role_at roles x.job) (role_at roles y.job)) (λ e.
      let one = role_at roles x.job in
      let other = role_at roles y.job in
      let p = and_parts (one.is_exclusive && share_group one other) ((one.is_cron || other.is_cron) && not (takes one.mode && takes other.mode)) e in
      let g = in_group one other one.group refl (and_parts one.is_exclusive (share_group one other) p.0).1 in
      let here : EachPair Apart (cond (is_of roles g.0 x) (x ∷ filter (is_of roles g.0) xs) (filter (is_of roles g.0) xs)) = each g.0 (grouped x.job g.0 g.1) in
      let all : EachPair Apart (x ∷ filter (is_of roles g.0) xs) = subst (λ (b : Bool). EachPair Apart (cond b (x ∷ filter (is_of roles g.0) xs) (filter (is_of roles g.0) xs))) (own_group x g.0 g.1) here in
      both_ways (roles_clash one other) (all_has (Apart x) (filter (is_of roles g.0) xs) y all.0 (has_filter (is_of roles g.0) xs y hy g.2)) e))

  tail_pairs : (b : Bool) (x : Window) (ys : List Window) → EachPair Apart (cond b (x ∷ ys) ys) → EachPair Apart ys
  tail_pairs true x ys e = e.1
  tail_pairs false x ys e = e

  pub apart_all : (n : ℕ) (xs : List Window) → AreGrouped roles n → ((g : ℕ) → g < n → EachPair Apart (filter (is_of roles g) xs)) → EachPair Apart xs
  apart_all n [] grouped each = tt
  apart_all n (x ∷ xs) grouped each = (head_pairs n x xs grouped each, apart_all n xs grouped (λ g lt. tail_pairs (is_of roles g x) x (filter (is_of roles g) xs) (each g lt)))

  -- ---- the day looked at

  pub apart_day : (end : ℕ) (ws : List Window) (runs plain cron : List ℕ) → IsSum (amount_in roles Run) ws runs → IsSum (amount_in roles PlainRun) ws plain → IsSum (amount_in roles CronRun) ws cron → end ≤ 1440
      → ((m : ℕ) → m < end → (slice_index runs m ≤ 1) ⊎ ((slice_index plain m ≡ 0) ⊎ (slice_index cron m ≡ 0))) → AreApartBy end roles ws
  apart_day end ws runs plain cron r p c le each m lt =
      let day : m < 1440 = omega (arith, lt, le) in
      ⊎_elim (λ (h : slice_index runs m ≤ 1). apart_one (holders m ws) (omega (arith, h, r m day)))
      (λ (h : (slice_index plain m ≡ 0) ⊎ (slice_index cron m ≡ 0)). ⊎_elim (λ (k : slice_index plain m ≡ 0). apart_no_plain (holders m ws) (omega (arith, k, p m day))) (λ (k : slice_index cron m ≡ 0). apart_no_cron (holders m ws) (omega (arith, k, c m day))) h)
      (each m lt)

  pub apart_none : (end : ℕ) (ws : List Window) → AllByRecursion (λ w. (role_at roles w.job).is_exclusive ≡ false) ws → AreApartBy end roles ws
  apart_none end ws all m lt = apart_not_exclusive (holders m ws) (all-filter (λ w. (role_at roles w.job).is_exclusive ≡ false) (λ w. touches w m (m + 1)) ws all)

  apart_locks : (v w : Window) → Locks roles v → Locks roles w → Apart v w
  apart_locks v w p q = false_from_ne_true (roles_clash (role_at roles v.job) (role_at roles w.job)) (λ e.
      let one = role_at roles v.job in
      let other = role_at roles w.job in
      let x = and_parts (one.is_exclusive && share_group one other) ((one.is_cron || other.is_cron) && not (takes one.mode && takes other.mode)) e in
      let g = in_group one other one.group refl (and_parts one.is_exclusive (share_group one other) x.0).1 in
      both_ways (roles_clash one other) (apart_takers v w (p (ap (λ (o : Option ℕ). is_some o) g.1)) (q (has_of g.0 other.group g.2))) e)

  pub apart_lockers : (end : ℕ) (ws : List Window) → AllByRecursion (Locks roles) ws → AreApartBy end roles ws
  apart_lockers end ws all m lt = pairs_of (Locks roles) Apart (holders m ws) apart_locks (all-filter (Locks roles) (λ w. touches w m (m + 1)) ws all)

  pub free_none : (end : ℕ) (ws : List Window) → AllByRecursion (λ w. is_skip (role_at roles w.job).mode ≡ false) ws → AreFreeBy end roles ws
  free_none end ws all m lt = all_map (λ v. is_skip (role_at roles v.job).mode ≡ false) (λ v. AllByRecursion (λ w. role_blocks roles m v w ≡ false) (holders m ws)) (holders m ws)
      (λ v e. all_any (λ w. role_blocks roles m v w ≡ false) (holders m ws) (λ w. ap (λ (b : Bool). (b && ((v.day_back == 0) && (v.from == m))) && (not (same_window v w) && (takes (role_at roles w.job).mode && share_group (role_at roles v.job) (role_at roles w.job)))) e))
      (all-filter (λ w. is_skip (role_at roles w.job).mode ≡ false) (λ w. touches w m (m + 1)) ws all)

  pub free_day : (end : ℕ) (ws : List Window) (takers : List ℕ) → IsSum (amount_in roles LockRun) ws takers → end ≤ 1440 → AllByRecursion (IsLone end roles takers) ws → AreFreeBy end roles ws
  free_day end ws takers sum le all m lt = free_at m (holders m ws) (λ v hv due.
      let s = and_parts (is_skip (role_at roles v.job).mode) ((v.day_back == 0) && (v.from == m)) due in
      let t = and_parts (v.day_back == 0) (v.from == m) s.1 in
      let at : v.from ≡ m = eqb-true v.from m t.1 in
      let few : slice_index takers v.from ≤ 1 = all_has (IsLone end roles takers) ws v all (filter_has (λ w. touches w m (m + 1)) ws v hv).0 s.0 (eqb-true v.day_back 0 t.0) (omega (arith, at, lt)) in
      omega (arith, few, sum m (omega (arith, lt, le)), ap (λ (k : ℕ). slice_index takers k) at))

  swapped : (g m : ℕ) (ws : List Window) → holders m (filter (is_of roles g) ws) ≡ filter (is_of roles g) (holders m ws)
  swapped g m ws = filter_swap (λ w. touches w m (m + 1)) (is_of roles g) ws

  catch_counts : (c b : Bool) (k : ℕ) → (if not c then k else 0) ≡ (if not c || b then (if not c then k else 0) else 0)
  catch_counts true true k = refl
  catch_counts true false k = refl
  catch_counts false b k = refl

  pub catch_among : (m : ℕ) (ws : List Window) → greatest (amount_in roles CatchWeight) (holders m (filter (has_group_or_catches roles) ws)) ≡ greatest (catch_weight roles) (holders m ws)
  catch_among m ws = ap (greatest (amount_in roles CatchWeight)) (filter_swap (λ w. touches w m (m + 1)) (has_group_or_catches roles) ws)
      ∙ greatest_part (has_group_or_catches roles) (catch_weight roles) (amount_in roles CatchWeight) (λ w. catch_counts (role_at roles w.job).is_cron (is_some (role_at roles w.job).group) (role_at roles w.job).weight) (holders m ws)

  pub caught_from : (ws : List Window) (old catch new : List ℕ) → IsGreatest (amount_in roles CatchWeight) (filter (has_group_or_catches roles) ws) catch → IsGreaterAdded catch catch old new → IsCaught roles ws old new
  caught_from ws old catch new c added m lt = omega (arith, c m lt, added m lt, catch_among m ws)

  pub load_from : (ws : List Window) (free load : List ℕ) → IsSum (amount_in roles FreeWeight) ws free → IsCaught roles ws free load → IsLoad roles ws 0 load
  load_from ws free load f caught m lt = omega (arith, f m lt, caught m lt)

  pub within_own : (end n capacity : ℕ) (ws : List Window) (own all : List ℕ) → capacity < 65535 → end ≤ 1440 → IsSum (amount_in roles OwnWeight) ws own → IsCaught roles ws own all → ((m : ℕ) → m < end → slice_index all m ≤ capacity) → AreWithinBy end roles n capacity ws
  within_own end n capacity ws own all small le sum caught fits m lt =
      let day : m < 1440 = omega (arith, lt, le) in
      omega (arith, sum m day, caught m day, fits m lt, own_most roles n (holders m ws), small)

  pub apart_groups : (end n : ℕ) (ws : List Window) → AreGrouped roles n → ((g : ℕ) → g < n → AreApartBy end roles (filter (is_of roles g) ws)) → AreApartBy end roles ws
  apart_groups end n ws grouped each m lt = apart_all n (holders m ws) grouped (λ g gl. subst (λ (xs : List Window). EachPair Apart xs) (swapped g m ws) (each g gl m lt))

  pub free_groups : (end n : ℕ) (ws : List Window) → AreGrouped roles n → ((g : ℕ) → g < n → AreFreeBy end roles (filter (is_of roles g) ws)) → AreFreeBy end roles ws
  free_groups end n ws grouped each m lt = free_all n m (holders m ws) grouped (λ g gl. subst (λ (xs : List Window). AllByRecursion (λ v. AllByRecursion (λ w. role_blocks roles m v w ≡ false) xs) xs) (swapped g m ws) (each g gl m lt))

  pub load_on : (g : ℕ) (ws : List Window) (old new : List ℕ) → IsLoad roles ws g old → IsAdded roles (filter (is_of roles g) ws) old new → IsLoad roles ws (g + 1) new
  load_on g ws old new was added m lt =
      let held = holders m ws in
      let here = group_is g held in
      let a = ap (greatest (amount_in roles AloneWeight)) (swapped g m ws) in
      let s = ap (total (amount_in roles SharedWeight)) (swapped g m ws) in
      omega (arith, total_below (group_weight roles held) g, here, a, s, was m lt, added m lt)

  -- ---- all groups at once

  pub apart_others : (end n : ℕ) (ws : List Window) → AreGrouped roles n → AreApartBy end roles (filter (has_group_or_catches roles) ws) → AreApartBy end roles ws
  apart_others end n ws grouped all = apart_groups end n ws grouped (λ g gl m lt.
      let others = filter (has_group_or_catches roles) ws in
      subst (λ (xs : List Window). EachPair Apart (holders m xs)) (of_grouped g ws)
      (subst (λ (xs : List Window). EachPair Apart xs) (sym (swapped g m others)) (pairs-filter Apart (is_of roles g) (holders m others) (all m lt))))

  abbrev Free : ℕ → List Window → List Window → Type 0
  Free m xs vs = AllByRecursion (λ v. AllByRecursion (λ w. role_blocks roles m v w ≡ false) xs) vs

  part_free : (m g : ℕ) (xs : List Window) → Free m xs xs → Free m (filter (is_of roles g) xs) (filter (is_of roles g) xs)
  part_free m g xs all = all_map (λ v. AllByRecursion (λ w. role_blocks roles m v w ≡ false) xs) (λ v. AllByRecursion (λ w. role_blocks roles m v w ≡ false) (filter (is_of roles g) xs)) (filter (is_of roles g) xs)
      (λ v a. all-filter (λ w. role_blocks roles m v w ≡ false) (is_of roles g) xs a)
      (all-filter (λ v. AllByRecursion (λ w. role_blocks roles m v w ≡ false) xs) (is_of roles g) xs all)

  pub free_others : (end n : ℕ) (ws : List Window) → AreGrouped roles n → AreFreeBy end roles (filter (has_group_or_catches roles) ws) → AreFreeBy end roles ws
  free_others end n ws grouped all = free_groups end n ws grouped (λ g gl m lt.
      let others = filter (has_group_or_catches roles) ws in
      subst (λ (xs : List Window). Free m (holders m xs) (holders m xs)) (of_grouped g ws)
      (subst (λ (xs : List Window). Free m xs xs) (sym (swapped g m others)) (part_free m g (holders m others) (all m lt))))
