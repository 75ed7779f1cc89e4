use Rattle.std.proofs.Common.{ℕ, zero, suc, ◌+◌, ◌-◌, ◌*◌, ◌%◌, ◌<◌, ◌≤◌, ◌≡◌, ◌==◌, ◌&&◌, not, max, min, Bool, true, false, cond, List, [], ◌∷◌, map, length, Contains, refl, sym, ap, ◌∙◌, subst, arith, if◌then◌else◌, ⊎_elim}
use Rattle.std.specs.List.{AllByRecursion}
use Rattle.std.proofs.lemmas.Bool.{eqb-true, ne_eqb, cases_lt, ltb-true, lt-ltb, cond-false}
use Rattle.cs_civil.specs.Calendar.{Kind}
use Rattle.cs_history.specs.declared.run.Run.{Run}
use Rattle.cs_history.specs.Lists.{total, greatest, EachPair, below}
use Rattle.cs_history.specs.Plan.{is_cron, takes_lock, locks, shares}
use Rattle.cs_history.specs.Calm.{reach, load, plain_load, lock_load, catch_load}
use Rattle.cs_theorem.specs.Nightly.{nightly}
use Rattle.cs_history.proofs.Lists.{all_map}
use Rattle.cs_windows.specs.Windows.{Job}
use Rattle.cs_windows.specs.declared.window.Window.{Window}
use Rattle.cs_windows.specs.Window.{touches}
use Rattle.cs_theorem.specs.Windows.{holders}
use Rattle.cs_windows.specs.Entries.{lists}
use Rattle.cs_theorem.specs.Accepted.{begins_on, occupied, due_in, reach_in, windows_of, EndWithin, IsLength, IsAccepted, IsByKind, arrivals, clash, blocks, run_in}
use Rattle.cs_wait.specs.Bounds.{at_days}
use Rattle.cs_theorem.specs.Example.{at_midnight, nightly_certificate}
use Rattle.cs_windows.proofs.Members.{Has, filter_has}
use Rattle.cs_theorem.proofs.Says.{all_from_has}
use Rattle.cs_theorem.proofs.Below.{at_job}
use Rattle.cs_theorem.proofs.Exact.{windows_shown}

pub by_kind : IsByKind nightly at_midnight
by_kind j d m cron lt = let e : (1440 * d + m) % 1440 ≡ m = omega (arith, lt) in ap (λ (k : ℕ). k == 0) e

first_job : (j : ℕ) → j < 1 → j ≡ 0
first_job j l = omega (arith, l)

ends : (k : ℕ) → 1 ≤ k → EndWithin nightly at_midnight (reach_in nightly nightly_certificate) k
ends k l zero m q known lt is b = let e : m ≡ 0 = eqb-true m 0 b in omega (arith, e, l)
ends k l (suc j) m q known lt is b = absurd (omega (arith, known))

pub nightly_length : IsLength nightly at_midnight (reach_in nightly nightly_certificate) 2
nightly_length = record { range = (omega arith, omega arith); ends = ends 2 (omega arith); least = λ k l h. l }

abbrev two_days : List (List ℕ)
two_days = (0 ∷ 0 ∷ []) ∷ []

abbrev class_none : Kind → ℕ
class_none k = 0

listed : (ks : List Kind) → length ks ≡ 2 → Contains two_days (map class_none ks)
listed [] e = absurd (omega (arith, e))
listed (k ∷ []) e = absurd (omega (arith, e))
listed (k ∷ l ∷ []) e = (0, omega arith, refl)
listed (k ∷ l ∷ q ∷ ks) e = absurd (omega (arith, e))

is_window : (m : ℕ) (w : Window) → m < 1440 → Has (holders m (windows_of nightly nightly_certificate (0 ∷ 0 ∷ []))) w → (w.job ≡ 0) × (w.day_back ≡ 0) × (w.from ≡ 0)
is_window m w lt h =
    let f = filter_has (λ w. touches w m (m + 1)) (windows_of nightly nightly_certificate (0 ∷ 0 ∷ [])) w h in
    let s = windows_shown (occupied nightly (due_in nightly_certificate) (reach_in nightly nightly_certificate)) (λ (d : ℕ). 0) 0 2 w f.0 in
    let j = at_job (λ j. record { begins = begins_on nightly (due_in nightly_certificate) j; lasts = reach nightly (reach_in nightly nightly_certificate) j }) 1 w.job s.at s.listed in
    let z : w.job ≡ 0 = first_job w.job j.0 in
    let o : s.at ≡ record { begins = begins_on nightly (due_in nightly_certificate) 0; lasts = 10 } = sym j.1 ∙ ap (λ (j : ℕ). record { begins = begins_on nightly (due_in nightly_certificate) j; lasts = reach nightly (reach_in nightly nightly_certificate) j }) z in
    let b : (w.from == 0) ≡ true = sym (ap (λ (o : Job ℕ). o.begins 0 w.from) o) ∙ s.begins in
    let r : w.reach ≡ 10 = s.reach ∙ ap (λ (o : Job ℕ). o.lasts) o in
    let t = ltb-true (max (m + 1440 * w.day_back) w.from) (min ((m + 1) + 1440 * w.day_back) (w.from + w.reach)) f.1 in
    let e : w.from ≡ 0 = eqb-true w.from 0 b in
    (z, omega (arith, t, e, r), e)

pairs_any : {X : Type 0} (P : X → Type 0) (R : X → X → Type 0) (xs : List X) → ((x y : X) → P x → P y → R x y) → AllByRecursion P xs → EachPair R xs
pairs_any P R [] h a = tt
pairs_any P R (x ∷ xs) h a = (all_map P (R x) xs (λ y q. h x y a.0 q) a.1, pairs_any P R xs h a.1)

jobs_zero : (m : ℕ) → m < 1440 → AllByRecursion (λ (w : Window). w.job ≡ 0) (holders m (windows_of nightly nightly_certificate (0 ∷ 0 ∷ [])))
jobs_zero m lt = all_from_has (λ (w : Window). w.job ≡ 0) (holders m (windows_of nightly nightly_certificate (0 ∷ 0 ∷ []))) (λ w h. (is_window m w lt h).0)

no_clash : (i j : ℕ) → i ≡ 0 → j ≡ 0 → clash nightly i j ≡ false
no_clash i j e f = subst (λ (x : ℕ). clash nightly x j ≡ false) (sym e) (subst (λ (y : ℕ). clash nightly 0 y ≡ false) (sym f) refl)

abbrev plain_of : ℕ → ℕ
plain_of j = if is_cron nightly j && not (takes_lock nightly j) then nightly.weight j else 0

abbrev lock_of : ℕ → ℕ
lock_of j = if locks nightly 0 j && not (shares nightly j) then nightly.weight j else 0

abbrev share_of : ℕ → ℕ
share_of j = if locks nightly 0 j && shares nightly j then nightly.weight j else 0

abbrev catch_of : ℕ → ℕ
catch_of j = if not (is_cron nightly j) then nightly.weight j else 0

total_zero : (f : ℕ → ℕ) (g : Window → Run) (ws : List Window) → ((w : Window) → (g w).job ≡ w.job) → f 0 ≡ 0 → AllByRecursion (λ (w : Window). w.job ≡ 0) ws → total (λ (r : Run). f r.job) (map g ws) ≡ 0
total_zero f g [] s z a = refl
total_zero f g (w ∷ ws) s z a = let e : f (g w).job ≡ 0 = ap f (s w ∙ a.0) ∙ z in omega (arith, e, total_zero f g ws s z a.1)

greatest_one : (f : ℕ → ℕ) (g : Window → Run) (k : ℕ) (ws : List Window) → ((w : Window) → (g w).job ≡ w.job) → f 0 ≤ k → AllByRecursion (λ (w : Window). w.job ≡ 0) ws → greatest (λ (r : Run). f r.job) (map g ws) ≤ k
greatest_one f g k [] s z a = omega arith
greatest_one f g k (w ∷ ws) s z a = let e : f (g w).job ≡ f 0 = ap f (s w ∙ a.0) in omega (arith, e, z, greatest_one f g k ws s z a.1)

light : (ws : List Window) → AllByRecursion (λ (w : Window). w.job ≡ 0) ws → load nightly (map (run_in 2) ws) ≤ 1
light ws a =
    let x : plain_load nightly (map (run_in 2) ws) ≡ 0 = total_zero plain_of (run_in 2) ws (λ w. refl) refl a in
    let y : greatest (λ (r : Run). lock_of r.job) (map (run_in 2) ws) ≤ 1 = greatest_one lock_of (run_in 2) 1 ws (λ w. refl) (omega arith) a in
    let q : total (λ (r : Run). share_of r.job) (map (run_in 2) ws) ≡ 0 = total_zero share_of (run_in 2) ws (λ w. refl) refl a in
    let z : catch_load nightly (map (run_in 2) ws) ≤ 0 = greatest_one catch_of (run_in 2) 0 ws (λ w. refl) (omega arith) a in
    let g : total (lock_load nightly (map (run_in 2) ws)) (below nightly.groups) ≤ 1 = omega (arith, y, q) in
    omega (arith, x, g, z)

none_blocks : (m i : ℕ) (v w : Window) → i ≡ 0 → v.job ≡ i → blocks nightly m v w ≡ false
none_blocks m i v w e f = subst (λ (j : ℕ). blocks nightly m (record v { job = j }) w ≡ false) (sym (f ∙ e)) refl

arrivals_step : (f : ℕ → ℕ) → f 0 ≤ 10 → (s : Bool) → total f (cond s (0 ∷ []) []) ≤ (if s then 10 else 0)
arrivals_step f l true = omega (arith, l)
arrivals_step f l false = omega arith

at_most : (l : Bool) → (if l then 10 else 0) ≤ 10
at_most true = omega arith
at_most false = omega arith

abbrev falling : ℕ → ℕ
falling m = if m == 0 then 0 else 10 - m

later : (m : ℕ) → 0 < m → falling m ≡ 10 - m
later m l = cond-false (m == 0) 0 (10 - m) (ne_eqb m 0 (λ z. omega (arith, z, l)))

ahead : (m : ℕ) → m < 1440 → 9 - m ≤ at_days (falling ∷ falling ∷ []) (m + 1)
ahead m lt = ⊎_elim (λ (h : m + 1 < 1440). let e : at_days (falling ∷ falling ∷ []) (m + 1) ≡ falling (m + 1) = ap (λ (b : Bool). if b then falling (m + 1) else at_days (falling ∷ []) ((m + 1) - 1440)) (lt-ltb (m + 1) 1440 h) in omega (arith, e, later (m + 1) (omega arith)))
    (λ (h : 1440 ≤ m + 1). omega (arith, h)) (cases_lt (m + 1) 1440)

step_at : (g m : ℕ) → m < 1440 → (s : Bool) → (m == 0) ≡ s → (falling m + (if s then 10 else 0)) - 1 ≤ at_days (falling ∷ falling ∷ []) (m + 1)
step_at g m lt true e = let z : m ≡ 0 = eqb-true m 0 e in let f : falling m ≡ 0 = ap falling z in omega (arith, f, z, ahead m lt)
step_at g m lt false e =
    let f : falling m ≡ 10 - m = ap (λ (b : Bool). if b then 0 else 10 - m) e in omega (arith, f, ahead m lt)

names_it : (m : ℕ) (w : Window) → (w.job ≡ 0) × (w.day_back ≡ 0) × (w.from ≡ 0) → lists (record { job = 0; day_back = 0; from = 0 } ∷ []) w ≡ true
names_it m w h = subst (λ (x : ℕ). lists (record { job = 0; day_back = 0; from = 0 } ∷ []) (record w { job = x }) ≡ true) (sym h.0)
    (subst (λ (x : ℕ). lists (record { job = 0; day_back = 0; from = 0 } ∷ []) (record w { job = 0; day_back = x }) ≡ true) (sym h.1)
    (subst (λ (x : ℕ). lists (record { job = 0; day_back = 0; from = 0 } ∷ []) (record w { job = 0; day_back = 0; from = x }) ≡ true) (sym h.2) refl))

pub nightly_accepted : IsAccepted nightly at_midnight nightly_certificate 2
nightly_accepted = record {
  due = λ k is j m cron lt. refl;
  listed = λ ks chain long. listed ks long;
  steps = λ g w. (λ u m lt. let x : arrivals nightly nightly_certificate g 0 m ≤ (if m == 0 then 10 else 0) = arrivals_step (λ j. if locks nightly g j then nightly.limit j else 0) (at_most (locks nightly g 0)) (m == 0) in omega (arith, x, step_at g m lt (m == 0) refl), tt);
  clears = λ j g cron wait lock. (10, refl, (λ u m lt e. let z : m ≡ 0 = eqb-true m 0 e in (10, omega (arith, z), omega arith, (omega arith, refl)), tt));
  covered = (λ u m lt. all_from_has (λ w. lists (record { job = 0; day_back = 0; from = 0 } ∷ []) w ≡ true) (holders m (windows_of nightly nightly_certificate (0 ∷ 0 ∷ []))) (λ w h. names_it m w (is_window m w lt h)), tt);
  apart = (λ u m lt. pairs_any (λ (w : Window). w.job ≡ 0) (λ v w. clash nightly v.job w.job ≡ false) (holders m (windows_of nightly nightly_certificate (0 ∷ 0 ∷ []))) (λ v w e f. no_clash v.job w.job e f) (jobs_zero m lt), tt);
  within = (λ u m lt. light (holders m (windows_of nightly nightly_certificate (0 ∷ 0 ∷ []))) (jobs_zero m lt), tt);
  free = (
    λ u m lt. all_map (λ (w : Window). w.job ≡ 0) (λ v. AllByRecursion (λ w. blocks nightly m v w ≡ false) (holders m (windows_of nightly nightly_certificate (0 ∷ 0 ∷ [])))) (holders m (windows_of nightly nightly_certificate (0 ∷ 0 ∷ [])))
        (λ v e. all_from_has (λ w. blocks nightly m v w ≡ false) (holders m (windows_of nightly nightly_certificate (0 ∷ 0 ∷ []))) (λ w h. none_blocks m v.job v w e refl)) (jobs_zero m lt),
    tt,
  );
}
