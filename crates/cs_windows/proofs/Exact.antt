-- `windows_on` has exactly the windows that begin on its days and reach the last.
use Rattle.std.proofs.Common.{ℕ, zero, suc, ◌+◌, ◌*◌, ◌<◌, ◌≡◌, Bool, true, false, ◌&&◌, cond, List, [], ◌∷◌, filter, length, Some, refl, sym, ap, ◌∙◌, subst, arith, inl, inr, ⊎_elim}
use Rattle.std.specs.Prelude.{slice_get, nat_lt, Contains, ◌↔◌}
use Rattle.std.specs.List.{range_with_len}
use Rattle.std.proofs.lemmas.Bool.{lt-ltb}
use borrow.Author.Tests.{ltb-true}
use Rattle.cs_windows.specs.declared.window.Window.{Window}
use Rattle.cs_windows.specs.Window.{window, reaches}
use Rattle.cs_windows.specs.Windows.{Job, IsWindowOn, starting, day_minutes, windows_from, windows_on}
use Rattle.cs_windows.proofs.Members.{Has, has_contains, contains_has, has_left, has_right, has_cases, has_filter, filter_has, has_flat, flat_has, has_range, range_has}

record Begins {D : Type 0} (jobs : List (Job D)) (day : D) (back minute first : ℕ) (w : Window) : Type 0 where
  place : ℕ
  job_is : w.job ≡ first + place
  at : Job D
  listed : slice_get jobs place ≡ Some at
  begins : at.begins day minute ≡ true
  is : w ≡ window w.job back minute at.lasts

start_step : {D : Type 0} (o : Job D) (os : List (Job D)) (day : D) (back minute job : ℕ) (w : Window) → (Has (starting day back minute (job + 1) os) w → Begins os day back minute (job + 1) w)
    → (b : Bool) → o.begins day minute ≡ b → Has (cond b (window job back minute o.lasts ∷ starting day back minute (job + 1) os) (starting day back minute (job + 1) os)) w → Begins (o ∷ os) day back minute job w
start_step o os day back minute job w ih true e (inl i) = record { place = zero; job_is = sym (ap (λ (v : Window). v.job) i) ∙ omega arith; at = o; listed = refl; begins = e; is = sym i ∙ ap (λ (j : ℕ). window j back minute o.lasts) (ap (λ (v : Window). v.job) i) }
start_step o os day back minute job w ih true e (inr h) = let r = ih h in record { place = suc r.place; job_is = omega (arith, r.job_is); at = r.at; listed = r.listed; begins = r.begins; is = r.is }
start_step o os day back minute job w ih false e h = let r = ih h in record { place = suc r.place; job_is = omega (arith, r.job_is); at = r.at; listed = r.listed; begins = r.begins; is = r.is }

starting_has : {D : Type 0} (os : List (Job D)) (day : D) (back minute job : ℕ) (w : Window) → Has (starting day back minute job os) w → Begins os day back minute job w
starting_has [] day back minute job w h = absurd h
starting_has (o ∷ os) day back minute job w h = start_step o os day back minute job w (starting_has os day back minute (job + 1) w) (o.begins day minute) refl h

begin_here : {D : Type 0} (o : Job D) (os : List (Job D)) (day : D) (back minute job : ℕ) (b : Bool) → o.begins day minute ≡ b → b ≡ true → Has (cond b (window job back minute o.lasts ∷ starting day back minute (job + 1) os) (starting day back minute (job + 1) os)) (window job back minute o.lasts)
begin_here o os day back minute job true e q = inl refl
begin_here o os day back minute job false e q = cc

begin_later : {D : Type 0} (o : Job D) (os : List (Job D)) (day : D) (back minute job : ℕ) (w : Window) → Has (starting day back minute (job + 1) os) w → (b : Bool) → Has (cond b (window job back minute o.lasts ∷ starting day back minute (job + 1) os) (starting day back minute (job + 1) os)) w
begin_later o os day back minute job w h true = inr h
begin_later o os day back minute job w h false = h

some_is : {X : Type 0} (x y : X) → Some x ≡ Some y → x ≡ y
some_is x y e = cc

has_starting : {D : Type 0} (os : List (Job D)) (day : D) (back minute job i : ℕ) (o : Job D) → slice_get os i ≡ Some o → o.begins day minute ≡ true → Has (starting day back minute job os) (window (job + i) back minute o.lasts)
has_starting [] day back minute job i o l b = absurd (cc)
has_starting (x ∷ os) day back minute job zero o l b =
    let e = some_is x o l in
    let s : job ≡ job + 0 = omega arith in
    subst (λ (j : ℕ). Has (starting day back minute job (x ∷ os)) (window j back minute o.lasts)) s
    (subst (λ (y : Job _). Has (starting day back minute job (x ∷ os)) (window job back minute y.lasts)) e
    (begin_here x os day back minute job (x.begins day minute) refl (ap (λ (y : Job _). y.begins day minute) e ∙ b)))
has_starting (x ∷ os) day back minute job (suc i) o l b =
    let s : (job + 1) + i ≡ job + suc i = omega arith in
    subst (λ (j : ℕ). Has (starting day back minute job (x ∷ os)) (window j back minute o.lasts)) s
    (begin_later x os day back minute job (window ((job + 1) + i) back minute o.lasts) (has_starting os day back minute (job + 1) i o l b) (x.begins day minute))

from_has : {D : Type 0} (os : List (Job D)) (day : D) (back : ℕ) (w : Window) → Has (windows_from os day back) w → (w.from < 1440) × Begins os day back w.from 0 w
unfolding day_minutes
from_has os day back w h =
    let r = flat_has (λ minute. starting day back minute 0 os) (range_with_len 0 1440) w h in
    let m = range_has 0 1440 r.0 r.1 in
    let b = starting_has os day back r.0 0 w r.2 in
    let e : w.from ≡ r.0 = ap (λ (v : Window). v.from) b.is in
    (omega (arith, e, m.1), subst (λ (k : ℕ). Begins os day back k 0 w) (sym e) b)

has_from : {D : Type 0} (os : List (Job D)) (day : D) (back m i : ℕ) (o : Job D) → m < 1440 → slice_get os i ≡ Some o → o.begins day m ≡ true → Has (windows_from os day back) (window i back m o.lasts)
unfolding day_minutes
has_from os day back m i o lt l b =
    let s : 0 + i ≡ i = omega arith in
    has_flat (λ minute. starting day back minute 0 os) (range_with_len 0 1440) m (window i back m o.lasts) (has_range 0 1440 m (omega arith) (omega (arith, lt)))
    (subst (λ (j : ℕ). Has (starting day back m 0 os) (window j back m o.lasts)) s (has_starting os day back m 0 i o l b))

both_true : (a b : Bool) → (a && b) ≡ true → (a ≡ true) × (b ≡ true)
both_true true b e = (refl, e)
both_true false b e = cc

true_both : (a b : Bool) → a ≡ true → b ≡ true → (a && b) ≡ true
true_both true b e f = f
true_both false b e f = cc

pub reaches_says : (w : Window) → reaches w ≡ true → (0 < w.reach) × (1440 * w.day_back < w.from + w.reach)
reaches_says w h = let k = both_true (nat_lt 0 w.reach) (nat_lt (1440 * w.day_back) (w.from + w.reach)) h in (ltb-true _ _ k.0, ltb-true _ _ k.1)

pub says_reaches : (w : Window) → 0 < w.reach → 1440 * w.day_back < w.from + w.reach → reaches w ≡ true
says_reaches w a b = true_both (nat_lt 0 w.reach) (nat_lt (1440 * w.day_back) (w.from + w.reach)) (lt-ltb _ _ a) (lt-ltb _ _ b)

module _ {D : Type 0} (jobs : List (Job D)) where
  here : (day : D) (days : List D) (w : Window) → Has (filter reaches (windows_from jobs day (length days))) w → IsWindowOn jobs (day ∷ days) w
  here day days w h =
      let f = filter_has reaches (windows_from jobs day (length days)) w h in
      let g = from_has jobs day (length days) w f.0 in
      let b = g.1 in
      let r = reaches_says w f.1 in
      let back : w.day_back ≡ length days = ap (λ (v : Window). v.day_back) b.is in
      let job : w.job ≡ b.place = omega (arith, b.job_is) in
      record { job = b.at; of_job = ap (slice_get jobs) job ∙ b.listed; place = zero; back = omega (arith, back); day = day; on_day = refl; minute = g.0; begins = b.begins; lasts = ap (λ (v : Window). v.reach) b.is; holds_some = r.0; ends_later = r.1 }

  later : (day : D) (days : List D) (w : Window) → IsWindowOn jobs days w → IsWindowOn jobs (day ∷ days) w
  later day days w r = record { job = r.job; of_job = r.of_job; place = suc r.place; back = omega (arith, r.back); day = r.day; on_day = r.on_day; minute = r.minute; begins = r.begins; lasts = r.lasts; holds_some = r.holds_some; ends_later = r.ends_later }

  has_is : (days : List D) (w : Window) → Has (windows_on jobs days) w → IsWindowOn jobs days w
  has_is [] w h = absurd h
  has_is (day ∷ days) w h = ⊎_elim (here day days w) (λ (k : Has (windows_on jobs days) w). later day days w (has_is days w k)) (has_cases (filter reaches (windows_from jobs day (length days))) (windows_on jobs days) w h)

  is_at : (days : List D) (w : Window) (place : ℕ) (day : D) (job : Job D) → slice_get jobs w.job ≡ Some job → place + w.day_back + 1 ≡ length days → slice_get days place ≡ Some day → w.from < 1440 → job.begins day w.from ≡ true → w.reach ≡ job.lasts → reaches w ≡ true → Has (windows_on jobs days) w
  is_at [] w place day job l back on lt b reach r = absurd (omega (arith, back))
  is_at (x ∷ days) w zero day job l back on lt b reach r =
      let e : x ≡ day = some_is x day on in
      let back_is : w.day_back ≡ length days = omega (arith, back) in
      let whole : window w.job (length days) w.from job.lasts ≡ w = ap (λ (k : ℕ). window w.job k w.from job.lasts) (sym back_is) ∙ ap (λ (k : ℕ). window w.job w.day_back w.from k) (sym reach) in
      has_left (filter reaches (windows_from jobs x (length days))) (windows_on jobs days) w
      (has_filter reaches (windows_from jobs x (length days)) w (subst (Has (windows_from jobs x (length days))) whole (has_from jobs x (length days) w.from w.job job lt l (ap (λ (d : D). job.begins d w.from) e ∙ b))) r)
  is_at (x ∷ days) w (suc place) day job l back on lt b reach r =
      has_right (filter reaches (windows_from jobs x (length days))) (windows_on jobs days) w (is_at days w place day job l (omega (arith, back)) on lt b reach r)

  pub exact : (days : List D) (w : Window) → Contains (windows_on jobs days) w ↔ IsWindowOn jobs days w
  exact days w = (
    λ h. has_is days w (contains_has (windows_on jobs days) w h),
    λ k. has_contains (windows_on jobs days) w (is_at days w k.place k.day k.job k.of_job k.back k.on_day k.minute k.begins k.lasts (says_reaches w k.holds_some k.ends_later)),
  )
