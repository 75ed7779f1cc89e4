-- The windows of successive days rise by start, then job.
use Rattle.std.proofs.Common.{◌≡◌, ℕ, zero, suc, ◌+◌, ◌*◌, ◌<◌, ◌≤◌, ◌++◌, Bool, true, false, cond, List, [], ◌∷◌, refl, sym, ap, ◌∙◌, arith, filter, length, subst}
use Rattle.std.specs.Prelude.{flat_map}
use Rattle.std.specs.List.{AllByRecursion, range_with_len}
use Rattle.std.proofs.lemmas.List.Elements.{All-from_recursion}
use Rattle.cs_windows.specs.declared.window.Window.{Window}
use Rattle.cs_windows.specs.Window.{IsBefore, IsRising, reaches, window}
use Rattle.cs_windows.specs.Windows.{Job, day_minutes, starting, windows_from, windows_on}
use Rattle.cs_windows.proofs.Minutes.{minutes_more}

abbrev Rises : List Window → Type 0
Rises [] = Unit {0}
Rises (w ∷ ws) = AllByRecursion (IsBefore w) ws × Rises ws

-- of this day, from low up to high
record Within (back low high : ℕ) (w : Window) : Type 0 where
  back_is : w.day_back ≡ back
  from_low : low ≤ w.from
  to_high : w.from < high

-- of this minute, and of this job or a later one
record AtMinute (back minute number : ℕ) (w : Window) : Type 0 where
  back_is : w.day_back ≡ back
  from_is : w.from ≡ minute
  job_from : number ≤ w.job

all-append : (P : Window → Type 0) (xs ys : List Window) → AllByRecursion P xs → AllByRecursion P ys → AllByRecursion P (xs ++ ys)
all-append P [] ys h k = k
all-append P (x ∷ xs) ys h k = (h.0, all-append P xs ys h.1 k)

all-weaker : (P Q : Window → Type 0) → ((w : Window) → P w → Q w) → (xs : List Window) → AllByRecursion P xs → AllByRecursion Q xs
all-weaker P Q f [] h = tt
all-weaker P Q f (x ∷ xs) h = (f x h.0, all-weaker P Q f xs h.1)

all-filter : (P : Window → Type 0) (p : Window → Bool) (xs : List Window) → AllByRecursion P xs → AllByRecursion P (filter p xs)
all-filter P p [] h = tt
all-filter P p (x ∷ xs) h = step (p x) (all-filter P p xs h.1)
  where
    step : (b : Bool) → AllByRecursion P (filter p xs) → AllByRecursion P (cond b (x ∷ filter p xs) (filter p xs))
    step true k = (h.0, k)
    step false k = k

rises-filter : (p : Window → Bool) (xs : List Window) → Rises xs → Rises (filter p xs)
rises-filter p [] h = tt
rises-filter p (x ∷ xs) h = step (p x) (all-filter (IsBefore x) p xs h.0) (rises-filter p xs h.1)
  where
    step : (b : Bool) → AllByRecursion (IsBefore x) (filter p xs) → Rises (filter p xs) → Rises (cond b (x ∷ filter p xs) (filter p xs))
    step true a k = (a, k)
    step false a k = k

rises-append : (P Q : Window → Type 0) → ((a b : Window) → P a → Q b → IsBefore a b) → (xs ys : List Window) → AllByRecursion P xs → AllByRecursion Q ys → Rises xs → Rises ys → Rises (xs ++ ys)
rises-append P Q f [] ys p q r s = s
rises-append P Q f (x ∷ xs) ys p q r s =
    (all-append (IsBefore x) xs ys r.0 (all-weaker Q (IsBefore x) (λ b k. f x b p.0 k) ys q), rises-append P Q f xs ys p.1 q r.1 s)

earlier : (back n : ℕ) (a b : Window) → Within back 0 n a → Within back n (n + 1) b → IsBefore a b
earlier back n a b h k =
    let start : a.from + 1440 * b.day_back < b.from + 1440 * a.day_back = omega (arith, h.back_is, h.to_high, k.back_is, k.from_low, ap (λ n. 1440 * n) h.back_is, ap (λ n. 1440 * n) k.back_is) in
    record { start = omega arith; job = λ same. absurd (omega (arith, same)) }

abbrev Later : ℕ → Window → Type 0
Later n w = w.day_back < n

day_before : (back : ℕ) (a b : Window) → Within back 0 1440 a → Later back b → IsBefore a b
day_before back a b h k =
    let start : a.from + 1440 * b.day_back < b.from + 1440 * a.day_back = omega (arith, h.back_is, h.to_high, k) in
    record { start = omega arith; job = λ same. absurd (omega (arith, same)) }

module _ {D : Type 0} (jobs : List (Job D)) (day : D) (back : ℕ) where
  at_minute : (m number : ℕ) (js : List (Job D)) → AllByRecursion (AtMinute back m number) (starting day back m number js)
  at_minute m number [] = tt
  at_minute m number (j ∷ js) =
      step (j.begins day m) (all-weaker (AtMinute back m (number + 1)) (AtMinute back m number) (λ w k. record { back_is = k.back_is; from_is = k.from_is; job_from = omega (arith, k.job_from) }) (starting day back m (number + 1) js) (at_minute m (number + 1) js))
    where
      step : (b : Bool) → AllByRecursion (AtMinute back m number) (starting day back m (number + 1) js) → AllByRecursion (AtMinute back m number) (cond b (window number back m j.lasts ∷ starting day back m (number + 1) js) (starting day back m (number + 1) js))
      step true k = (record { back_is = refl; from_is = refl; job_from = omega arith }, k)
      step false k = k

  -- windows of one minute rise by job
  by_job : (m number : ℕ) (js : List (Job D)) → Rises (starting day back m number js)
  by_job m number [] = tt
  by_job m number (j ∷ js) = step (j.begins day m) (at_minute m (number + 1) js) (by_job m (number + 1) js)
    where
      step : (b : Bool) → AllByRecursion (AtMinute back m (number + 1)) (starting day back m (number + 1) js) → Rises (starting day back m (number + 1) js) → Rises (cond b (window number back m j.lasts ∷ starting day back m (number + 1) js) (starting day back m (number + 1) js))
      step true a k = (all-weaker (AtMinute back m (number + 1)) (IsBefore (window number back m j.lasts)) (λ w h. record { start = omega (arith, h.back_is, h.from_is, ap (λ n. 1440 * n) h.back_is); job = λ same. omega (arith, h.job_from) }) (starting day back m (number + 1) js) a, k)
      step false a k = k

  abbrev upto : ℕ → List Window
  upto n = flat_map (λ minute. starting day back minute 0 jobs) (range_with_len 0 n)

  more : (n : ℕ) → upto (suc n) ≡ upto n ++ starting day back n 0 jobs
  more n =
      let e : suc n ≡ n + 1 = omega arith in
      ap upto e ∙ minutes_more (λ minute. starting day back minute 0 jobs) n

  one_minute : (n : ℕ) → AllByRecursion (Within back n (n + 1)) (starting day back n 0 jobs)
  one_minute n = all-weaker (AtMinute back n 0) (Within back n (n + 1)) (λ w k. record { back_is = k.back_is; from_low = omega (arith, k.from_is); to_high = omega (arith, k.from_is) }) (starting day back n 0 jobs) (at_minute n 0 jobs)

  upto-within : (n : ℕ) → AllByRecursion (Within back 0 n) (upto n)
  upto-within zero = tt
  upto-within (suc n) =
      let e : n + 1 ≡ suc n = omega arith in
      let all : AllByRecursion (Within back 0 (n + 1)) (upto n ++ starting day back n 0 jobs) =
      all-append (Within back 0 (n + 1)) (upto n) (starting day back n 0 jobs)
      (all-weaker (Within back 0 n) (Within back 0 (n + 1)) (λ w k. record { back_is = k.back_is; from_low = k.from_low; to_high = omega (arith, k.to_high) }) (upto n) (upto-within n))
      (all-weaker (Within back n (n + 1)) (Within back 0 (n + 1)) (λ w k. record { back_is = k.back_is; from_low = omega arith; to_high = k.to_high }) (starting day back n 0 jobs) (one_minute n)) in
      subst (λ (k : ℕ). AllByRecursion (Within back 0 k) (upto (suc n))) e (subst (AllByRecursion (Within back 0 (n + 1))) (sym (more n)) all)

  upto-rises : (n : ℕ) → Rises (upto n)
  upto-rises zero = tt
  upto-rises (suc n) =
      subst Rises (sym (more n))
      (rises-append (Within back 0 n) (Within back n (n + 1)) (earlier back n) (upto n) (starting day back n 0 jobs) (upto-within n) (one_minute n) (upto-rises n) (by_job n 0 jobs))

  of_day : Rises (windows_from jobs day back) × AllByRecursion (Within back 0 1440) (windows_from jobs day back)
  unfolding day_minutes
  of_day = (upto-rises 1440, upto-within 1440)

module _ {D : Type 0} (jobs : List (Job D)) where
  on-later : (days : List D) → AllByRecursion (Later (length days)) (windows_on jobs days)
  on-later [] = tt
  on-later (day ∷ days) =
      let ws = windows_from jobs day (length days) in
      all-append (Later (suc (length days))) (filter reaches ws) (windows_on jobs days)
      (all-weaker (Within (length days) 0 1440) (Later (suc (length days))) (λ w k. omega (arith, k.back_is)) (filter reaches ws) (all-filter (Within (length days) 0 1440) reaches ws (of_day jobs day (length days)).1))
      (all-weaker (Later (length days)) (Later (suc (length days))) (λ w k. omega (arith, k)) (windows_on jobs days) (on-later days))

  on-rises : (days : List D) → Rises (windows_on jobs days)
  on-rises [] = tt
  on-rises (day ∷ days) =
      let d = of_day jobs day (length days) in
      let ws = windows_from jobs day (length days) in
      rises-append (Within (length days) 0 1440) (Later (length days)) (day_before (length days)) (filter reaches ws) (windows_on jobs days)
      (all-filter (Within (length days) 0 1440) reaches ws d.1) (on-later days) (rises-filter reaches ws d.0) (on-rises days)

rising_from : (ws : List Window) → Rises ws → IsRising ws
rising_from [] h i j d lt in_range = absurd (omega arith)
rising_from (w ∷ ws) h zero zero d lt in_range = absurd (omega arith)
rising_from (w ∷ ws) h zero (suc j) d lt in_range = All-from_recursion (IsBefore w) ws h.0 j d (omega arith)
rising_from (w ∷ ws) h (suc i) zero d lt in_range = absurd (omega arith)
rising_from (w ∷ ws) h (suc i) (suc j) d lt in_range = rising_from ws h.1 i j d (omega arith) (omega arith)

pub windows_rise : {D : Type 0} (jobs : List (Job D)) (days : List D) → IsRising (windows_on jobs days)
windows_rise jobs days = rising_from (windows_on jobs days) (on-rises jobs days)
