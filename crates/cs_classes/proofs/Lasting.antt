use Rattle.std.proofs.Common.{ℕ, ◌+◌, ◌-◌, ◌*◌, ◌<◌, ◌≤◌, ◌≡◌, ◌==◌, ◌&&◌, ◌||◌, not, Bool, true, false, cond, if◌then◌else◌, List, [], ◌∷◌, filter, map, refl, sym, ap, ◌∙◌, arith}
use Rattle.std.specs.Prelude.{nat_le}
use Rattle.std.specs.List.{list_all, range_with_len}
use Rattle.std.proofs.lemmas.Bool.{eqb-true, eq-eqb, le-leb}
use Rattle.cs_civil.specs.Calendar.{Kind, kind}
use Rattle.cs_civil.specs.Order.{all_kinds}
use Rattle.cs_civil.proofs.Following.{kind_possible}
use Rattle.cs_history.specs.Plan.{Plan}
use Rattle.cs_history.specs.Lists.{below}
use Rattle.cs_schedule.specs.Minutes.{minutes_where}
use Rattle.cs_windows.specs.Windows.{Job, day_minutes}
use Rattle.cs_theorem.specs.Accepted.{occupied}
use Rattle.cs_theorem.specs.Faults.{fits, stretch_length}
use Rattle.cs_theorem.proofs.Chains.{kind_listed}
use Rattle.cs_classes.specs.Fitting.{ends_on, job_fits}
use Rattle.cs_classes.proofs.Alike.{all_true, all_false, minutes_true, minutes_false}

all_map : {A B : Type 0} (t : B → Bool) (f : A → B) (xs : List A) → list_all t (map f xs) ≡ list_all (λ x. t (f x)) xs
all_map t f [] = refl
all_map t f (x ∷ xs) = ap (λ (b : Bool). t (f x) && b) (all_map t f xs)

fits_is : (p : Plan) (on : ℕ → Kind → ℕ → Bool) (c : ℕ → ℕ) (k : ℕ) → fits p on c k ≡ list_all (job_fits k) (occupied p on c)
fits_is p on c k = sym (all_map (job_fits k) _ (below p.jobs))

pub length_by : (p : Plan) (on : ℕ → Kind → ℕ → Bool) (c : ℕ → ℕ) (jobs : List (Job Kind)) (x y : Bool) → jobs ≡ occupied p on c → list_all (job_fits 2) jobs ≡ x → list_all (job_fits 3) jobs ≡ y → stretch_length p on c ≡ (if x then 2 else (if y then 3 else 4))
unfolding stretch_length
length_by p on c jobs x y e f g =
    ap (λ (b : Bool). if b then 2 else (if fits p on c 3 then 3 else 4)) (fits_is p on c 2 ∙ ap (list_all (job_fits 2)) (sym e) ∙ f)
    ∙ ap (λ (b : Bool). if x then 2 else (if b then 3 else 4)) (fits_is p on c 3 ∙ ap (list_all (job_fits 3)) (sym e) ∙ g)

pass_step : {A : Type 0} (t p : A → Bool) (x : A) (xs : List A) → list_all t (filter p xs) ≡ list_all (λ y. not (p y) || t y) xs → (b : Bool) → p x ≡ b → list_all t (cond b (x ∷ filter p xs) (filter p xs)) ≡ ((not b || t x) && list_all (λ y. not (p y) || t y) xs)
pass_step t p x xs h true e = ap (λ (b : Bool). t x && b) h
pass_step t p x xs h false e = h

passing : {A : Type 0} (t p : A → Bool) (xs : List A) → list_all t (filter p xs) ≡ list_all (λ x. not (p x) || t x) xs
passing t p [] = refl
passing t p (x ∷ xs) = pass_step t p x xs (passing t p xs) (p x) refl

-- a test of the due minutes alone
pub of_minutes : (t p : ℕ → Bool) → list_all t (minutes_where p) ≡ list_all (λ m. not (p m) || t m) day_minutes
unfolding minutes_where day_minutes
of_minutes t p = passing t p (range_with_len 0 1440)

or_right : (a b : Bool) → b ≡ true → (a || b) ≡ true
or_right true b e = refl
or_right false b e = e

-- a window that is short enough ends in time wherever it begins
pub short_fits : (job : Job Kind) (n : ℕ) → 1 ≤ n → job.lasts ≤ 1440 * (n - 1) + 1 → job_fits n job ≡ true
short_fits job n l short = all_true (ends_on job n) all_kinds (λ k _. minutes_true (λ m. not (job.begins k m) || nat_le (m + job.lasts) (1440 * n)) 1440 (omega arith) (λ m lt. or_right (not (job.begins k m)) (nat_le (m + job.lasts) (1440 * n)) (le-leb (m + job.lasts) (1440 * n) (omega (arith, l, short, lt)))))

abbrev pub each_day : ℕ → ℕ → Job Kind
each_day from reach = record { begins = λ kind minute. minute == from; lasts = reach }

past_step : (from n r m : ℕ) → 1440 ≤ from → m < 1440 → (b : Bool) → (m == from) ≡ b → (not b || nat_le (m + r) (1440 * n)) ≡ true
past_step from n r m past lt true e = absurd (let q : m ≡ from = eqb-true m from e in omega (arith, q, past, lt))
past_step from n r m past lt false e = refl

pub past_fits : (from r n : ℕ) → 1440 ≤ from → job_fits n (each_day from r) ≡ true
past_fits from r n past = all_true (ends_on (each_day from r) n) all_kinds (λ k _. minutes_true (λ m. not (m == from) || nat_le (m + r) (1440 * n)) 1440 (omega arith) (λ m lt. past_step from n r m past lt (m == from) refl))

here_step : (from n r m : ℕ) → nat_le (from + r) (1440 * n) ≡ true → (b : Bool) → (m == from) ≡ b → (not b || nat_le (m + r) (1440 * n)) ≡ true
here_step from n r m h true e = ap (λ (x : ℕ). nat_le (x + r) (1440 * n)) (eqb-true m from e) ∙ h
here_step from n r m h false e = refl

pub day_fits : (from r n : ℕ) (b : Bool) → from < 1440 → nat_le (from + r) (1440 * n) ≡ b → job_fits n (each_day from r) ≡ b
day_fits from r n true lt h = all_true (ends_on (each_day from r) n) all_kinds (λ k _. minutes_true (λ m. not (m == from) || nat_le (m + r) (1440 * n)) 1440 (omega arith) (λ m l. here_step from n r m h (m == from) refl))
day_fits from r n false lt h =
    let late : (not (from == from) || nat_le (from + r) (1440 * n)) ≡ false = ap (λ (b : Bool). not b || nat_le (from + r) (1440 * n)) (eq-eqb from from refl) ∙ h in
    all_false (ends_on (each_day from r) n) all_kinds (kind 0) (kind_listed (kind 0) (kind_possible 0)) (minutes_false (λ m. not (m == from) || nat_le (m + r) (1440 * n)) from lt late)
