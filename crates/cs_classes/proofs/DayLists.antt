use Rattle.std.proofs.Common.{◌≡◌, ℕ, zero, suc, ◌+◌, ◌<◌, ◌≤◌, cond, List, [], ◌∷◌, Bool, filter, length, map, slice_index, refl, ap, ◌∙◌, arith}
use Rattle.std.specs.List.{range_with_len}
use Rattle.cs_schedule.specs.Minutes.{minutes_where}
use Rattle.cs_windows.specs.Windows.{day_minutes}
use Rattle.cs_windows.proofs.Minutes.{minutes_all}
use Rattle.cs_crontab.specs.declared.table.When.{When}
use Rattle.cs_crontab.specs.declared.table.When.TheVariants.{At, Reboot}
use Rattle.cs_zone.specs.Zone.{Zone}
use Rattle.cs_zone.specs.declared.shape.Shape.TheVariants.{Never}
use Rattle.cs_classes.specs.Likeness.{is_due_by}

list_is_from : (xs : List ℕ) (f : ℕ → ℕ) (first : ℕ) → ((m : ℕ) → m < length xs → slice_index xs m ≡ f (first + m)) → xs ≡ map f (range_with_len first (length xs))
list_is_from [] f first h = refl
list_is_from (x ∷ xs) f first h =
    let here : x ≡ f first = h 0 (omega arith) ∙ (let e : first + 0 ≡ first = omega arith in ap f e) in
    let rest : xs ≡ map f (range_with_len (first + 1) (length xs)) = list_is_from xs f (first + 1) (λ m lt. h (suc m) (omega (arith, lt)) ∙ (let e : first + suc m ≡ first + 1 + m = omega arith in ap f e)) in
    ap (λ (y : ℕ). y ∷ xs) here ∙ ap (λ (ys : List ℕ). f first ∷ ys) rest

pub day_list_is : (xs : List ℕ) (f : ℕ → ℕ) → length xs ≡ 1440 → ((m : ℕ) → m < 1440 → slice_index xs m ≡ f m) → xs ≡ map f day_minutes
day_list_is xs f long h =
    list_is_from xs f 0 (λ m lt. h m (omega (arith, lt, long)) ∙ (let e : m ≡ 0 + m = omega arith in ap f e)) ∙ ap (map f) (minutes_all (length xs) long)

pub minutes_passing : (test : ℕ → Bool) → minutes_where test ≡ filter test day_minutes
unfolding minutes_where
minutes_passing test = by 1440 refl
  where
    by : (n : ℕ) → n ≡ 1440 → filter test (range_with_len 0 n) ≡ filter test day_minutes
    by n e = ap (filter test) (minutes_all n e)

alike_from : (t u : ℕ → Bool) (a n : ℕ) → a + n ≤ 1440 → ((m : ℕ) → m < 1440 → t m ≡ u m) → filter t (range_with_len a n) ≡ filter u (range_with_len a n)
alike_from t u a zero fits same = refl
alike_from t u a (suc n) fits same =
    ap (λ (b : Bool). cond b (a ∷ filter t (range_with_len (a + 1) n)) (filter t (range_with_len (a + 1) n))) (same a (omega (arith, fits)))
    ∙ ap (λ (ms : List ℕ). cond (u a) (a ∷ ms) ms) (alike_from t u (a + 1) n (omega (arith, fits)) same)

-- tests that agree on each minute of a day pass the same
pub passing_alike : (t u : ℕ → Bool) → ((m : ℕ) → m < 1440 → t m ≡ u m) → filter t day_minutes ≡ filter u day_minutes
unfolding day_minutes
passing_alike t u same = alike_from t u 0 1440 (omega arith) same

never_among : (zone : Zone) (when : When) (ms : List ℕ) → [] ≡ filter (is_due_by zone when Never) ms
never_among zone when [] = refl
never_among zone (At schedule) (m ∷ ms) = never_among zone (At schedule) ms
never_among zone Reboot (m ∷ ms) = never_among zone Reboot ms

pub never_passing : (zone : Zone) (when : When) → [] ≡ filter (is_due_by zone when Never) day_minutes
never_passing zone when = never_among zone when day_minutes
