-- The windows of the days x first, x (first + 1), .., n of them, by the number of the day.
use Rattle.std.proofs.Common.{ℕ, ◌+◌, ◌-◌, ◌<◌, ◌≤◌, ◌≡◌, true, List, map, Some, refl, sym, ap, ◌∙◌, arith}
use Rattle.std.specs.Prelude.{slice_get, option_map}
use Rattle.std.specs.List.{range_with_len}
use Rattle.std.proofs.lemmas.List.FromFn.{length-range_with_len, length-map-range_with_len, get_or-range_with_len}
use Rattle.std.proofs.lemmas.Option.{slice_get-map, slice_get-get_or}
use Rattle.cs_windows.specs.declared.window.Window.{Window}
use Rattle.cs_windows.specs.Window.{window, reaches}
use Rattle.cs_windows.specs.Windows.{Job, windows_on}
use Rattle.cs_windows.proofs.Members.{Has, has_contains, contains_has}
use Rattle.cs_windows.proofs.Exact.{exact, reaches_says, says_reaches}

some_is : {X : Type 0} (x y : X) → Some x ≡ Some y → x ≡ y
some_is x y e = cc

pub record Shown {D : Type 0} (os : List (Job D)) (x : ℕ → D) (first n : ℕ) (w : Window) : Type 0 where
  pub day : ℕ
  pub low : first ≤ day
  pub back : day + w.day_back + 1 ≡ first + n
  pub from : w.from < 1440
  pub at : Job D
  pub listed : slice_get os w.job ≡ Some at
  pub begins : at.begins (x day) w.from ≡ true
  pub reach : w.reach ≡ at.lasts
  pub reaches : reaches w ≡ true

day_at : {D : Type 0} (x : ℕ → D) (first n i : ℕ) → i < n → slice_get (map x (range_with_len first n)) i ≡ Some (x (first + i))
day_at x first n i lt =
    slice_get-map x (range_with_len first n) i
    ∙ ap (option_map x) (slice_get-get_or (range_with_len first n) i 0 (omega (arith, lt, length-range_with_len first n)) ∙ ap Some (get_or-range_with_len first n i 0 lt))

pub windows_shown : {D : Type 0} (os : List (Job D)) (x : ℕ → D) (first n : ℕ) (w : Window) → Has (windows_on os (map x (range_with_len first n))) w → Shown os x first n w
windows_shown os x first n w h =
    let r = (exact os (map x (range_with_len first n)) w).0 (has_contains (windows_on os (map x (range_with_len first n))) w h) in
    let size = length-map-range_with_len x first n in
    let day = some_is (x (first + r.place)) r.day (sym (day_at x first n r.place (omega (arith, r.back, size))) ∙ r.on_day) in
    record { day = first + r.place; low = omega arith; back = omega (arith, r.back, size); from = r.minute; at = r.job; listed = r.of_job; begins = ap (λ (d : _). r.job.begins d w.from) day ∙ r.begins; reach = r.lasts; reaches = says_reaches w r.holds_some r.ends_later }

pub shown_windows : {D : Type 0} (os : List (Job D)) (x : ℕ → D) (first n back m i : ℕ) (o : Job D) (day : ℕ) → first ≤ day → day + back + 1 ≡ first + n → m < 1440 → slice_get os i ≡ Some o → o.begins (x day) m ≡ true → reaches (window i back m o.lasts) ≡ true → Has (windows_on os (map x (range_with_len first n))) (window i back m o.lasts)
shown_windows os x first n back m i o day low is lt l b r =
    let size = length-map-range_with_len x first n in
    let k : first + (day - first) ≡ day = omega (arith, low) in
    let e = reaches_says (window i back m o.lasts) r in
    contains_has (windows_on os (map x (range_with_len first n))) (window i back m o.lasts)
    ((exact os (map x (range_with_len first n)) (window i back m o.lasts)).1 (record {
      job = o;
      of_job = l;
      place = day - first;
      back = omega (arith, low, is, size);
      day = x day;
      on_day = day_at x first n (day - first) (omega (arith, low, is)) ∙ ap (λ (d : ℕ). Some (x d)) k;
      minute = lt;
      begins = b;
      lasts = refl;
      holds_some = e.0;
      ends_later = e.1;
    }))
