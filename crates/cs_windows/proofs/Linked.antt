-- The windows of one job and of later ones, linked.
use Rattle.std.proofs.Common.{◌≡◌, ◌≢◌, ℕ, zero, suc, ◌+◌, ◌-◌, ◌*◌, ◌/◌, ◌%◌, ◌^◌, ◌<◌, ◌≤◌, ◌++◌, ◌&&◌, Bool, true, false, cond, nat_eq, nat_lt, List, [], ◌∷◌, Some, refl, sym, ap, ◌∙◌, subst, arith, filter, length, get_or, set, slice_index, get_or-set_same, get_or-set_other, append_assoc, inl, inr, ◌⊎◌}
use Rattle.std.specs.Prelude.{slice_get, flat_map}
use Rattle.std.specs.Int.{bit_at, w32, trailing_zeros}
use Rattle.std.specs.Int.Count.{trailing_of_zero}
use Rattle.std.specs.List.{range_with_len}
use Rattle.std.proofs.lemmas.Bool.{cases_lt, eq-eqb, lt-ltb, le-ltb}
use Rattle.std.proofs.lemmas.Bool.Decides.{eqb_tells}
use Rattle.std.proofs.lemmas.Nat.{shr-shr, shr_le}
use Rattle.std.proofs.lemmas.Nat.Bits.{bit_at-trailing_zeros, bit_at-zero}
use Rattle.std.proofs.lemmas.Option.{slice_get_within, slice_get-get_or, get_or_from_slice_get}
use Rattle.std.proofs.lemmas.List.{get_or_append_left, length-append}
use Rattle.std.proofs.lemmas.List.Elements.{filter-append}
use Rattle.std.proofs.Math.Seq.{get_or-append_seam}
use Rattle.cs_civil.specs.Calendar.{Kind}
use Rattle.cs_schedule.specs.Numbers.{has_bit}
use Rattle.cs_windows.specs.declared.links.Link.{Link}
use Rattle.cs_windows.specs.declared.window.Window.{Window}
use Rattle.cs_windows.specs.Links.{AreLinked, AreBegun, with_own}
use Rattle.cs_windows.specs.Window.{window, reaches}
use Rattle.cs_windows.specs.Windows.{Job, starting}
use Rattle.cs_windows.proofs.Minutes.{minutes_more}

-- a link that is there stays where it is
get_more : (links : List Link) (new link : Link) (place : ℕ) → slice_get links place ≡ Some link → slice_get (links ++ new ∷ []) place ≡ Some link
get_more links new link place e =
    let lt = slice_get_within links place link e in
    slice_get-get_or (links ++ new ∷ []) place link (omega (arith, lt, length-append links (new ∷ [])))
    ∙ ap (λ (l : Link). Some l) (get_or_append_left links (new ∷ []) link place lt ∙ get_or_from_slice_get links place link link e)

linked_more : (links : List Link) (new : Link) (first : ℕ) (ws : List Window) → AreLinked links first ws → AreLinked (links ++ new ∷ []) first ws
linked_more links new first [] e = e
linked_more links new first (w ∷ ws) (place, at, next, before, e, rest) =
    (place, at, next, before, get_more links new (record { window = w; next = next }) place e, linked_more links new next ws rest)

pub within : (links : List Link) (first : ℕ) (ws : List Window) → AreLinked links first ws → first ≤ length links
within links first [] e = omega (arith, e)
within links first (w ∷ ws) (place, at, next, before, e, rest) = omega (arith, at, slice_get_within links place (record { window = w; next = next }) e)

linked_first : (links : List Link) (w : Window) (first : ℕ) (ws : List Window) → AreLinked links first ws → AreLinked (links ++ record { window = w; next = first } ∷ []) (length links + 1) (w ∷ ws)
linked_first links w first ws h =
    let new : Link = record { window = w; next = first } in (
      length links,
      refl,
      first,
      within links first ws h,
      slice_get-get_or (links ++ new ∷ []) (length links) new (omega (arith, length-append links (new ∷ []))) ∙ ap (λ (l : Link). Some l) (get_or-append_seam links new [] new),
      linked_more links new first ws h,
    )

some_link : (l k : Link) → Some l ≡ Some k → l ≡ k
some_link l k e = cc

-- from one link on there are the same windows
pub linked_same : (links : List Link) (first : ℕ) (vs ws : List Window) → AreLinked links first vs → AreLinked links first ws → vs ≡ ws
linked_same links first [] [] e f = refl
linked_same links first [] (w ∷ ws) e (place, at, next, before, is, rest) = absurd (omega (arith, e, at))
linked_same links first (v ∷ vs) [] (place, at, next, before, is, rest) f = absurd (omega (arith, f, at))
linked_same links first (v ∷ vs) (w ∷ ws) (place, at, next, before, e, rest) (place', at', next', before', e', rest') =
    let same : place ≡ place' = omega (arith, at, at') in
    let link = some_link (record { window = v; next = next }) (record { window = w; next = next' }) (sym e ∙ ap (slice_get links) same ∙ e') in
    ap (λ (l : Link). l.window ∷ vs) link
    ∙ ap (λ (us : List Window). w ∷ us) (linked_same links next' vs ws (subst (λ (n : ℕ). AreLinked links n vs) (ap (λ (l : Link). l.next) link) rest) rest')

-- what one link says of those from it on
pub link_step : (links : List Link) (first : ℕ) (ws : List Window) (or : Link) → 0 < first → AreLinked links first ws
    → (more : List Window) × (ws ≡ (get_or links (first - 1) or).window ∷ more) × AreLinked links (get_or links (first - 1) or).next more × ((get_or links (first - 1) or).next < first)
link_step links first [] or some e = absurd (omega (arith, e, some))
link_step links first (w ∷ ws) or some (place, at, next, before, e, rest) =
    let own : Link = record { window = w; next = next } in
    let here : place ≡ first - 1 = omega (arith, at) in
    let same : own ≡ get_or links (first - 1) or = sym (get_or_from_slice_get links place own or e) ∙ ap (λ (n : ℕ). get_or links n or) here in
    (ws, ap (λ (l : Link). l.window ∷ ws) same, subst (λ (l : Link). AreLinked links l.next ws) same rest, subst (λ (l : Link). l.next < first) same (omega (arith, at, before)))

abbrev pub no_link : Link
no_link = record { window = window 0 0 0 0; next = 0 }

put_step : (links : List Link) (firsts : List ℕ) (w : Window) (from minute : ℕ) (ws : List Window) → from < length firsts → AreLinked links (slice_index firsts minute) ws
    → AreLinked (links ++ record { window = w; next = slice_index firsts from } ∷ []) (slice_index (set firsts from (length links + 1)) minute) (cond (nat_eq minute from) (w ∷ ws) ws)
put_step links firsts w from minute ws lt h =
    let new : Link = record { window = w; next = slice_index firsts from } in
    elim (eqb_tells minute from) [
      | inl same ↦
          rw (same.0, same.1, get_or-set_same firsts from (length links + 1) 0 lt)
          (linked_first links w (slice_index firsts from) ws (subst (λ (m : ℕ). AreLinked links (slice_index firsts m) ws) same.1 h))
      | inr other ↦ rw (other.0, get_or-set_other firsts from minute (length links + 1) 0 other.1) (linked_more links new (slice_index firsts minute) ws h)
    ]

and-true : (b : Bool) → (b && true) ≡ b
and-true true = refl
and-true false = refl

-- a window that reaches the day is put before those of its minute
pub put_first : (links after : List Link) (firsts : List ℕ) (w : Window) (count : ℕ) → w.from < length firsts → reaches w ≡ true → after ≡ links ++ record { window = w; next = slice_index firsts w.from } ∷ [] → count ≡ length after
    → (minute : ℕ) (ws : List Window) → AreLinked links (slice_index firsts minute) ws → AreLinked after (slice_index (set firsts w.from count) minute) (cond (nat_eq minute w.from && reaches w) (w ∷ ws) ws)
put_first links after firsts w count lt reach e n minute ws h =
    let new : Link = record { window = w; next = slice_index firsts w.from } in
    let count_is : length links + 1 ≡ count = sym (n ∙ ap (λ (ls : List Link). length ls) e ∙ length-append links (new ∷ [])) in
    let first = slice_index (set firsts w.from count) minute in
    subst (λ (ls : List Link). AreLinked ls first (cond (nat_eq minute w.from && reaches w) (w ∷ ws) ws)) (sym e)
    (subst (λ (b : Bool). AreLinked (links ++ new ∷ []) first (cond b (w ∷ ws) ws)) (sym (ap (λ (b : Bool). nat_eq minute w.from && b) reach ∙ and-true (nat_eq minute w.from)))
    (subst (λ (k : ℕ). AreLinked (links ++ new ∷ []) (slice_index (set firsts w.from k) minute) (cond (nat_eq minute w.from) (w ∷ ws) ws)) count_is (put_step links firsts w w.from minute ws lt h)))

-- what the lowest bit from a place on says of the bits there
bits_below : (bits place i : ℕ) → bits < 2 ^ 32 → i < trailing_zeros w32 (bits / 2 ^ place) → has_bit bits (place + i) ≡ false
bits_below bits place i fits low =
    ap (λ (n : ℕ). nat_eq (n % 2) 1) (sym (shr-shr bits place i)) ∙ ap (λ (b : ℕ). nat_eq b 1) (below (bits / 2 ^ place) (omega (arith, fits, shr_le bits place)) low)
  where
    below : (n : ℕ) → n < 2 ^ 32 → i < trailing_zeros w32 n → bit_at n i ≡ 0
    below zero lt l = bit_at-zero i
    below (suc n) lt l = (bit_at-trailing_zeros w32 (suc n) (omega arith) lt).2 i l

bit_there : (bits place : ℕ) → bits < 2 ^ 32 → trailing_zeros w32 (bits / 2 ^ place) < 32 → has_bit bits (place + trailing_zeros w32 (bits / 2 ^ place)) ≡ true
bit_there bits place fits low =
    ap (λ (n : ℕ). nat_eq (n % 2) 1) (sym (shr-shr bits place (trailing_zeros w32 (bits / 2 ^ place)))) ∙ ap (λ (b : ℕ). nat_eq b 1) (there (bits / 2 ^ place) (omega (arith, fits, shr_le bits place)) low)
  where
    there : (n : ℕ) → n < 2 ^ 32 → trailing_zeros w32 n < 32 → bit_at n (trailing_zeros w32 n) ≡ 1
    there zero lt l = absurd (omega (arith, l, trailing_of_zero 32))
    there (suc n) lt l = (bit_at-trailing_zeros w32 (suc n) (omega arith) lt).1

-- where no window of the job begins between two ends, both give the same
same_ends : (begins : ℕ → Bool) (w : Window) (low high minute : ℕ) (ws : List Window) → low ≤ high → ((m : ℕ) → low ≤ m → m < high → begins m ≡ false) → with_own begins w low minute ws ≡ with_own begins w high minute ws
same_ends begins w low high minute ws le none =
    ap (λ (b : Bool). cond b (window w.job w.day_back minute w.reach ∷ ws) ws) (test (reaches (window w.job w.day_back minute w.reach)))
  where
    test : (r : Bool) → (nat_lt minute low && (begins minute && r)) ≡ (nat_lt minute high && (begins minute && r))
    test r =
        elim (cases_lt minute low) [
          | inl lt ↦ rw (lt-ltb minute low lt, lt-ltb minute high (omega (arith, lt))) refl
          | inr ge ↦
              elim (cases_lt minute high) [
                | inl lt ↦ rw (none minute ge lt, le-ltb minute low ge, lt-ltb minute high lt) refl
                | inr past ↦ rw (le-ltb minute low ge, le-ltb minute high past) refl
              ]
        ]

-- the window of one minute is put before the others
own_step : (begins : ℕ → Bool) (w : Window) (k : ℕ) (links after : List Link) (firsts next : List ℕ) (minute : ℕ) (ws : List Window) → begins k ≡ true
    → ((m : ℕ) (vs : List Window) → AreLinked links (slice_index firsts m) vs → AreLinked after (slice_index next m) (cond (nat_eq m k && reaches (window w.job w.day_back k w.reach)) (window w.job w.day_back k w.reach ∷ vs) vs))
    → AreLinked links (slice_index firsts minute) (with_own begins w k minute ws) → AreLinked after (slice_index next minute) (with_own begins w (k + 1) minute ws)
own_step begins w k links after firsts next minute ws due put h =
    elim (eqb_tells minute k) [
      | inl same ↦ subst (λ (m : ℕ). AreLinked links (slice_index firsts m) (with_own begins w k m ws) → AreLinked after (slice_index next m) (with_own begins w (k + 1) m ws)) (sym same.1) here h
      | inr other ↦
          let old = with_own begins w k minute ws in
          let own = window w.job w.day_back k w.reach in
          let both : nat_lt minute k ≡ nat_lt minute (k + 1) = ends (cases_lt minute k) other.1 in
          subst (λ (b : Bool). AreLinked after (slice_index next minute) (cond (b && (begins minute && reaches (window w.job w.day_back minute w.reach))) (window w.job w.day_back minute w.reach ∷ ws) ws)) both
          (subst (λ (b : Bool). AreLinked after (slice_index next minute) (cond (b && reaches own) (own ∷ old) old)) other.0 (put minute old h))
    ]
  where
    ends : (minute < k) ⊎ (k ≤ minute) → minute ≢ k → nat_lt minute k ≡ nat_lt minute (k + 1)
    ends (inl lt) ne = lt-ltb minute k lt ∙ sym (lt-ltb minute (k + 1) (omega (arith, lt)))
    ends (inr ge) ne = le-ltb minute k ge ∙ sym (le-ltb minute (k + 1) (omega (arith, ge, ne)))

    here : AreLinked links (slice_index firsts k) (with_own begins w k k ws) → AreLinked after (slice_index next k) (with_own begins w (k + 1) k ws)
    here g =
        let own = window w.job w.day_back k w.reach in
        let was : nat_lt k k ≡ false = le-ltb k k (omega arith) in
        let both : (nat_eq k k && reaches own) ≡ (nat_lt k (k + 1) && (begins k && reaches own)) =
        ap (λ (b : Bool). b && reaches own) (eq-eqb k k refl) ∙ sym (ap (λ (b : Bool). b && (begins k && reaches own)) (lt-ltb k (k + 1) (omega arith)) ∙ ap (λ (b : Bool). b && reaches own) due) in
        subst (λ (b : Bool). AreLinked after (slice_index next k) (cond b (own ∷ ws) ws)) both
        (put k ws (subst (λ (b : Bool). AreLinked links (slice_index firsts k) (cond (b && (begins k && reaches own)) (own ∷ ws) ws)) was g))

none_between : (bits place from : ℕ) (begins : ℕ → Bool) → bits < 2 ^ 32 → ((i : ℕ) → i < 32 → has_bit bits i ≡ begins (from + i)) → (m : ℕ) → from + place ≤ m → m < from + (place + trailing_zeros w32 (bits / 2 ^ place)) → m < from + 32 → begins m ≡ false
none_between bits place from begins fits each m low high below =
    let i = m - (from + place) in
    let whole : from + (place + i) ≡ m = omega (arith, low) in
    ap begins (sym whole) ∙ sym (each (place + i) (omega (arith, low, below))) ∙ bits_below bits place i fits (omega (arith, low, high))

-- the step of a loop over the starts of a block
pub bit_step : (bits place : ℕ) (w : Window) (links after : List Link) (firsts next : List ℕ) → bits < 2 ^ 32 → place + trailing_zeros w32 (bits / 2 ^ place) < 32
    → ((m : ℕ) (vs : List Window) → AreLinked links (slice_index firsts m) vs
    → AreLinked after (slice_index next m) (cond (nat_eq m (w.from + (place + trailing_zeros w32 (bits / 2 ^ place))) && reaches (window w.job w.day_back (w.from + (place + trailing_zeros w32 (bits / 2 ^ place))) w.reach))
    (window w.job w.day_back (w.from + (place + trailing_zeros w32 (bits / 2 ^ place))) w.reach ∷ vs) vs))
    → (begins : ℕ → Bool) (minute : ℕ) (ws : List Window) → ((i : ℕ) → i < 32 → has_bit bits i ≡ begins (w.from + i))
    → AreLinked links (slice_index firsts minute) (with_own begins w (w.from + place) minute ws) → AreLinked after (slice_index next minute) (with_own begins w (w.from + (place + trailing_zeros w32 (bits / 2 ^ place) + 1)) minute ws)
bit_step bits place w links after firsts next fits low put begins minute ws each h =
    let clear = trailing_zeros w32 (bits / 2 ^ place) in
    let k = w.from + (place + clear) in
    let due : begins k ≡ true = sym (each (place + clear) low) ∙ bit_there bits place fits (omega (arith, low)) in
    let last : k + 1 ≡ w.from + (place + clear + 1) = omega arith in
    subst (λ (n : ℕ). AreLinked after (slice_index next minute) (with_own begins w n minute ws)) last
    (own_step begins w k links after firsts next minute ws due put
    (subst (AreLinked links (slice_index firsts minute)) (same_ends begins w (w.from + place) k minute ws (omega arith) (λ m from to. none_between bits place w.from begins fits each m from to (omega (arith, to, low)))) h))

-- no start is left in the block
pub block_end : (bits place : ℕ) (w : Window) (links : List Link) (first : ℕ) → bits < 2 ^ 32 → place ≤ 32 → 32 ≤ place + trailing_zeros w32 (bits / 2 ^ place)
    → (begins : ℕ → Bool) (minute : ℕ) (ws : List Window) → ((i : ℕ) → i < 32 → has_bit bits i ≡ begins (w.from + i))
    → AreLinked links first (with_own begins w (w.from + place) minute ws) → AreLinked links first (with_own begins w (w.from + 32) minute ws)
block_end bits place w links first fits within past begins minute ws each h =
    subst (AreLinked links first) (same_ends begins w (w.from + place) (w.from + 32) minute ws (omega (arith, within)) (λ m from to. none_between bits place w.from begins fits each m from (omega (arith, to, past)) to)) h

-- no window is put before those of earlier blocks
pub none_before : (begins : ℕ → Bool) (w : Window) (end : ℕ) → ((m : ℕ) → m < end → m + w.reach ≤ 1440 * w.day_back) → (minute : ℕ) (ws : List Window) → ws ≡ with_own begins w end minute ws
none_before begins w end out minute ws =
    sym (ap (λ (b : Bool). cond b (window w.job w.day_back minute w.reach ∷ ws) ws)
    (elim (cases_lt minute end) [
      | inl lt ↦ unreached (nat_lt minute end) (begins minute) (nat_lt 0 w.reach) (le-ltb (1440 * w.day_back) (minute + w.reach) (out minute lt))
      | inr ge ↦ ap (λ (b : Bool). b && (begins minute && reaches (window w.job w.day_back minute w.reach))) (le-ltb minute end ge)
    ]))
  where
    unreached : (a b r : Bool) {s : Bool} → s ≡ false → (a && (b && (r && s))) ≡ false
    unreached false b r e = refl
    unreached true false r e = refl
    unreached true true false e = refl
    unreached true true true e = e

-- the window of a job is put before those of later jobs
starting_own : (job : Job Kind) (jobs : List (Job Kind)) (day : Kind) (w : Window) (minute end : ℕ) → w.reach ≡ job.lasts → minute < end
    → with_own (job.begins day) w end minute (filter reaches (starting day w.day_back minute (w.job + 1) jobs)) ≡ filter reaches (starting day w.day_back minute w.job (job ∷ jobs))
starting_own job jobs day w minute end e lt =
    ap (λ (b : Bool). cond (b && (job.begins day minute && reaches (own w.reach))) (own w.reach ∷ filter reaches rest) (filter reaches rest)) (lt-ltb minute end lt)
    ∙ ap (λ (n : ℕ). cond (job.begins day minute && reaches (own n)) (own n ∷ filter reaches rest) (filter reaches rest)) e
    ∙ step (job.begins day minute) (reaches (own job.lasts)) refl
  where
    rest : List Window
    rest = starting day w.day_back minute (w.job + 1) jobs

    own : ℕ → Window
    own reach = window w.job w.day_back minute reach

    step : (b r : Bool) → reaches (own job.lasts) ≡ r → cond (b && reaches (own job.lasts)) (own job.lasts ∷ filter reaches rest) (filter reaches rest) ≡ filter reaches (cond b (own job.lasts ∷ rest) rest)
    step false r q = refl
    step true true q = rw q refl
    step true false q = rw q refl

-- once all blocks were gone over
pub job_begun : (links after : List Link) (firsts next : List ℕ) (job : Job Kind) (jobs : List (Job Kind)) (day : Kind) (w : Window) (end : ℕ) → w.reach ≡ job.lasts → 1440 ≤ end
    → ((m : ℕ) → m < 1440 → (ws : List Window) → AreLinked links (slice_index firsts m) ws → AreLinked after (slice_index next m) (with_own (job.begins day) w end m ws))
    → AreBegun links firsts day w.day_back (w.job + 1) jobs → AreBegun after next day w.day_back w.job (job ∷ jobs)
job_begun links after firsts next job jobs day w end e whole all before m lt =
    subst (AreLinked after (slice_index next m)) (starting_own job jobs day w m end e (omega (arith, lt, whole))) (all m lt (filter reaches (starting day w.day_back m (w.job + 1) jobs)) (before m lt))

-- the step of a loop over minutes that adds what passes of each
pub minute_step : {A : Type 0} (p : A → Bool) (f : ℕ → List A) (n : ℕ) (start now next : List A) → now ≡ start ++ filter p (flat_map f (range_with_len 0 n)) → next ≡ now ++ filter p (f n) → next ≡ start ++ filter p (flat_map f (range_with_len 0 (n + 1)))
minute_step p f n start now next h k =
    let before = flat_map f (range_with_len 0 n) in
    k ∙ ap (λ xs. xs ++ filter p (f n)) h ∙ append_assoc start (filter p before) (filter p (f n))
    ∙ ap (λ xs. start ++ xs) (sym (ap (filter p) (minutes_more f n) ∙ filter-append p before (f n)))
