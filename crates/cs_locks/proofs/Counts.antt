-- How many have a lock, and whose lock is free.
use Rattle.std.proofs.Common.{◌≡◌, ℕ, ◌+◌, ◌-◌, ◌<◌, ◌≤◌, ◌^◌, Bool, true, false, not, ◌&&◌, ◌||◌, if◌then◌else◌, nat_lt, List, [], ◌∷◌, ◌++◌, length, slice_index, slice_set, replicate, refl, sym, ap, ◌∙◌, arith, ⊎_elim}
use Rattle.std.specs.Prelude.{◌==◌}
use Rattle.std.specs.List.{AllByRecursion, list_any}
use Rattle.std.proofs.lemmas.Bool.{and_from, and_parts, both_ways, cases_eq, eqb-true, eq-eqb, lt-ltb, ltb-true, ltb-false, ne_eqb, or_cases, or_left, or_right}
use Rattle.std.proofs.lemmas.List.{get_or-replicate, get_or-set_other, get_or-set_same}
use Rattle.cs_history.specs.Lists.{number_of}
use Rattle.cs_history.proofs.Lists.{none_pass, total_push}
use Rattle.cs_locks.specs.Locks.{Counts, HasRoom, IsCounted, bars, frees_in, is_alone, is_listed, is_shared, takes}
use Rattle.cs_locks.specs.declared.hold.Hold.{Hold}
use Rattle.cs_locks.specs.declared.hold.Hold.TheVariants.{Nothing, Alone, Shared}

-- how many pass a test

pub number_push : (t : Hold → Bool) (hs : List Hold) (h : Hold) → number_of t (hs ++ h ∷ []) ≡ number_of t hs + (if t h then 1 else 0)
number_push t hs h = total_push (λ x. if t x then 1 else 0) hs h

number_most : (t : Hold → Bool) (hs : List Hold) → number_of t hs ≤ length hs
number_most t [] = omega arith
number_most t (h ∷ hs) = by (t h) (number_most t hs)
  where
    by : (b : Bool) → number_of t hs ≤ length hs → (if b then 1 else 0) + number_of t hs ≤ length (h ∷ hs)
    by true rest = omega (arith, rest)
    by false rest = omega (arith, rest)

any_number : (t : Hold → Bool) (hs : List Hold) → list_any t hs ≡ nat_lt 0 (number_of t hs)
any_number t [] = refl
any_number t (h ∷ hs) = by (t h) (any_number t hs)
  where
    by : (b : Bool) → list_any t hs ≡ nat_lt 0 (number_of t hs) → (b || list_any t hs) ≡ nat_lt 0 ((if b then 1 else 0) + number_of t hs)
    by true rest = sym (lt-ltb 0 (1 + number_of t hs) (omega arith))
    by false rest = rest ∙ ap (nat_lt 0) (omega arith)

any_same : (s t : Hold → Bool) (hs : List Hold) → ((h : Hold) → s h ≡ t h) → list_any s hs ≡ list_any t hs
any_same s t [] same = refl
any_same s t (h ∷ hs) same = ap (λ b. b || list_any s hs) (same h) ∙ ap (λ b. t h || b) (any_same s t hs same)

any_either : (s t : Hold → Bool) (hs : List Hold) → list_any (λ h. s h || t h) hs ≡ (list_any s hs || list_any t hs)
any_either s t [] = refl
any_either s t (h ∷ hs) = ap (λ b. (s h || t h) || b) (any_either s t hs) ∙ by (s h) (t h) (list_any s hs) (list_any t hs)
  where
    by : (a b c d : Bool) → ((a || b) || (c || d)) ≡ ((a || c) || (b || d))
    by true b c d = refl
    by false true true d = refl
    by false true false d = refl
    by false false c d = refl

any_more : (s t : Hold → Bool) (hs : List Hold) → ((h : Hold) → s h ≡ true → t h ≡ true) → list_any s hs ≡ true → list_any t hs ≡ true
any_more s t [] more any = any
any_more s t (h ∷ hs) more any =
    ⊎_elim (λ e. or_left (t h) (list_any t hs) (more h e)) (λ e. or_right (t h) (list_any t hs) (any_more s t hs more e)) (or_cases (s h) (list_any s hs) any)

-- who keeps a lock from whom

bars_alone : (g : ℕ) (h : Hold) → bars (Alone g) h ≡ (is_alone g h || is_shared g h)
bars_alone g Nothing = refl
bars_alone g (Alone k) = by (g == k)
  where
    by : (b : Bool) → ((b || false) && true) ≡ (b || false)
    by true = refl
    by false = refl
bars_alone g (Shared k) = by (g == k)
  where
    by : (b : Bool) → (b && true) ≡ b
    by true = refl
    by false = refl

bars_shared : (g : ℕ) (h : Hold) → bars (Shared g) h ≡ is_alone g h
bars_shared g Nothing = refl
bars_shared g (Alone k) = by (g == k)
  where
    by : (b : Bool) → ((b || false) && true) ≡ b
    by true = refl
    by false = refl
bars_shared g (Shared k) = by (g == k)
  where
    by : (b : Bool) → (b && false) ≡ false
    by true = refl
    by false = refl

-- by the counts
barred_alone : (g : ℕ) (hs : List Hold) → list_any (bars (Alone g)) hs ≡ (nat_lt 0 (number_of (is_alone g) hs) || nat_lt 0 (number_of (is_shared g) hs))
barred_alone g hs =
    any_same (bars (Alone g)) (λ h. is_alone g h || is_shared g h) hs (bars_alone g) ∙ any_either (is_alone g) (is_shared g) hs
    ∙ ap (λ b. b || list_any (is_shared g) hs) (any_number (is_alone g) hs) ∙ ap (λ b. nat_lt 0 (number_of (is_alone g) hs) || b) (any_number (is_shared g) hs)

barred_shared : (g : ℕ) (hs : List Hold) → list_any (bars (Shared g)) hs ≡ nat_lt 0 (number_of (is_alone g) hs)
barred_shared g hs = any_same (bars (Shared g)) (is_alone g) hs (bars_shared g) ∙ any_number (is_alone g) hs

pub barred_nothing : (hs : List Hold) → list_any (bars Nothing) hs ≡ false
barred_nothing [] = refl
barred_nothing (h ∷ hs) = barred_nothing hs

-- whether a lock is free, by a table's counts
abbrev pub free_by : Counts → Hold → Bool
free_by table Nothing = true
free_by table (Alone g) = (slice_index table.alone g == 0) && (slice_index table.shared g == 0)
free_by table (Shared g) = slice_index table.alone g == 0

is_none : (m n : ℕ) → m ≡ n → (m == 0) ≡ not (nat_lt 0 n)
is_none m n e = by (nat_lt 0 n) refl
  where
    by : (b : Bool) → nat_lt 0 n ≡ b → (m == 0) ≡ not b
    by true lt = grind (arith, e, ltb-true 0 n lt)
    by false le = eq-eqb m 0 (omega (arith, e, ltb-false 0 n le))

pub free : (table : Counts) (hs : List Hold) (w : Hold) → IsCounted hs table → is_listed w ≡ true → free_by table w ≡ not (list_any (bars w) hs)
free table hs Nothing counted listed = ap not (sym (barred_nothing hs))
free table hs (Alone g) counted listed =
    let lt : g < 64 = ltb-true g 64 listed in
    both (nat_lt 0 (number_of (is_alone g) hs)) (nat_lt 0 (number_of (is_shared g) hs)) (slice_index table.alone g == 0) (slice_index table.shared g == 0)
    (is_none _ _ (counted.alone g lt)) (is_none _ _ (counted.shared g lt)) ∙ ap not (sym (barred_alone g hs))
  where
    both : (a s x y : Bool) → x ≡ not a → y ≡ not s → (x && y) ≡ not (a || s)
    both true s x y e f = ap (λ b. b && y) e
    both false s x y e f = ap (λ b. b && y) e ∙ f
free table hs (Shared g) counted listed = is_none _ _ (counted.alone g (ltb-true g 64 listed)) ∙ ap not (sym (barred_shared g hs))

-- the same for values that are equal to these
pub free_as : (table was : Counts) (hs : List Hold) (w v : Hold) (b : Bool) → w ≡ v → was ≡ table → b ≡ free_by was v → IsCounted hs table → is_listed w ≡ true → b ≡ not (list_any (bars w) hs)
free_as table was hs w v b is same e counted listed = e ∙ ap (λ t. free_by t v) same ∙ ap (free_by table) (sym is) ∙ free table hs w counted listed

-- tables

pub none_counted : IsCounted [] (record { alone = replicate 64 0; shared = replicate 64 0 })
none_counted = record { alone = λ g lt. get_or-replicate {A = ℕ} 64 g 0 0 lt; shared = λ g lt. get_or-replicate {A = ℕ} 64 g 0 0 lt }

pub room : (hs : List Hold) (table : Counts) → length hs < 2 ^ 64 - 1 → IsCounted hs table → HasRoom table
room hs table few counted =
    record { alone = λ g lt. omega (arith, few, counted.alone g lt, number_most (is_alone g) hs); shared = λ g lt. omega (arith, few, counted.shared g lt, number_most (is_shared g) hs) }

set_more : (xs : List ℕ) (g k : ℕ) → g < length xs → slice_index (slice_set xs g (slice_index xs g + 1)) k ≡ slice_index xs k + (if k == g then 1 else 0)
set_more xs g k lt = ⊎_elim same other (cases_eq k g)
  where
    same : k ≡ g → slice_index (slice_set xs g (slice_index xs g + 1)) k ≡ slice_index xs k + (if k == g then 1 else 0)
    same e = grind (arith, e, lt, get_or-set_same xs g (slice_index xs g + 1) 0 lt, eq-eqb k g e)

    other : (k ≡ g → ⊥) → slice_index (slice_set xs g (slice_index xs g + 1)) k ≡ slice_index xs k + (if k == g then 1 else 0)
    other e = grind (arith, e, get_or-set_other xs g k (slice_index xs g + 1) 0 e, ne_eqb k g e)

pub nothing_more : (table : Counts) (hs : List Hold) → IsCounted hs table → IsCounted (hs ++ Nothing ∷ []) table
nothing_more table hs counted =
    record { alone = λ k lt. omega (arith, counted.alone k lt, number_push (is_alone k) hs Nothing); shared = λ k lt. omega (arith, counted.shared k lt, number_push (is_shared k) hs Nothing) }

pub alone_more : (table : Counts) (hs : List Hold) (w : Hold) (g : ℕ) → w ≡ Alone g → is_listed w ≡ true → length table.alone ≡ 64 → IsCounted hs table
    → IsCounted (hs ++ w ∷ []) (record { alone = slice_set table.alone g (slice_index table.alone g + 1); shared = table.shared })
alone_more table hs w g is listed long counted =
    record {
      alone = λ k lt. set_more table.alone g k below ∙ ap (λ n. n + (if k == g then 1 else 0)) (counted.alone k lt) ∙ sym (pushed (is_alone k));
      shared = λ k lt. omega (arith, counted.shared k lt, pushed (is_shared k));
    }
  where
    below : g < length table.alone
    below = let lt : g < 64 = ltb-true g 64 (sym (ap is_listed is) ∙ listed) in omega (arith, lt, long)

    pushed : (t : Hold → Bool) → number_of t (hs ++ w ∷ []) ≡ number_of t hs + (if t (Alone g) then 1 else 0)
    pushed t = ap (λ h. number_of t (hs ++ h ∷ [])) is ∙ number_push t hs (Alone g)

pub shared_more : (table : Counts) (hs : List Hold) (w : Hold) (g : ℕ) → w ≡ Shared g → is_listed w ≡ true → length table.shared ≡ 64 → IsCounted hs table
    → IsCounted (hs ++ w ∷ []) (record { alone = table.alone; shared = slice_set table.shared g (slice_index table.shared g + 1) })
shared_more table hs w g is listed long counted =
    record {
      alone = λ k lt. omega (arith, counted.alone k lt, pushed (is_alone k));
      shared = λ k lt. set_more table.shared g k below ∙ ap (λ n. n + (if k == g then 1 else 0)) (counted.shared k lt) ∙ sym (pushed (is_shared k));
    }
  where
    below : g < length table.shared
    below = let lt : g < 64 = ltb-true g 64 (sym (ap is_listed is) ∙ listed) in omega (arith, lt, long)

    pushed : (t : Hold → Bool) → number_of t (hs ++ w ∷ []) ≡ number_of t hs + (if t (Shared g) then 1 else 0)
    pushed t = ap (λ h. number_of t (hs ++ h ∷ [])) is ∙ number_push t hs (Shared g)

-- one whose lock is free

abbrev pub is_free_of : List Hold → Hold → Bool
is_free_of hs w = not (list_any (bars w) hs)

-- where a group frees one, one of those that wait has its lock free
pub found : (now waiting : Counts) (hs ws : List Hold) (g : ℕ) → IsCounted hs now → IsCounted ws waiting → g < 64 → frees_in now waiting g ≡ true → list_any (is_free_of hs) ws ≡ true
found now waiting hs ws g held waits lt frees =
    let two = and_parts (slice_index now.alone g == 0) _ frees in
    ⊎_elim (λ share. one (is_shared g) (waits.shared g lt) share (shares two.0))
    (λ both. let parts = and_parts (nat_lt 0 (slice_index waiting.alone g)) (slice_index now.shared g == 0) both in one (is_alone g) (waits.alone g lt) parts.0 (alone two.0 parts.1))
    (or_cases (nat_lt 0 (slice_index waiting.shared g)) _ two.1)
  where
    -- of the n that pass this test, one
    one : (t : Hold → Bool) {n : ℕ} → n ≡ number_of t ws → nat_lt 0 n ≡ true → ((w : Hold) → t w ≡ true → is_free_of hs w ≡ true) → list_any (is_free_of hs) ws ≡ true
    one t e some frees_each = any_more t (is_free_of hs) ws frees_each (any_number t ws ∙ ap (nat_lt 0) (sym e) ∙ some)

    shares : (slice_index now.alone g == 0) ≡ true → (w : Hold) → is_shared g w ≡ true → is_free_of hs w ≡ true
    shares none Nothing e = absurd (both_ways false refl e)
    shares none (Alone k) e = absurd (both_ways false refl e)
    shares none (Shared k) e =
        ap (λ j. is_free_of hs (Shared j)) (sym (eqb-true g k e)) ∙ sym (free now hs (Shared g) held (lt-ltb g 64 lt)) ∙ none

    alone : (slice_index now.alone g == 0) ≡ true → (slice_index now.shared g == 0) ≡ true → (w : Hold) → is_alone g w ≡ true → is_free_of hs w ≡ true
    alone none no_other Nothing e = absurd (both_ways false refl e)
    alone none no_other (Alone k) e =
        ap (λ j. is_free_of hs (Alone j)) (sym (eqb-true g k e)) ∙ sym (free now hs (Alone g) held (lt-ltb g 64 lt)) ∙ and_from _ _ none no_other
    alone none no_other (Shared k) e = absurd (both_ways false refl e)

-- where no group frees one, none has its lock free
pub none_found : (now waiting : Counts) (hs ws : List Hold) → IsCounted hs now → IsCounted ws waiting → ((g : ℕ) → g < 64 → frees_in now waiting g ≡ false)
    → AllByRecursion (λ w. takes w ≡ true) ws → AllByRecursion (λ w. is_listed w ≡ true) ws → list_any (is_free_of hs) ws ≡ false
none_found now waiting hs ws held waits none taking listed = none_pass (is_free_of hs) ws (each ws (λ t. omega arith) taking listed)
  where
    -- those that wait alone are counted, and so are those that share
    alone : (g : ℕ) → g < 64 → 0 < number_of (is_alone g) ws → is_free_of hs (Alone g) ≡ false
    alone g lt some =
        sym (free now hs (Alone g) held (lt-ltb g 64 lt))
        ∙ unfreed (slice_index now.alone g == 0) (nat_lt 0 (slice_index waiting.shared g)) (nat_lt 0 (slice_index waiting.alone g)) (slice_index now.shared g == 0) (lt-ltb 0 (slice_index waiting.alone g) (omega (arith, some, waits.alone g lt))) (none g lt)
      where
        unfreed : (a s w b : Bool) → w ≡ true → (a && (s || (w && b))) ≡ false → (a && b) ≡ false
        unfreed false s w b e f = refl
        unfreed true true w b e f = absurd (both_ways true f refl)
        unfreed true false true b e f = f
        unfreed true false false b e f = absurd (both_ways false refl e)

    shared : (g : ℕ) → g < 64 → 0 < number_of (is_shared g) ws → is_free_of hs (Shared g) ≡ false
    shared g lt some =
        sym (free now hs (Shared g) held (lt-ltb g 64 lt))
        ∙ unfreed (slice_index now.alone g == 0) (nat_lt 0 (slice_index waiting.shared g)) (nat_lt 0 (slice_index waiting.alone g) && (slice_index now.shared g == 0)) (lt-ltb 0 (slice_index waiting.shared g) (omega (arith, some, waits.shared g lt))) (none g lt)
      where
        unfreed : (a s w : Bool) → s ≡ true → (a && (s || w)) ≡ false → a ≡ false
        unfreed false s w e f = refl
        unfreed true true w e f = absurd (both_ways true f refl)
        unfreed true false w e f = absurd (both_ways false refl e)

    of_one : (w : Hold) → takes w ≡ true → is_listed w ≡ true → ((t : Hold → Bool) → t w ≡ true → 0 < number_of t ws) → is_free_of hs w ≡ false
    of_one Nothing taking listed is_one = absurd (both_ways false refl taking)
    of_one (Alone g) taking listed is_one = alone g (ltb-true g 64 listed) (is_one (is_alone g) (eq-eqb g g refl))
    of_one (Shared g) taking listed is_one = shared g (ltb-true g 64 listed) (is_one (is_shared g) (eq-eqb g g refl))

    counted_one : (v : Hold) (vs : List Hold) (t : Hold → Bool) → t v ≡ true → number_of t (v ∷ vs) ≤ number_of t ws → 0 < number_of t ws
    counted_one v vs t e few = first (t v) e few
      where
        first : (b : Bool) → b ≡ true → (if b then 1 else 0) + number_of t vs ≤ number_of t ws → 0 < number_of t ws
        first true e few = omega (arith, few)
        first false e few = absurd (both_ways false refl e)

    one_of : (b : Bool) → b ≡ true → 1 ≤ (if b then 1 else 0)
    one_of true e = omega arith
    one_of false e = absurd (both_ways false refl e)

    each : (vs : List Hold) → ((t : Hold → Bool) → number_of t vs ≤ number_of t ws) → AllByRecursion (λ w. takes w ≡ true) vs → AllByRecursion (λ w. is_listed w ≡ true) vs
        → AllByRecursion (λ w. is_free_of hs w ≡ false) vs
    each [] fewer taking listed = tt
    each (v ∷ vs) fewer taking listed = (
      of_one v taking.0 listed.0 (λ t e. counted_one v vs t e (fewer t)),
      each vs (λ t. omega (arith, fewer t)) taking.1 listed.1,
    )
