-- Entries by name, some of them marked as left.
use Rattle.std.proofs.Common.{◌≡◌, ℕ, suc, ◌+◌, ◌≤◌, Bool, true, false, ◌||◌, not, cond, filter, List, [], ◌∷◌, ◌++◌, Option, None, Some, Result, Ok, Err, OnErr, length, refl, sym, ap, subst, ◌∙◌, arith, ◌-◌}
use Rattle.std.specs.Prelude.{find}
use Rattle.std.specs.List.{AllByRecursion, IsDistinct}
use Rattle.std.specs.Map.{keys_of, lookup, remove_entry}
use Rattle.std.specs.Option.{is_some, option_map}
use Rattle.std.proofs.lemmas.Bool.{both_ways}
use Rattle.std.proofs.lemmas.Map.Keys.{IsDistinct-head, IsDistinct-tail}
use Rattle.indexmap.specs.IndexMap.{insert_entry}
use Rattle.cs_history.specs.History.{same_run}
use Rattle.cs_history.specs.declared.run.Run.{Run}
use Rattle.cs_history.specs.declared.run.Going.{Going}
use Rattle.cs_history.proofs.Names.{run_is}
use Rattle.cs_roster.specs.Roster.{AreKept, has, others, still, unless_left}

abbrev Entries : Type 0
Entries = List (Run × Option ℕ)

abbrev came : Run → ℕ → Going
came r since = record { run = r; since = since }

abbrev is_there : Option (Option ℕ) → Bool
is_there None = false
is_there (Some since) = is_some since

has_head : (r : Run) (e : Run × Option ℕ) (rest : List Going) (a : Bool) → has rest r ≡ a → same_run r e.0 ≡ false → has (unless_left e.0 e.1 ++ rest) r ≡ a
has_head r e rest a h differs = by e.1
  where
    by : (o : Option ℕ) → has (unless_left e.0 o ++ rest) r ≡ a
    by None = h
    by (Some since) = ap (λ (b : Bool). b || has rest r) differs ∙ h

none_has : (r : Run) (es : Entries) → AllByRecursion (λ k. same_run r k ≡ false) (keys_of es) → has (still es) r ≡ false
none_has r [] h = refl
none_has r (e ∷ es) h = has_head r e (still es) false (none_has r es h.1) h.0

-- no entry after one of this name has it too
others_differ : (r : Run) (e : Run × Option ℕ) (es : Entries) → same_run r e.0 ≡ true → IsDistinct same_run (keys_of (e ∷ es)) → has (still es) r ≡ false
others_differ r e es same d = none_has r es (subst (λ (q : Run). AllByRecursion (λ k. same_run q k ≡ false) (keys_of es)) (sym (run_is r e.0 same)) (IsDistinct-head same_run e.0 (keys_of es) d))

has_lookup : (r : Run) (es : Entries) → IsDistinct same_run (keys_of es) → has (still es) r ≡ is_there (lookup (same_run r) es)
has_lookup r [] d = refl
has_lookup r (e ∷ es) d = by (same_run r e.0) refl (has_lookup r es (IsDistinct-tail same_run e.0 (keys_of es) d))
  where
    same_name : same_run r e.0 ≡ true → (o : Option ℕ) → has (unless_left e.0 o ++ still es) r ≡ is_some o
    same_name same None = others_differ r e es same d
    same_name same (Some since) = ap (λ (b : Bool). b || has (still es) r) same

    by : (b : Bool) → same_run r e.0 ≡ b → has (still es) r ≡ is_there (lookup (same_run r) es) → has (still (e ∷ es)) r ≡ is_there (cond b (Some e.1) (lookup (same_run r) es))
    by true same rest = same_name same e.1
    by false differs rest = has_head r e (still es) _ rest differs

pub there_some : (r : Run) (es : Entries) (gone : ℕ) (since : Option ℕ) → AreKept es gone → Some since ≡ lookup (same_run r) es → is_some since ≡ has (still es) r
there_some r es gone since kept found = ap is_there found ∙ sym (has_lookup r es kept.distinct)

pub there_none : (r : Run) (es : Entries) (gone : ℕ) → AreKept es gone → None ≡ lookup (same_run r) es → false ≡ has (still es) r
there_none r es gone kept found = ap is_there found ∙ sym (has_lookup r es kept.distinct)

abbrev pub since_in : List Going → Run → Option ℕ
since_in runs r = option_map (λ x. x.since) (find (λ x. same_run r x.run) runs)

abbrev joined : Option (Option ℕ) → Option ℕ
joined None = None
joined (Some since) = since

since_head : (r : Run) (x : Going) (rest : List Going) (b : Bool) → same_run r x.run ≡ b → since_in (x ∷ rest) r ≡ cond b (Some x.since) (since_in rest r)
since_head r x rest true same = ap (λ (b : Bool). option_map (λ (y : Going). y.since) (cond b (Some x) (find (λ y. same_run r y.run) rest))) same
since_head r x rest false same = ap (λ (b : Bool). option_map (λ (y : Going). y.since) (cond b (Some x) (find (λ y. same_run r y.run) rest))) same

none_since : (r : Run) (runs : List Going) → has runs r ≡ false → since_in runs r ≡ None
none_since r [] h = refl
none_since r (x ∷ xs) h = by (same_run r x.run) refl (none_since r xs)
  where
    by : (b : Bool) → same_run r x.run ≡ b → (has xs r ≡ false → since_in xs r ≡ None) → since_in (x ∷ xs) r ≡ None
    by true same rest = absurd (both_ways (has (x ∷ xs) r) h (ap (λ (b : Bool). b || has xs r) same))
    by false same rest = since_head r x xs false same ∙ rest (sym (ap (λ (b : Bool). b || has xs r) same) ∙ h)

since_lookup : (r : Run) (es : Entries) → IsDistinct same_run (keys_of es) → since_in (still es) r ≡ joined (lookup (same_run r) es)
since_lookup r [] d = refl
since_lookup r (e ∷ es) d = by (same_run r e.0) refl (since_lookup r es (IsDistinct-tail same_run e.0 (keys_of es) d)) e.1
  where
    by : (b : Bool) → same_run r e.0 ≡ b → since_in (still es) r ≡ joined (lookup (same_run r) es) → (o : Option ℕ) → since_in (unless_left e.0 o ++ still es) r ≡ joined (cond b (Some o) (lookup (same_run r) es))
    by true same rest None = none_since r (still es) (others_differ r e es same d)
    by true same rest (Some since) = since_head r (came e.0 since) (still es) true same
    by false same rest None = rest
    by false same rest (Some since) = since_head r (came e.0 since) (still es) false same ∙ rest

pub since_some : (r : Run) (es : Entries) (gone : ℕ) (since : Option ℕ) → AreKept es gone → Some since ≡ lookup (same_run r) es → since ≡ since_in (still es) r
since_some r es gone since kept found = ap joined found ∙ sym (since_lookup r es kept.distinct)

pub since_none : (r : Run) (es : Entries) (gone : ℕ) → AreKept es gone → None ≡ lookup (same_run r) es → None ≡ since_in (still es) r
since_none r es gone kept found = ap joined found ∙ sym (since_lookup r es kept.distinct)

-- a run that isn't among them leaves nothing out
others_head : (r : Run) (x : Going) (rest : List Going) (b : Bool) → same_run r x.run ≡ b → others (x ∷ rest) r ≡ cond b (others rest r) (x ∷ others rest r)
others_head r x rest true same = ap (λ (b : Bool). cond (not b) (x ∷ others rest r) (others rest r)) same
others_head r x rest false same = ap (λ (b : Bool). cond (not b) (x ∷ others rest r) (others rest r)) same

pub no_others : (r : Run) (runs : List Going) → has runs r ≡ false → others runs r ≡ runs
no_others r [] h = refl
no_others r (x ∷ xs) h = by (same_run r x.run) refl (no_others r xs)
  where
    by : (b : Bool) → same_run r x.run ≡ b → (has xs r ≡ false → others xs r ≡ xs) → others (x ∷ xs) r ≡ x ∷ xs
    by true same rest = absurd (both_ways (has (x ∷ xs) r) h (ap (λ (b : Bool). b || has xs r) same))
    by false same rest = others_head r x xs false same ∙ ap (λ (ys : List Going). x ∷ ys) (rest (sym (ap (λ (b : Bool). b || has xs r) same) ∙ h))

pub nothing_to_remove : (r : Run) (runs : List Going) → has runs r ≡ false → runs ≡ others runs r
nothing_to_remove r runs h = sym (no_others r runs h)

abbrev marked : Entries → Run → Entries
marked es r = insert_entry same_run es r None

still_marked : (r : Run) (es : Entries) → IsDistinct same_run (keys_of es) → is_some (lookup (same_run r) es) ≡ true → still (marked es r) ≡ others (still es) r
still_marked r [] d found = absurd (both_ways false refl found)
still_marked r (e ∷ es) d found = by (same_run r e.0) refl found (still_marked r es (IsDistinct-tail same_run e.0 (keys_of es) d)) e.1
  where
    by : (b : Bool) → same_run r e.0 ≡ b → is_some (cond b (Some e.1) (lookup (same_run r) es)) ≡ true → (is_some (lookup (same_run r) es) ≡ true → still (marked es r) ≡ others (still es) r) → (o : Option ℕ)
        → still (cond b ((e.0, None) ∷ es) ((e.0, o) ∷ marked es r)) ≡ others (unless_left e.0 o ++ still es) r
    by true same f rest None = sym (no_others r (still es) (others_differ r e es same d))
    by true same f rest (Some since) = sym (no_others r (still es) (others_differ r e es same d)) ∙ sym (others_head r (came e.0 since) (still es) true same)
    by false same f rest None = rest f
    by false same f rest (Some since) = ap (λ (ys : List Going). came e.0 since ∷ ys) (rest f) ∙ sym (others_head r (came e.0 since) (still es) false same)

marked_less : (r : Run) (es : Entries) → IsDistinct same_run (keys_of es) → has (still es) r ≡ true → length (still (marked es r)) + 1 ≡ length (still es)
marked_less r [] d h = absurd (both_ways false refl h)
marked_less r (e ∷ es) d h = by (same_run r e.0) refl (marked_less r es (IsDistinct-tail same_run e.0 (keys_of es) d)) e.1 h
  where
    by : (b : Bool) → same_run r e.0 ≡ b → (has (still es) r ≡ true → length (still (marked es r)) + 1 ≡ length (still es)) → (o : Option ℕ) → has (unless_left e.0 o ++ still es) r ≡ true
        → length (still (cond b ((e.0, None) ∷ es) ((e.0, o) ∷ marked es r))) + 1 ≡ length (unless_left e.0 o ++ still es)
    by true same rest None g = absurd (both_ways (has (still es) r) (others_differ r e es same d) g)
    by true same rest (Some since) g = omega arith
    by false same rest None g = rest g
    by false same rest (Some since) g = omega (arith, rest (sym (ap (λ (b : Bool). b || has (still es) r) same) ∙ g))

pub came_last : (r : Run) (since : ℕ) (es : Entries) → lookup (same_run r) es ≡ None → still (insert_entry same_run es r (Some since)) ≡ still es ++ came r since ∷ []
came_last r since [] absent = refl
came_last r since (e ∷ es) absent = by (same_run r e.0) absent (came_last r since es) e.1
  where
    by : (b : Bool) → cond b (Some e.1) (lookup (same_run r) es) ≡ None → (lookup (same_run r) es ≡ None → still (insert_entry same_run es r (Some since)) ≡ still es ++ came r since ∷ []) → (o : Option ℕ)
        → still (cond b ((e.0, Some since) ∷ es) ((e.0, o) ∷ insert_entry same_run es r (Some since))) ≡ (unless_left e.0 o ++ still es) ++ came r since ∷ []
    by true f rest o = absurd (both_ways true (ap is_some f) refl)
    by false f rest None = rest f
    by false f rest (Some t) = ap (λ (ys : List Going). came e.0 t ∷ ys) (rest f)

-- a mark that is dropped
still_without : (r : Run) (es : Entries) → has (still es) r ≡ false → still (remove_entry (same_run r) es) ≡ still es
still_without r [] h = refl
still_without r (e ∷ es) h = by (same_run r e.0) refl (still_without r es) e.1 h
  where
    by : (b : Bool) → same_run r e.0 ≡ b → (has (still es) r ≡ false → still (remove_entry (same_run r) es) ≡ still es) → (o : Option ℕ) → has (unless_left e.0 o ++ still es) r ≡ false
        → still (cond b es ((e.0, o) ∷ remove_entry (same_run r) es)) ≡ unless_left e.0 o ++ still es
    by true same rest None g = refl
    by true same rest (Some since) g = absurd (both_ways (has (came e.0 since ∷ still es) r) g (ap (λ (b : Bool). b || has (still es) r) same))
    by false same rest None g = rest g
    by false same rest (Some since) g = ap (λ (ys : List Going). came e.0 since ∷ ys) (rest (sym (ap (λ (b : Bool). b || has (still es) r) same) ∙ g))

pub still_fewer : (es : Entries) → length (still es) ≤ length es
still_fewer [] = omega arith
still_fewer (e ∷ es) = by e.1 (still_fewer es)
  where
    by : (o : Option ℕ) → length (still es) ≤ length es → length (unless_left e.0 o ++ still es) ≤ suc (length es)
    by None h = omega (arith, h)
    by (Some since) h = omega (arith, h)

-- a run that isn't marked has an entry
pub is_entry : (r : Run) (es : Entries) → IsDistinct same_run (keys_of es) → has (still es) r ≡ true → is_some (lookup (same_run r) es) ≡ true
is_entry r es d h = by (lookup (same_run r) es) (sym (has_lookup r es d) ∙ h)
  where
    by : (o : Option (Option ℕ)) → is_there o ≡ true → is_some o ≡ true
    by None e = e
    by (Some since) e = refl

pub no_entry : (r : Run) (es : Entries) → IsDistinct same_run (keys_of es) → has (still es) r ≡ true → lookup (same_run r) es ≡ None → ⊥
no_entry r es d h none = both_ways (is_some (lookup (same_run r) es)) (ap is_some none) (is_entry r es d h)

pub view_marked : (r : Run) (es fs : Entries) (gone : ℕ) → AreKept es gone → has (still es) r ≡ true → fs ≡ marked es r → still fs ≡ others (still es) r
view_marked r es fs gone kept h is = ap still is ∙ still_marked r es kept.distinct (is_entry r es kept.distinct h)

pub kept_marked : (r : Run) (es fs : Entries) (gone here all : ℕ) → AreKept es gone → has (still es) r ≡ true → fs ≡ marked es r → IsDistinct same_run (keys_of fs) → here ≡ length (still es) → all ≡ length fs → AreKept fs (all - (here - 1))
kept_marked r es fs gone here all kept h is distinct counted listed =
    let less : length (still fs) + 1 ≡ length (still es) = ap (λ (gs : Entries). length (still gs) + 1) is ∙ marked_less r es kept.distinct h in
    record { distinct = distinct; count = omega (arith, less, counted, listed, still_fewer fs) }

pub view_without : (r : Run) (es fs : Entries) → has (still es) r ≡ false → fs ≡ remove_entry (same_run r) es → still fs ≡ still es
view_without r es fs h is = ap still is ∙ still_without r es h

pub room_without : (r : Run) (es fs : Entries) (here all : ℕ) → has (still es) r ≡ false → fs ≡ remove_entry (same_run r) es → here ≡ length (still es) → all ≡ length fs → here ≤ all
room_without r es fs here all h is counted listed = let same = ap length (view_without r es fs h is) in omega (arith, same, counted, listed, still_fewer fs)

pub kept_without : (r : Run) (es fs gs : Entries) (here all : ℕ) → has (still es) r ≡ false → fs ≡ remove_entry (same_run r) es → gs ≡ fs → IsDistinct same_run (keys_of gs) → here ≡ length (still es) → all ≡ length fs → AreKept gs (all - here)
kept_without r es fs gs here all h is unchanged distinct counted listed =
    let same = ap length (view_without r es fs h is) in
    let still_same = ap (λ (ks : Entries). length (still ks)) unchanged in
    let long = ap length unchanged in
    record { distinct = distinct; count = omega (arith, same, still_same, long, counted, listed, still_fewer fs) }

pub view_more : (r : Run) (since : ℕ) (es fs gs : Entries) → has (still es) r ≡ false → fs ≡ remove_entry (same_run r) es → lookup (same_run r) fs ≡ None → gs ≡ insert_entry same_run fs r (Some since) → still gs ≡ still es ++ came r since ∷ []
view_more r since es fs gs h is absent more = ap still more ∙ came_last r since fs absent ∙ ap (λ (ks : List Going). ks ++ came r since ∷ []) (view_without r es fs h is)

one_more : (ks : List Going) (x : Going) → length (ks ++ x ∷ []) ≡ length ks + 1
one_more [] x = omega arith
one_more (k ∷ ks) x = let rest = one_more ks x in omega (arith, rest)

pub kept_more : (r : Run) (since : ℕ) (es fs gs : Entries) (here all : ℕ) → has (still es) r ≡ false → fs ≡ remove_entry (same_run r) es → lookup (same_run r) fs ≡ None → gs ≡ insert_entry same_run fs r (Some since) → IsDistinct same_run (keys_of gs)
    → here ≡ length (still es) → all ≡ length fs → length gs ≡ length fs + 1 → AreKept gs (all - here)
kept_more r since es fs gs here all h is absent more distinct counted listed long =
    let same = ap length (view_without r es fs h is) in
    let now = ap length (view_more r since es fs gs h is absent more) ∙ one_more (still es) (came r since) in
    record { distinct = distinct; count = omega (arith, same, now, long, counted, listed, still_fewer fs) }

still_swept : (es : Entries) → still (filter (λ e. is_some e.1) es) ≡ still es
still_swept [] = refl
still_swept (e ∷ es) = by e.1 (still_swept es)
  where
    by : (o : Option ℕ) → still (filter (λ f. is_some f.1) es) ≡ still es → still (cond (is_some o) ((e.0, o) ∷ filter (λ f. is_some f.1) es) (filter (λ f. is_some f.1) es)) ≡ unless_left e.0 o ++ still es
    by None rest = rest
    by (Some since) rest = ap (λ (ys : List Going). came e.0 since ∷ ys) rest

none_marked : (es : Entries) → length (still (filter (λ e. is_some e.1) es)) ≡ length (filter (λ e. is_some e.1) es)
none_marked [] = refl
none_marked (e ∷ es) = by e.1 (none_marked es)
  where
    by : (o : Option ℕ) → length (still (filter (λ f. is_some f.1) es)) ≡ length (filter (λ f. is_some f.1) es)
        → length (still (cond (is_some o) ((e.0, o) ∷ filter (λ f. is_some f.1) es) (filter (λ f. is_some f.1) es))) ≡ length (cond (is_some o) ((e.0, o) ∷ filter (λ f. is_some f.1) es) (filter (λ f. is_some f.1) es))
    by None rest = rest
    by (Some since) rest = ap suc rest

pub view_swept : (es fs : Entries) → fs ≡ filter (λ e. is_some e.1) es → still fs ≡ still es
view_swept es fs is = ap still is ∙ still_swept es

pub kept_swept : (es fs : Entries) → fs ≡ filter (λ e. is_some e.1) es → IsDistinct same_run (keys_of fs) → AreKept fs 0
kept_swept es fs is distinct =
    let all = ap (λ (gs : Entries). length (still gs)) is ∙ none_marked es ∙ ap length (sym is) in
    record { distinct = distinct; count = omega (arith, all) }

-- what holds anyway holds at an error
pub on_err : {X E : Type 0} {P : Type 0} (r : Result X E) → P → OnErr r P
on_err (Ok x) p = tt
on_err (Err e) p = p

-- the runs that are still to come
pub first_there : (r : Run) (since : ℕ) (o : Option ℕ) (es rest : Entries) (runs : List Going) → still es ≡ runs → es ≡ (r, o) ∷ rest → o ≡ Some since → runs ≡ came r since ∷ still rest
first_there r since o es rest runs now first came_then = sym now ∙ ap still first ∙ ap (λ p. unless_left r p ++ still rest) came_then

pub first_left : (r : Run) (o : Option ℕ) (es rest : Entries) (runs : List Going) → still es ≡ runs → es ≡ (r, o) ∷ rest → o ≡ None → still rest ≡ runs
first_left r o es rest runs now first left = sym (ap (λ p. unless_left r p ++ still rest) left) ∙ sym (ap still first) ∙ now

pub none_counted : (runs : List Going) → length runs ≡ 0 → runs ≡ []
none_counted [] e = refl
none_counted (x ∷ xs) e = absurd (omega (arith, e))

pub some_counted : (runs : List Going) → runs ≡ [] → length runs ≡ 0
some_counted runs e = ap length e
