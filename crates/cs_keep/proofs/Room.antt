-- Room for an event and for the ends of what runs.
use Rattle.std.proofs.Common.{◌≡◌, ℕ, ◌+◌, ◌-◌, ◌^◌, ◌<◌, ◌≤◌, Bool, true, false, not, cond, ◌||◌, if◌then◌else◌, List, [], ◌∷◌, length, filter, Option, Some, None, refl, ap, ◌∙◌, arith, inl, inr, ⊎_elim, ◌⊎◌, nat_lt}
use Rattle.std.specs.List.{list_any}
use Rattle.std.proofs.lemmas.Bool.{lt-ltb, le-ltb, or_cases, both_ways}
use Rattle.cs_history.specs.Plan.{Plan}
use Rattle.cs_history.specs.History.{same_run}
use Rattle.cs_history.specs.Step.{State, after, refusal}
use Rattle.cs_history.specs.declared.event.Event.{Event}
use Rattle.cs_history.specs.declared.event.Event.TheVariants.{Minute, Begin, Got, Catch, End, Down, Up}
use Rattle.cs_history.specs.declared.run.Run.{Run}
use Rattle.cs_history.specs.declared.run.Going.{Going}
use Rattle.cs_history.specs.declared.refusal.Refusal.{Refusal}
use Rattle.cs_history.specs.declared.refusal.Refusal.TheVariants.{HistoryFull, OutOfMemory}
use Rattle.cs_history.proofs.Steps.{passed}
use Rattle.std.specs.Prelude.{vec_len, vec_capacity}
use Rattle.cs_keep.specs.Invariant.{Holds, seen}
use Rattle.cs_keep.specs.declared.journaled_core.JournaledCore.TheInside.{Inside}
use Rattle.cs_keep.specs.declared.limits.TheConstants.{MAX_ENTRIES}
use Rattle.cs_keep.specs.Keeping.{Keeping, plan_of, runs_after, is_full, or_full, is_end, IsRefused}

-- what is left of a list without those that pass the test
module _ {X : Type 0} (t : X → Bool) where
  pub rest_within : (xs : List X) → length (filter (λ x. not (t x)) xs) ≤ length xs
  rest_within [] = omega arith
  rest_within (x ∷ xs) = go (t x) (rest_within xs)
    where
      go : (s : Bool) → length (filter (λ x. not (t x)) xs) ≤ length xs → length (cond (not s) (x ∷ filter (λ x. not (t x)) xs) (filter (λ x. not (t x)) xs)) ≤ length (x ∷ xs)
      go true h = omega (arith, h)
      go false h = omega (arith, h)

  pub rest_fewer : (xs : List X) → list_any t xs ≡ true → length (filter (λ x. not (t x)) xs) + 1 ≤ length xs
  rest_fewer [] e = absurd (cc)
  rest_fewer (x ∷ xs) e = go (t x) refl (rest_within xs) (rest_fewer xs)
    where
      rest : t x ≡ false → list_any t xs ≡ true
      rest n = ⊎_elim (λ h. absurd (both_ways (t x) n h)) (λ h. h) (or_cases (t x) (list_any t xs) e)

      go : (s : Bool) → t x ≡ s → length (filter (λ x. not (t x)) xs) ≤ length xs → (list_any t xs ≡ true → length (filter (λ x. not (t x)) xs) + 1 ≤ length xs) → length (cond (not s) (x ∷ filter (λ x. not (t x)) xs) (filter (λ x. not (t x)) xs)) + 1 ≤ length (x ∷ xs)
      go true n h more = omega (arith, h)
      go false n h more = omega (arith, more (rest n))

pub end_room : (p : Plan) (s : State) (r : Run) → refusal p s (End r) ≡ None → length (after p s (End r)).running + 1 ≤ length s.running
end_room p s r n = rest_fewer (λ (x : Going). same_run r x.run) s.running (passed _ _ _ n).0

is_end_room : (p : Plan) (s : State) (e : Event) → refusal p s e ≡ None → is_end e ≡ true → length (after p s e).running + 1 ≤ length s.running
is_end_room p s (Minute t) n h = absurd (cc)
is_end_room p s (Begin j) n h = absurd (cc)
is_end_room p s (Got j d) n h = absurd (cc)
is_end_room p s (Catch j) n h = absurd (cc)
is_end_room p s (End r) n h = end_room p s r n
is_end_room p s Down n h = absurd (cc)
is_end_room p s (Up t) n h = absurd (cc)

pub full_by : (k : Keeping) (e : Event) → (MAX_ENTRIES < length k.journal + 1 + runs_after k e) ⊎ (2 ^ 64 - 1 < k.total + 1 + runs_after k e) → is_full k e ≡ true
full_by k e (inl h) = ap (λ (b : Bool). b || nat_lt (2 ^ 64 - 1) (k.total + 1 + runs_after k e)) (lt-ltb MAX_ENTRIES (length k.journal + 1 + runs_after k e) h)
full_by k e (inr h) = or_right (nat_lt MAX_ENTRIES (length k.journal + 1 + runs_after k e)) (nat_lt (2 ^ 64 - 1) (k.total + 1 + runs_after k e)) (lt-ltb (2 ^ 64 - 1) (k.total + 1 + runs_after k e) h)
  where
    or_right : (a b : Bool) → b ≡ true → (a || b) ≡ true
    or_right true b e = refl
    or_right false b e = e

pub not_full : (k : Keeping) (e : Event) → length k.journal + 1 + runs_after k e ≤ MAX_ENTRIES → k.total + 1 + runs_after k e ≤ 2 ^ 64 - 1 → is_full k e ≡ false
not_full k e a b =
    ap (λ (x : Bool). x || nat_lt (2 ^ 64 - 1) (k.total + 1 + runs_after k e)) (le-ltb MAX_ENTRIES (length k.journal + 1 + runs_after k e) a)
    ∙ le-ltb (2 ^ 64 - 1) (k.total + 1 + runs_after k e) b

first_is : (o : Option Refusal) (b : Bool) → o ≡ None → (or_full o b) ≡ (if b then Some HistoryFull else None)
first_is o b e = ap (λ x. or_full x b) e

-- a refusal because the journal is full
pub refused_full : (k : Keeping) (e : Event) → refusal (plan_of k) k.core.state e ≡ None → length k.journal + length k.core.state.running ≤ MAX_ENTRIES → k.total + length k.core.state.running < 2 ^ 64
    → (MAX_ENTRIES < length k.journal + 1 + runs_after k e) ⊎ (2 ^ 64 - 1 < k.total + 1 + runs_after k e) → IsRefused k e HistoryFull
refused_full k e n few counted h = record {
  first = inl (first_is (refusal (plan_of k) k.core.state e) (is_full k e) n ∙ ap (λ (b : Bool). if b then Some HistoryFull else None) (full_by k e h));
  end = λ q. let room = is_end_room (plan_of k) k.core.state e n q in absurd (⊎_elim (λ x. omega (arith, room, few, x)) (λ x. omega (arith, room, counted, x)) h);
}

-- a refusal because memory runs out, where the event needs more than the room kept
pub refused_memory : (k : Keeping) (e : Event) → refusal (plan_of k) k.core.state e ≡ None → length k.journal + 1 + runs_after k e ≤ MAX_ENTRIES → k.total + 1 + runs_after k e ≤ 2 ^ 64 - 1
    → length k.core.state.running < 1 + runs_after k e → IsRefused k e OutOfMemory
refused_memory k e n a b h = record {
  first = inr (first_is (refusal (plan_of k) k.core.state e) (is_full k e) n ∙ ap (λ (b : Bool). if b then Some HistoryFull else None) (not_full k e a b), refl);
  end = λ q. let room = is_end_room (plan_of k) k.core.state e n q in absurd (omega (arith, room, h));
}

-- the same for the fields of a core with its journal
module _ (a : Inside) (holds : Holds a) (e : Event) (runs : ℕ) (is : runs ≡ runs_after (seen a) e) (free : refusal (plan_of (seen a)) a.core.state e ≡ None) where
  len : vec_len a.journal ≡ length a.journal.items
  len = a.journal.ok.0

  pub refused_when_full : (MAX_ENTRIES - vec_len a.journal ≤ runs) ⊎ ((runs ≤ 2 ^ 64 - 2) × (2 ^ 64 - 2 - runs < a.total)) → IsRefused (seen a) e HistoryFull
  refused_when_full h = refused_full (seen a) e free (omega (arith, holds.entries, len)) holds.counted (⊎_elim (λ x. inl (omega (arith, x, is, len, holds.entries))) (λ x. inr (omega (arith, x.0, x.1, is))) h)

  pub refused_by_memory : runs < MAX_ENTRIES - vec_len a.journal → a.total ≤ 2 ^ 64 - 2 - runs → vec_capacity a.journal < vec_len a.journal + (1 + runs) → IsRefused (seen a) e OutOfMemory
  refused_by_memory f g h = refused_memory (seen a) e free (omega (arith, f, is, len)) (omega (arith, f, g, is)) (omega (arith, h, holds.room, is))
