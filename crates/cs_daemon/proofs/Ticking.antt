-- What a tick adds to a journal.
use Rattle.std.proofs.Common.{◌≡◌, ◌≢◌, ◌⊎◌, ◌<◌, ◌≤◌, ℕ, zero, suc, ◌+◌, ◌==◌, Bool, true, false, cond, if◌then◌else◌, List, [], ◌∷◌, ◌++◌, Option, None, Some, filter, refl, sym, ap, ◌∙◌, subst, append_assoc, append-nil, length, length-append, arith, rules, inl, inr, true≢false, Result, Ok, Err}
use Rattle.std.proofs.lemmas.List.{map-append}
use Rattle.std.specs.Prelude.{IfErr, IfSome, OnOk}
use Rattle.std.specs.List.{AllByRecursion}
use Rattle.cs_history.specs.Plan.{Plan}
use Rattle.cs_history.specs.Step.{State, after}
use Rattle.cs_history.specs.declared.run.Run.{Run}
use Rattle.cs_history.specs.declared.event.Event.{Event}
use Rattle.cs_history.specs.declared.event.Event.TheVariants.{Minute, Begin, Got, Catch, End, Down, Up}
use Rattle.cs_history.specs.declared.reply.Reply.{Reply}
use Rattle.cs_core.specs.Choices.{choices}
use Rattle.cs_core.specs.Standing.{Standing}
use Rattle.cs_keep.specs.Keeping.{Keeping, cut_here, is_end, plan_of, refusal_in, reply_in}
use Rattle.cs_keep.specs.Seat.{Place}
use Rattle.cs_keep.specs.Tick.{is_of, first, next_of, chosen, choosing, most, after_all, then_from, settling_catching, coming, advancing, moving_on, skipping, tick_events, stepped, stepped_by, IsForward, IsFullAt, Ticks}
use Rattle.cs_keep.specs.declared.tick.TickFault.{TickFault}
use Rattle.cs_keep.specs.declared.tick.TickFault.TheVariants.{ClockBack, HistoryFull, OutOfMemory}
use Rattle.cs_keep.proofs.Ticks.{ticks_now}
use Rattle.cs_daemon.specs.Starts.{Desk, HaveNoEnd, IsCut, IsRound, Rounds, desk, with_entries}
use Rattle.cs_daemon.specs.Ticked.{IsFull, Wrote, events_of}

abbrev pub NoEnds : List Event → Type 0
NoEnds es = AllByRecursion (λ e. is_end e ≡ false) es

-- the same as a record, from which the prover can infer the events
record Endless (es : List Event) : Type 0 where
  pub none : NoEnds es

both : (xs ys : List Event) → NoEnds xs → NoEnds ys → NoEnds (xs ++ ys)
both [] ys a b = b
both (x ∷ xs) ys a b = (a.0, both xs ys a.1 b)

front : (xs ys : List Event) → NoEnds (xs ++ ys) → NoEnds xs
front [] ys a = tt
front (x ∷ xs) ys a = (a.0, front xs ys a.1)

-- kinds of choices have a name only in the keep's crate
abbrev domain : {A B : Type 0} → (A → B) → Type 0
domain {A} f = A

abbrev Kind : Type 0
Kind = domain is_of

no_kind : (k : Kind) (r : Run) → is_of k (End r) ≡ false
no_kind k r = grind arith

-- an event that is chosen is no end
of_kind : (k : Kind) (e : Event) → is_of k e ≡ true → is_end e ≡ false
of_kind k (Minute t) h = refl
of_kind k (Begin j) h = refl
of_kind k (Got j d) h = refl
of_kind k (Catch j) h = refl
of_kind k (End r) h = absurd (true≢false (sym h ∙ no_kind k r))
of_kind k Down h = refl
of_kind k (Up t) h = refl

first_kind : (k : Kind) (es : List Event) → IfSome (first (filter (is_of k) es)) (λ e. is_of k e ≡ true)
first_kind k [] = tt
first_kind k (x ∷ xs) = go (is_of k x) refl (first_kind k xs)
  where
    go : (b : Bool) → is_of k x ≡ b → IfSome (first (filter (is_of k) xs)) (λ e. is_of k e ≡ true) → IfSome (first (cond b (x ∷ filter (is_of k) xs) (filter (is_of k) xs))) (λ e. is_of k e ≡ true)
    go true h rest = h
    go false h rest = rest

module _ (p : Plan) where
  chosen_ends : (k : Kind) (n : ℕ) (s : State) → NoEnds (chosen k p n s)
  chosen_ends k zero s = tt
  chosen_ends k (suc n) s = go (next_of k p s) (first_kind k (choices p s)) (λ e. chosen_ends k n (after p s e))
    where
      go : (o : Option Event) → IfSome o (λ e. is_of k e ≡ true) → ((e : Event) → NoEnds (chosen k p n (after p s e))) → NoEnds (elim o [ None ↦ [] | Some e ↦ e ∷ chosen k p n (after p s e) ])
      go None h rest = tt
      go (Some e) h rest = (of_kind k e h, rest e)

  choosing_ends : (k : Kind) (s : State) → Endless (choosing k p s)
  choosing_ends k s = record { none = chosen_ends k (most k s) s }

  then_ends : (s : State) (es : List Event) (next : State → List Event) → Endless es → ((t : State) → Endless (next t)) → Endless (then_from p s es next)
  then_ends s es next a b = record { none = both es (next (after_all p s es)) a.none (b (after_all p s es)).none }

  settled : (s : State) → Endless (settling_catching p s)
  settled s = search (then_ends, choosing_ends, rules)

  came : (m : ℕ) (s : State) → Endless (coming m p s)
  came m s = search (then_ends, choosing_ends, rules)

  advanced : (m : ℕ) (s : State) → Endless (advancing m p s)
  advanced m s = then_ends s (Minute m ∷ []) (settling_catching p) (record { none = (refl, tt) }) settled

  moved : (m : ℕ) (s : State) → Endless (moving_on m p s)
  moved m s = search (then_ends, choosing_ends, advanced, rules)

  skipped : (m : ℕ) (s : State) → Endless (skipping m p s)
  skipped m s = then_ends s (Down ∷ []) (coming m p) (record { none = (refl, tt) }) (came m)

  tick_ends : (m : ℕ) (s : State) → NoEnds (tick_events m p s)
  tick_ends m s = (go s.up (m == s.now) (m == s.now + 1)).none
    where
      go : (up b c : Bool) → Endless (if up then (if b then settling_catching p s else (if c then moving_on m p s else skipping m p s)) else coming m p s)
      go true true c = settled s
      go true false true = moved m s
      go true false false = skipped m s
      go false b c = came m s

-- what steps add to the journal
pub record Grown (t u : Keeping × Place) : Type 0 where
  pub more : List (Event × Reply)
  pub no_end : HaveNoEnd more
  pub journal : u.0.journal ≡ t.0.journal ++ more

grown_by : (t : Keeping × Place) (es : List Event) → NoEnds es → Grown t (stepped_by t es)
grown_by t [] none = record { more = []; no_end = tt; journal = sym (append-nil t.0.journal) }
grown_by t (e ∷ es) none =
    let r = grown_by (stepped t e) es none.1 in
    let x : Event × Reply = (e, reply_in t.0 e) in
    record {
      more = x ∷ r.more;
      no_end = (none.0, r.no_end);
      journal = r.journal ∙ append_assoc t.0.journal (x ∷ []) r.more;
    }

made : (t u : Keeping × Place) (es : List Event) → NoEnds es → u ≡ stepped_by t es → Grown t u
made t u es none left = subst (Grown t) (sym left) (grown_by t es none)

grown : (t u : Keeping × Place) (last m : ℕ) (r : Result (Unit {0}) TickFault) → Ticks t last m r u → Grown t u
grown t u last m (Ok v) h = made t u (tick_events m (plan_of t.0) t.0.core.state) (tick_ends (plan_of t.0) m t.0.core.state) h.1
grown t u last m (Err ClockBack) h = made t u [] tt h.1
grown t u last m (Err HistoryFull) h =
    made t u h.1.made (front h.1.made h.1.rest (subst NoEnds h.1.whole (tick_ends (plan_of t.0) m t.0.core.state))) h.1.left
grown t u last m (Err OutOfMemory) h =
    made t u h.1.made (front h.1.made h.1.rest (subst NoEnds h.1.whole (tick_ends (plan_of t.0) m t.0.core.state))) h.1.left

-- a round adds entries without an end, and may cut the journal
pub rounds : (old new : Keeping × Place) (from last m to : ℕ) (r : Result (Unit {0}) TickFault) → IsRound old from last m r new to → Rounds (desk old.0 from) (desk new.0 to)
rounds old new from last m to r h =
    let g = grown old (h.between, new.1) last m r h.ticks in
    let added : desk h.between from ≡ with_entries g.more (desk old.0 from) = ap (λ (j : List (Event × Reply)). record { journal = j; next = from }) g.journal in
    (g.more, g.no_end, subst (λ (d : Desk). IsCut d (desk new.0 to)) added h.cut)

pub same_core : (k n : Keeping) → (n ≡ cut_here k) ⊎ (n ≡ k) → n.core ≡ k.core
same_core k n (inl cut) = ap (λ (x : Keeping). x.core) cut
same_core k n (inr same) = ap (λ (x : Keeping). x.core) same

-- a round that isn't refused leads to its minute
pub arrives : (old new : Keeping × Place) (from last m to : ℕ) (r : Result (Unit {0}) TickFault) → IsRound old from last m r new to → OnOk r (new.0.core.state.now ≡ m)
arrives old new from last m to (Ok v) h =
    ap (λ (x : Standing). x.state.now) (same_core h.between new.0 h.keep) ∙ ticks_now old (h.between, new.1) last m (Ok v) h.ticks
arrives old new from last m to (Err f) h = tt

-- the place in the journal stays within it
pub ticks_place : (t u : Keeping × Place) (last m : ℕ) (r : Result (Unit {0}) TickFault) → Ticks t last m r u → (next : ℕ) → next ≤ length t.0.journal → next ≤ length u.0.journal
ticks_place t u last m r h next place =
    let g = grown t u last m r h in
    let long = length-append t.0.journal g.more in
    subst (λ (j : List (Event × Reply)). next ≤ length j) (sym g.journal) (omega (arith, long, place))

-- if the keep is at the last minute, the clock went back only if the new minute is before it
pub ticks_back : (t u : Keeping × Place) (last m : ℕ) (r : Result (Unit {0}) TickFault) → Ticks t last m r u → t.0.core.state.now ≡ last → IfErr r (λ f. f ≡ ClockBack → m < last)
ticks_back t u last m (Ok v) h same = tt
ticks_back t u last m (Err f) h same = go f h
  where
    is_back : TickFault → Bool
    is_back ClockBack = true
    is_back HistoryFull = false
    is_back OutOfMemory = false

    before : (t.0.core.state.now ≢ last) ⊎ (m < last) → m < last
    before (inl other) = absurd (other same)
    before (inr less) = less

    go : (f : TickFault) → Ticks t last m (Err f) u → f ≡ ClockBack → m < last
    go ClockBack back is = before back.0
    go HistoryFull full is = absurd (true≢false (sym (ap is_back is)))
    go OutOfMemory full is = absurd (true≢false (sym (ap is_back is)))

-- ---- what a tick leaves

-- what steps add to the events of a journal, and to a share
record Written (t u : Keeping × Place) (es : List Event) : Type 0 where
  pub journal : events_of u.0 ≡ events_of t.0 ++ es
  pub counted : u.1.share ≡ t.1.share + length es

written_by : (t : Keeping × Place) (es : List Event) → Written t (stepped_by t es) es
written_by t [] = record { journal = sym (append-nil (events_of t.0)); counted = omega arith }
written_by t (e ∷ es) =
    let r = written_by (stepped t e) es in
    let one : events_of (stepped t e).0 ≡ events_of t.0 ++ e ∷ [] = map-append (λ (x : Event × Reply). x.0) t.0.journal ((e, reply_in t.0 e) ∷ []) in
    record {
      journal = r.journal ∙ ap (λ (l : List Event). l ++ es) one ∙ append_assoc (events_of t.0) (e ∷ []) es;
      counted = omega (arith, r.counted);
    }

wrote : (t u : Keeping × Place) (last m : ℕ) (came left : List Event) → IsForward t.0.core.state last m → tick_events m (plan_of t.0) t.0.core.state ≡ came ++ left → u ≡ stepped_by t came
    → Wrote t last m u came left
wrote t u last m came left forward whole is =
    let w : Written t u came = subst (λ (x : Keeping × Place). Written t x came) (sym is) (written_by t came) in
    record { present = forward.0; forward = forward.1; whole = whole; journal = w.journal; counted = w.counted }

pub all_written : (t u : Keeping × Place) (last m : ℕ) (v : Unit {0}) → Ticks t last m (Ok v) u → Wrote t last m u (tick_events m (plan_of t.0) t.0.core.state) []
all_written t u last m v h =
    let es = tick_events m (plan_of t.0) t.0.core.state in
    wrote t u last m es [] h.0 (sym (append-nil es)) h.1

pub turned_back : (t u : Keeping × Place) (last m : ℕ) → Ticks t last m (Err ClockBack) u → (u ≡ t) × (t.0.core.state.now ≡ last → m < last)
turned_back t u last m h = (h.1, λ same. ticks_back t u last m (Err ClockBack) h same refl)

pub ran_full : (t u : Keeping × Place) (last m : ℕ) → Ticks t last m (Err HistoryFull) u → IsFull t last m u
ran_full t u last m h = go h.1.rest h.1.whole h.1.why
  where
    go : (rest : List Event) → tick_events m (plan_of t.0) t.0.core.state ≡ h.1.made ++ rest → IsFullAt (stepped_by t h.1.made).0 rest → IsFull t last m u
    go [] whole full = absurd full
    go (e ∷ es) whole full =
        record {
          came = h.1.made;
          next = e;
          later = es;
          wrote = wrote t u last m h.1.made (e ∷ es) h.0 whole h.1.left;
          refused = ap (λ (x : Keeping × Place). refusal_in x.0 e) h.1.left ∙ full;
        }

pub ran_out : (t u : Keeping × Place) (last m : ℕ) → Ticks t last m (Err OutOfMemory) u → (came left : List Event) × Wrote t last m u came left
ran_out t u last m h = (h.1.made, h.1.rest, wrote t u last m h.1.made h.1.rest h.0 h.1.whole h.1.left)
