-- The first choice of a kind, again and again.
use Rattle.std.proofs.Common.{◌≡◌, ℕ, zero, suc, ◌+◌, ◌-◌, ◌*◌, ◌<◌, ◌≤◌, Bool, true, false, not, cond, ◌&&◌, ◌||◌, ◌==◌, if◌then◌else◌, List, [], ◌∷◌, ◌++◌, length, filter, Option, Some, None, refl, sym, ap, ◌∙◌, subst, arith, inl, inr, ⊎_elim, ◌⊎◌, append_assoc, length-append}
use Rattle.std.specs.Prelude.{Contains, ◌%◌, nat_le, nat_lt}
use Rattle.std.specs.List.{list_any}
use Rattle.std.proofs.lemmas.Bool.{or_cases, both_ways, false_from_ne_true, and_parts, and_from, eq-eqb}
use Rattle.cs_history.specs.Plan.{Plan, IsCivil, is_cron}
use Rattle.cs_history.specs.History.{Pass, pass_of, without_first, run_of, same_run, is_free, answer, Answer, Starts, Waits, Skips, with_waiting}
use Rattle.cs_history.specs.Names.{jobs_left}
use Rattle.cs_history.specs.Step.{State, after, refusal, is_settled, is_nothing, is_turn}
use Rattle.cs_history.specs.declared.run.Run.{Run}
use Rattle.cs_history.specs.declared.event.Event.{Event}
use Rattle.cs_history.specs.declared.event.Event.TheVariants.{Minute, Begin, Got, Catch, End, Down, Up}
use Rattle.cs_history.specs.declared.refusal.Refusal.{Refusal}
use Rattle.cs_history.proofs.Steps.{passed, passes, turn_if}
use Rattle.cs_core.specs.Choices.{choices, candidates, is_none}
use Rattle.cs_core.proofs.Members.{listed}
use Rattle.cs_keep.specs.declared.tick.Kind.{Kind}
use Rattle.cs_keep.specs.declared.tick.Kind.TheVariants.{Settling, Catching}
use Rattle.cs_keep.specs.Tick.{is_of, first, next_of, chosen, most, choosing, after_all}
use Rattle.cs_keep.proofs.Room.{rest_fewer}

first_passes : (t q : Event → Bool) (es : List Event) (e : Event) → first (filter t (filter q es)) ≡ Some e → (t e ≡ true) × (q e ≡ true)
first_passes t q [] e h = absurd (cc)
first_passes t q (x ∷ es) e h = go (q x) refl (first_passes t q es e) h
  where
    here : (s : Bool) → t x ≡ s → q x ≡ true → (first (filter t (filter q es)) ≡ Some e → (t e ≡ true) × (q e ≡ true)) → first (cond s (x ∷ filter t (filter q es)) (filter t (filter q es))) ≡ Some e → (t e ≡ true) × (q e ≡ true)
    here true p r rest h = let same : x ≡ e = cc in (subst (λ y. t y ≡ true) same p, subst (λ y. q y ≡ true) same r)
    here false p r rest h = rest h

    go : (s : Bool) → q x ≡ s → (first (filter t (filter q es)) ≡ Some e → (t e ≡ true) × (q e ≡ true)) → first (filter t (cond s (x ∷ filter q es) (filter q es))) ≡ Some e → (t e ≡ true) × (q e ≡ true)
    go true r rest h = here (t x) refl r rest h
    go false r rest h = rest h

no_refusal : (o : Option Refusal) → is_none o ≡ true → o ≡ None
no_refusal None e = refl
no_refusal (Some f) e = absurd (cc)

pub next_is : (k : Kind) (p : Plan) (s : State) (e : Event) → next_of k p s ≡ Some e → (is_of k e ≡ true) × (refusal p s e ≡ None)
next_is k p s e h = let q = first_passes (is_of k) (λ e. is_none (refusal p s e)) (candidates s) e h in (q.0, no_refusal (refusal p s e) q.1)

none_passes : (t : Event → Bool) (es : List Event) → first (filter t es) ≡ None → (e : Event) (i : ℕ) → i < length es → Rattle.std.proofs.Common.get_or es i e ≡ e → t e ≡ false
none_passes t [] h e i l g = absurd (omega (arith, l))
none_passes t (x ∷ es) h e i l g = go (t x) refl h (λ n. none_passes t es n e) i l g
  where
    go : (s : Bool) → t x ≡ s → first (cond s (x ∷ filter t es) (filter t es)) ≡ None → (first (filter t es) ≡ None → (j : ℕ) → j < length es → Rattle.std.proofs.Common.get_or es j e ≡ e → t e ≡ false) → (j : ℕ) → j < length (x ∷ es) → Rattle.std.proofs.Common.get_or (x ∷ es) j e ≡ e → t e ≡ false
    go true p h rest j l g = absurd (cc)
    go false p h rest zero l g = subst (λ y. t y ≡ false) g p
    go false p h rest (suc j) l g = rest h j (omega (arith, l)) g

pub none_of : (k : Kind) (p : Plan) (s : State) → next_of k p s ≡ None → (e : Event) → Contains (choices p s) e → is_of k e ≡ false
none_of k p s h e c = none_passes (is_of k) (choices p s) h e c.0 c.1 c.2

-- an event of a kind leaves fewer of the kind
waiting_most : (a : Answer) (ws : List Run) (w : Run) → length (with_waiting a ws w) ≤ length ws + 1
waiting_most Starts ws w = omega arith
waiting_most Waits ws w = let e = length-append ws (w ∷ []) in omega (arith, e)
waiting_most Skips ws w = omega arith

left_pass : (t : ℕ) (js : List ℕ) → jobs_left (pass_of t js) ≡ js
left_pass t [] = refl
left_pass t (j ∷ js) = refl

fewer_left : (p : Plan) (s : State) (j : ℕ) → refusal p s (Catch j) ≡ None → length (jobs_left (without_first s.pass)) + 1 ≤ length (jobs_left s.pass)
fewer_left p s j n =
    let turn = is_turn p s.now s.pass j in
    let alone = not (list_any (λ r. not (is_cron p r.run.job)) s.running) in
    let from = nat_le p.from (s.now % 1440) in
    let q = and_parts (turn && alone && from) (nat_lt (s.now % 1440) p.to) (passed _ _ _ (passed s.up _ _ n).1).0 in
    let r = and_parts (turn && alone) from q.0 in
    let o = turn_if p s.now s.pass j (and_parts turn alone r.0).0 in
    let left : length (jobs_left (without_first s.pass)) ≡ length o.1 = ap (λ (x : Option Pass). length (jobs_left (without_first x))) o.2 ∙ ap length (left_pass o.0 o.1) in
    let all : length (jobs_left s.pass) ≡ suc (length o.1) = ap (λ (x : Option Pass). length (jobs_left x)) o.2 in
    omega (arith, left, all)

fewer_settling : (p : Plan) (s : State) (e : Event) → is_of Settling e ≡ true → refusal p s e ≡ None → most Settling (after p s e) < most Settling s
fewer_settling p s (Minute t) k n = absurd (cc)
fewer_settling p s (Begin j) k n =
    let a = rest_fewer (λ i. j == i) s.pending (passed _ _ _ (passed s.up _ _ n).1).0 in
    let b = waiting_most (answer p s.running j) s.waiting (run_of j s.now) in
    omega (arith, a, b)
fewer_settling p s (Got j d) k n = let a = rest_fewer (same_run (run_of j d)) s.waiting (passed _ _ _ (passed s.up _ _ n).1).0 in omega (arith, a)
fewer_settling p s (Catch j) k n = absurd (cc)
fewer_settling p s (End r) k n = absurd (cc)
fewer_settling p s Down k n = absurd (cc)
fewer_settling p s (Up t) k n = absurd (cc)

fewer_catching : (p : Plan) (s : State) (e : Event) → is_of Catching e ≡ true → refusal p s e ≡ None → most Catching (after p s e) < most Catching s
fewer_catching p s (Minute t) k n = absurd (cc)
fewer_catching p s (Begin j) k n = absurd (cc)
fewer_catching p s (Got j d) k n = absurd (cc)
fewer_catching p s (Catch j) k n = let a = fewer_left p s j n in omega (arith, a)
fewer_catching p s (End r) k n = absurd (cc)
fewer_catching p s Down k n = absurd (cc)
fewer_catching p s (Up t) k n = absurd (cc)

pub fewer : (k : Kind) (p : Plan) (s : State) (e : Event) → next_of k p s ≡ Some e → most k (after p s e) < most k s
fewer Settling p s e h = let q = next_is Settling p s e h in fewer_settling p s e q.0 q.1
fewer Catching p s e h = let q = next_is Catching p s e h in fewer_catching p s e q.0 q.1

-- any two numbers that are enough give the same events
module _ (k : Kind) (p : Plan) where
  none_left : (n : ℕ) (s : State) → next_of k p s ≡ None → chosen k p n s ≡ []
  none_left zero s h = refl
  none_left (suc n) s h = ap (λ (o : Option Event). elim o [ None ↦ [] | Some e ↦ e ∷ chosen k p n (after p s e) ]) h

  one_more : (n : ℕ) (s : State) (e : Event) → next_of k p s ≡ Some e → chosen k p (suc n) s ≡ e ∷ chosen k p n (after p s e)
  one_more n s e h = ap (λ (o : Option Event). elim o [ None ↦ [] | Some e ↦ e ∷ chosen k p n (after p s e) ]) h

  none_at : (s : State) → most k s ≤ 0 → next_of k p s ≡ None
  none_at s a = go (next_of k p s) refl
    where
      go : (o : Option Event) → next_of k p s ≡ o → next_of k p s ≡ None
      go None h = h
      go (Some e) h = absurd (let f = fewer k p s e h in omega (arith, f, a))

  more_by : (n m : ℕ) (s : State) → most k s ≤ suc n → most k s ≤ suc m → ((t : State) → most k t ≤ n → most k t ≤ m → chosen k p n t ≡ chosen k p m t) → chosen k p (suc n) s ≡ chosen k p (suc m) s
  more_by n m s a b rest = go (next_of k p s) refl
    where
      go : (o : Option Event) → next_of k p s ≡ o → chosen k p (suc n) s ≡ chosen k p (suc m) s
      go None h = none_left (suc n) s h ∙ sym (none_left (suc m) s h)
      go (Some e) h = let f = fewer k p s e h in one_more n s e h ∙ ap (λ (es : List Event). e ∷ es) (rest (after p s e) (omega (arith, f, a)) (omega (arith, f, b))) ∙ sym (one_more m s e h)

  enough : (n m : ℕ) (s : State) → most k s ≤ n → most k s ≤ m → chosen k p n s ≡ chosen k p m s
  enough zero m s a b = let h = none_at s a in none_left zero s h ∙ sym (none_left m s h)
  enough (suc n) zero s a b = let h = none_at s b in none_left (suc n) s h ∙ sym (none_left zero s h)
  enough (suc n) (suc m) s a b = more_by n m s a b (λ t x y. enough n m t x y)

  pub chosen_none : (s : State) → next_of k p s ≡ None → choosing k p s ≡ []
  chosen_none s h = none_left (most k s) s h

  pub chosen_some : (s : State) (e : Event) → next_of k p s ≡ Some e → choosing k p s ≡ e ∷ choosing k p (after p s e)
  chosen_some s e h =
      let f = fewer k p s e h in
      let some : most k s ≡ suc (most k s - 1) = omega (arith, f) in
      ap (λ n. chosen k p n s) some ∙ one_more (most k s - 1) s e h ∙ ap (λ (es : List Event). e ∷ es) (enough (most k s - 1) (most k (after p s e)) (after p s e) (omega (arith, f)) (omega arith))

-- the present minute stays, and so does the daemon, up or down
keeps : (k : Kind) (p : Plan) (s : State) (e : Event) → is_of k e ≡ true → ((after p s e).now ≡ s.now) × ((after p s e).up ≡ s.up)
keeps Settling p s (Minute t) h = absurd (cc)
keeps Settling p s (Begin j) h = (refl, refl)
keeps Settling p s (Got j d) h = (refl, refl)
keeps Settling p s (Catch j) h = absurd (cc)
keeps Settling p s (End r) h = absurd (cc)
keeps Settling p s Down h = absurd (cc)
keeps Settling p s (Up t) h = absurd (cc)
keeps Catching p s (Minute t) h = absurd (cc)
keeps Catching p s (Begin j) h = absurd (cc)
keeps Catching p s (Got j d) h = absurd (cc)
keeps Catching p s (Catch j) h = (refl, refl)
keeps Catching p s (End r) h = absurd (cc)
keeps Catching p s Down h = absurd (cc)
keeps Catching p s (Up t) h = absurd (cc)

-- none of the kind is left
pub record IsDone (k : Kind) (p : Plan) (s t : State) : Type 0 where
  pub none : next_of k p t ≡ None
  pub now : t.now ≡ s.now
  pub up : t.up ≡ s.up

module _ (k : Kind) (p : Plan) where
  done_none : (s : State) → next_of k p s ≡ None → IsDone k p s (after_all p s (choosing k p s))
  done_none s h = subst (λ es. IsDone k p s (after_all p s es)) (sym (chosen_none k p s h)) (record { none = h; now = refl; up = refl })

  done_more : (n : ℕ) (s : State) → most k s ≤ suc n → ((t : State) → most k t ≤ n → IsDone k p t (after_all p t (choosing k p t))) → IsDone k p s (after_all p s (choosing k p s))
  done_more n s a rest = go (next_of k p s) refl
    where
      go : (o : Option Event) → next_of k p s ≡ o → IsDone k p s (after_all p s (choosing k p s))
      go None h = done_none s h
      go (Some e) h =
          let f = fewer k p s e h in
          let kept = keeps k p s e (next_is k p s e h).0 in
          let d = rest (after p s e) (omega (arith, f, a)) in
          subst (λ es. IsDone k p s (after_all p s es)) (sym (chosen_some k p s e h)) (record { none = d.none; now = d.now ∙ kept.0; up = d.up ∙ kept.1 })

  done_by : (n : ℕ) (s : State) → most k s ≤ n → IsDone k p s (after_all p s (choosing k p s))
  done_by zero s a = done_none s (none_at k p s a)
  done_by (suc n) s a = done_more n s a (λ t b. done_by n t b)

  pub done : (s : State) → IsDone k p s (after_all p s (choosing k p s))
  done s = done_by (most k s) s (omega arith)

same_self : (w : Run) → same_run w w ≡ true
same_self w = and_from (w.job == w.job) (w.at == w.at) (eq-eqb w.job w.job refl) (eq-eqb w.at w.at refl)

or_left : (a b : Bool) → a ≡ true → (a || b) ≡ true
or_left a b e = ap (λ x. x || b) e

or_right : (a b : Bool) → b ≡ true → (a || b) ≡ true
or_right true b e = refl
or_right false b e = e

one_of : (t : Run → Bool) (ws : List Run) → list_any t ws ≡ true → (w : Run) × (t w ≡ true) × (list_any (same_run w) ws ≡ true)
one_of t [] e = absurd (cc)
one_of t (w ∷ ws) e =
    ⊎_elim (λ h. (w, h, or_left (same_run w w) (list_any (same_run w) ws) (same_self w)))
    (λ h. let q = one_of t ws h in (q.0, q.1, or_right (same_run q.0 w) (list_any (same_run q.0) ws) q.2)) (or_cases (t w) (list_any t ws) e)

module _ (p : Plan) (s : State) (h : next_of Settling p s ≡ None) (up : s.up ≡ true) (civil : IsCivil s.now) where
  nothing : (js : List ℕ) → s.pending ≡ js → is_nothing js ≡ true
  nothing [] e = refl
  nothing (j ∷ js) e =
      let here : list_any (λ i. j == i) s.pending ≡ true = ap (λ xs. list_any (λ i. j == i) xs) e ∙ or_left (j == j) (list_any (λ i. j == i) js) (eq-eqb j j refl) in
      absurd (let q = none_of Settling p s h (Begin j) (listed p s (Begin j) civil (passes _ _ _ up (passes _ _ _ here refl))) in both_ways true q refl)

  held : list_any (λ w. is_free p s.running w.job) s.waiting ≡ true → ⊥
  held e =
      let w = one_of (λ w. is_free p s.running w.job) s.waiting e in
      let q = none_of Settling p s h (Got w.0.job w.0.at) (listed p s (Got w.0.job w.0.at) civil (passes _ _ _ up (passes _ _ _ w.2 (passes _ _ _ w.1 refl)))) in
      both_ways true q refl

  pub settled : is_settled p s ≡ true
  settled = and_from (is_nothing s.pending) (not (list_any (λ w. is_free p s.running w.job) s.waiting)) (nothing s.pending refl) (ap not (false_from_ne_true (list_any (λ w. is_free p s.running w.job) s.waiting) held))
