-- The choices are the legal events.
use Rattle.std.proofs.Common.{ℕ, zero, suc, ◌+◌, ◌-◌, ◌%◌, ◌<◌, ◌≤◌, ◌≡◌, Bool, true, false, not, ◌&&◌, ◌||◌, cond, if◌then◌else◌, List, [], ◌∷◌, ◌++◌, map, filter, fold, refl, sym, ap, ◌∙◌, subst, arith, ◌==◌, Option, Some, None, nat_lt, nat_le, length, inl, inr, ⊎_elim, ◌⊎◌}
use Rattle.std.specs.Prelude.{Contains}
use Rattle.std.specs.List.{list_any}
use Rattle.std.proofs.lemmas.Bool.{and_parts, and_from, or_cases, eqb-true, eq-eqb, ltb-true, lt-ltb, le-leb, false_from_ne_true, both_ways}
use Rattle.cs_history.specs.Lists.{EachPair, below, placed}
use Rattle.cs_history.specs.Plan.{Plan, IsCivil, is_cron}
use Rattle.cs_history.specs.History.{History, From, ◌▸◌, run_of, same_run, pending, May, IsLegal}
use Rattle.cs_history.specs.Step.{State, state_of, refusal, is_civil, is_turn, is_catchable}
use Rattle.cs_history.specs.Names.{jobs_left}
use Rattle.cs_history.specs.declared.run.Run.{Run}
use Rattle.cs_history.specs.declared.run.Going.{Going}
use Rattle.cs_history.specs.declared.event.Event.{Event}
use Rattle.cs_history.specs.declared.event.Event.TheVariants.{Minute, Begin, Got, Catch, End, Down, Up}
use Rattle.cs_history.specs.declared.refusal.Refusal.{Refusal}
use Rattle.cs_history.proofs.Lists.{all_map, all_below, pairs_push, pairs-filter}
use Rattle.cs_history.proofs.Names.{run_is, all_placed}
use Rattle.cs_history.proofs.Steps.{passed, passes, if_civil, turn_if, legal_if, if_legal, reached}
use Rattle.cs_core.specs.Choices.{is_before, by_name, candidates, choices, choice_for, is_none}

abbrev IsIn : {X : Type 0} → X → List X → Type 0
IsIn x [] = ⊥
IsIn x (y ∷ ys) = (y ≡ x) ⊎ IsIn x ys

in_contains : {X : Type 0} (xs : List X) (x : X) → IsIn x xs → Contains xs x
in_contains [] x h = absurd h
in_contains (y ∷ ys) x h = ⊎_elim (λ e. (0, omega arith, e)) (λ q. let c = in_contains ys x q in (suc c.0, omega (arith, c.1), c.2)) h

contains_in : {X : Type 0} (xs : List X) (x : X) (k : ℕ) → k < length xs → Rattle.std.proofs.Common.get_or xs k x ≡ x → IsIn x xs
contains_in [] x k l e = absurd (omega (arith, l))
contains_in (y ∷ ys) x zero l e = inl e
contains_in (y ∷ ys) x (suc k) l e = inr (contains_in ys x k (omega (arith, l)) e)

in_left : {X : Type 0} (x : X) (xs ys : List X) → IsIn x xs → IsIn x (xs ++ ys)
in_left x [] ys h = absurd h
in_left x (z ∷ xs) ys h = ⊎_elim (λ e. inl e) (λ q. inr (in_left x xs ys q)) h

in_right : {X : Type 0} (x : X) (xs ys : List X) → IsIn x ys → IsIn x (xs ++ ys)
in_right x [] ys h = h
in_right x (z ∷ xs) ys h = inr (in_right x xs ys h)

in_map : {X Y : Type 0} (f : X → Y) (x : X) (xs : List X) → IsIn x xs → IsIn (f x) (map f xs)
in_map f x [] h = absurd h
in_map f x (y ∷ ys) h = ⊎_elim (λ e. inl (ap f e)) (λ q. inr (in_map f x ys q)) h

module _ {X : Type 0} (t : X → Bool) where
  in_filter : (x : X) → t x ≡ true → (xs : List X) → IsIn x xs → IsIn x (filter t xs)
  in_filter x q [] h = absurd h
  in_filter x q (y ∷ ys) h = go (t y) refl (in_filter x q ys) h
    where
      go : (s : Bool) → t y ≡ s → (IsIn x ys → IsIn x (filter t ys)) → (y ≡ x) ⊎ IsIn x ys → IsIn x (cond s (y ∷ filter t ys) (filter t ys))
      go true e rest h = ⊎_elim (λ p. inl p) (λ r. inr (rest r)) h
      go false e rest h = ⊎_elim (λ p. absurd (both_ways (t y) e (ap t p ∙ q))) (λ r. rest r) h

  filter_in : (x : X) (xs : List X) → IsIn x (filter t xs) → t x ≡ true
  filter_in x [] h = absurd h
  filter_in x (y ∷ ys) h = go (t y) refl (filter_in x ys) h
    where
      go : (s : Bool) → t y ≡ s → (IsIn x (filter t ys) → t x ≡ true) → IsIn x (cond s (y ∷ filter t ys) (filter t ys)) → t x ≡ true
      go true e rest h = ⊎_elim (λ p. subst (λ z. t z ≡ true) p e) rest h
      go false e rest h = rest h

  any_in : (xs : List X) → list_any t xs ≡ true → (x : X) × (t x ≡ true) × IsIn x xs
  any_in [] e = absurd (cc)
  any_in (x ∷ xs) e = ⊎_elim (λ h. (x, h, inl refl)) (λ h. let q = any_in xs h in (q.0, q.1, inr q.2)) (or_cases (t x) (list_any t xs) e)

in_placed : (x : Run) (ys : List Run) → IsIn x (placed is_before x ys)
in_placed x [] = inl refl
in_placed x (y ∷ ys) = go (is_before x y) (in_placed x ys)
  where
    go : (s : Bool) → IsIn x (placed is_before x ys) → IsIn x (if s then x ∷ y ∷ ys else y ∷ placed is_before x ys)
    go true rest = inl refl
    go false rest = inr rest

still_placed : (z x : Run) (ys : List Run) → IsIn z ys → IsIn z (placed is_before x ys)
still_placed z x [] h = absurd h
still_placed z x (y ∷ ys) h = go (is_before x y) (still_placed z x ys)
  where
    go : (s : Bool) → (IsIn z ys → IsIn z (placed is_before x ys)) → IsIn z (if s then x ∷ y ∷ ys else y ∷ placed is_before x ys)
    go true rest = inr h
    go false rest = ⊎_elim (λ e. inl e) (λ q. inr (rest q)) h

abbrev sorted_from : List Run → List Run → List Run
sorted_from list rs = fold (λ list r. placed is_before r list) list rs

still_sorted : (z : Run) (rs list : List Run) → IsIn z list → IsIn z (sorted_from list rs)
still_sorted z [] list h = h
still_sorted z (r ∷ rs) list h = still_sorted z rs (placed is_before r list) (still_placed z r list h)

in_sorted : (z : Run) (rs list : List Run) → IsIn z rs → IsIn z (sorted_from list rs)
in_sorted z [] list h = absurd h
in_sorted z (r ∷ rs) list h = ⊎_elim (λ e. still_sorted z rs (placed is_before r list) (subst (λ x. IsIn x (placed is_before r list)) e (in_placed r list))) (λ q. in_sorted z rs (placed is_before r list) q) h

in_by_name : (z : Run) (rs : List Run) → IsIn z rs → IsIn z (by_name rs)
in_by_name z rs h = in_sorted z rs [] h

-- each event that may come is a candidate, or coming up now stands for it
module _ (p : Plan) (s : State) where
  begin_in : (j : ℕ) → list_any (λ i. j == i) s.pending ≡ true → IsIn (Begin j) (candidates s)
  begin_in j e =
      let found = any_in (λ i. j == i) s.pending e in
      let here : IsIn j s.pending = subst (λ i. IsIn i s.pending) (sym (eqb-true j found.0 found.1)) found.2 in
      inr (in_left (Begin j) (map (λ j. Begin j) s.pending) _ (in_map (λ j. Begin j) j s.pending here))

  got_in : (r : Run) → list_any (same_run r) s.waiting ≡ true → IsIn (Got r.job r.at) (candidates s)
  got_in r e =
      let found = any_in (same_run r) s.waiting e in
      let here : IsIn r s.waiting = subst (λ w. IsIn w s.waiting) (sym (run_is r found.0 found.1)) found.2 in
      inr (in_right (Got r.job r.at) (map (λ j. Begin j) s.pending) _
      (in_left (Got r.job r.at) (map (λ w. Got w.job w.at) (by_name s.waiting)) _ (in_map (λ (w : Run). Got w.job w.at) r (by_name s.waiting) (in_by_name r s.waiting here))))

  catch_in : (j : ℕ) → IsIn j (jobs_left s.pass) → IsIn (Catch j) (candidates s)
  catch_in j here =
      inr (in_right (Catch j) (map (λ j. Begin j) s.pending) _
      (in_right (Catch j) (map (λ w. Got w.job w.at) (by_name s.waiting)) _
      (in_left (Catch j) (map (λ j. Catch j) (jobs_left s.pass)) _ (in_map (λ j. Catch j) j (jobs_left s.pass) here))))

  behind : (e : Event) → IsIn e (map (λ r. End r) (by_name (map (λ (r : Going). r.run) s.running)) ++ Down ∷ Up s.now ∷ []) → IsIn e (candidates s)
  behind e h =
      inr (in_right e (map (λ j. Begin j) s.pending) _
      (in_right e (map (λ w. Got w.job w.at) (by_name s.waiting)) _
      (in_right e (map (λ j. Catch j) (jobs_left s.pass)) _ h)))

  end_in : (r : Run) → list_any (λ x. same_run r x.run) s.running ≡ true → IsIn (End r) (candidates s)
  end_in r e =
      let found = any_in (λ (x : Going). same_run r x.run) s.running e in
      let here : IsIn r (map (λ (x : Going). x.run) s.running) = subst (λ w. IsIn w (map (λ (x : Going). x.run) s.running)) (sym (run_is r found.0.run found.1)) (in_map (λ (x : Going). x.run) found.0 s.running found.2) in
      behind (End r) (in_left (End r) (map (λ r. End r) (by_name (map (λ (r : Going). r.run) s.running))) _ (in_map (λ r. End r) r (by_name (map (λ (x : Going). x.run) s.running)) (in_by_name r (map (λ (x : Going). x.run) s.running) here)))

  turn_in : (j : ℕ) → is_catchable p s j ≡ true → IsIn j (jobs_left s.pass)
  turn_in j e =
      let turn = is_turn p s.now s.pass j in
      let alone = not (list_any (λ r. not (is_cron p r.run.job)) s.running) in
      let from = nat_le p.from (s.now % 1440) in
      let q = and_parts (turn && alone && from) (nat_lt (s.now % 1440) p.to) e in
      let r = and_parts (turn && alone) from q.0 in
      let o = turn_if p s.now s.pass j (and_parts turn alone r.0).0 in
      subst (λ x. IsIn j (jobs_left x)) (sym o.2) (inl refl)

  pub candidate : (e : Event) → refusal p s e ≡ None → IsIn (choice_for s e) (candidates s)
  candidate (Minute t) n =
      let a = passed s.up _ _ n in let b = passed (is_civil t) _ _ a.1 in let c = passed (t == s.now + 1) _ _ b.1 in
      inl (ap (λ k. Minute k) (sym (eqb-true t (s.now + 1) c.0)))
  candidate (Begin j) n = begin_in j (passed _ _ _ (passed s.up _ _ n).1).0
  candidate (Got j d) n = got_in (run_of j d) (passed _ _ _ (passed s.up _ _ n).1).0
  candidate (Catch j) n = catch_in j (turn_in j (passed _ _ _ (passed s.up _ _ n).1).0)
  candidate (End r) n = end_in r (passed _ _ _ n).0
  candidate (Down) n = behind Down (in_right Down (map (λ r. End r) (by_name (map (λ (r : Going). r.run) s.running))) _ (inl refl))
  candidate (Up t) n = behind (Up s.now) (in_right (Up s.now) (map (λ r. End r) (by_name (map (λ (r : Going). r.run) s.running))) _ (inr (inl refl)))

  free : (o : Option Refusal) → is_none o ≡ true → o ≡ None
  free None e = refl
  free (Some f) e = absurd (cc)

  up_free : (t : ℕ) → IsCivil s.now → refusal p s (Up t) ≡ None → refusal p s (Up s.now) ≡ None
  up_free t civil n = passes _ _ _ (passed (not s.up) _ _ n).0 (passes _ _ _ (if_civil s.now civil) (passes _ _ _ (le-leb s.now s.now (omega arith)) refl))

  choice_free : (e : Event) → IsCivil s.now → refusal p s e ≡ None → refusal p s (choice_for s e) ≡ None
  choice_free (Minute t) civil n = n
  choice_free (Begin j) civil n = n
  choice_free (Got j d) civil n = n
  choice_free (Catch j) civil n = n
  choice_free (End r) civil n = n
  choice_free (Down) civil n = n
  choice_free (Up t) civil n = up_free t civil n

  pub listed : (e : Event) → IsCivil s.now → refusal p s e ≡ None → Contains (choices p s) (choice_for s e)
  listed e civil n = in_contains (choices p s) (choice_for s e) (in_filter (λ e. is_none (refusal p s e)) (choice_for s e) (ap is_none (choice_free e civil n)) (candidates s) (candidate e n))

  pub not_refused : (e : Event) → Contains (choices p s) e → refusal p s e ≡ None
  not_refused e c = free (refusal p s e) (filter_in (λ e. is_none (refusal p s e)) e (candidates s) (contains_in (choices p s) e c.0 c.1 c.2))

pub listed_after : (p : Plan) (h : History) (e : Event) → IsLegal p h → May p h e → Contains (choices p (state_of p h)) (choice_for (state_of p h) e)
listed_after p h e legal m = let c = reached p h legal in listed p (state_of p h) e (record { first = omega (arith, c.first); last = c.last }) (if_legal p h e m)

pub legal_choice : (p : Plan) (h : History) (e : Event) → Contains (choices p (state_of p h)) e → May p h e
legal_choice p h e c = legal_if p h e (not_refused p (state_of p h) e c)

-- order

before_parts : (r q : Run) → is_before r q ≡ true → (r.job < q.job) ⊎ ((r.job ≡ q.job) × (r.at < q.at))
before_parts r q e = ⊎_elim (λ h. inl (ltb-true r.job q.job h)) (λ h. let b = and_parts (r.job == q.job) (nat_lt r.at q.at) h in inr (eqb-true r.job q.job b.0, ltb-true r.at q.at b.1)) (or_cases (nat_lt r.job q.job) ((r.job == q.job) && nat_lt r.at q.at) e)

both_before : (r q : Run) → is_before r q ≡ true → is_before q r ≡ true → ⊥
both_before r q e f =
    ⊎_elim (λ (a : r.job < q.job). ⊎_elim (λ (b : q.job < r.job). omega (arith, a, b)) (λ (b : (q.job ≡ r.job) × (q.at < r.at)). omega (arith, a, b.0)) (before_parts q r f))
    (λ (a : (r.job ≡ q.job) × (r.at < q.at)). ⊎_elim (λ (b : q.job < r.job). omega (arith, a.0, b)) (λ (b : (q.job ≡ r.job) × (q.at < r.at)). omega (arith, a.1, b.1)) (before_parts q r f))
    (before_parts r q e)

or_left : (a b : Bool) → a ≡ true → (a || b) ≡ true
or_left a b e = ap (λ x. x || b) e

or_right : (a b : Bool) → b ≡ true → (a || b) ≡ true
or_right true b e = refl
or_right false b e = e

before_from : (r q : Run) → (r.job < q.job) ⊎ ((r.job ≡ q.job) × (r.at < q.at)) → is_before r q ≡ true
before_from r q h =
    ⊎_elim (λ a. or_left (nat_lt r.job q.job) ((r.job == q.job) && nat_lt r.at q.at) (lt-ltb r.job q.job a))
    (λ a. or_right (nat_lt r.job q.job) ((r.job == q.job) && nat_lt r.at q.at) (and_from (r.job == q.job) (nat_lt r.at q.at) (eq-eqb r.job q.job a.0) (lt-ltb r.at q.at a.1))) h

before_all : (x y z : Run) → is_before z x ≡ true → is_before x y ≡ true → is_before z y ≡ true
before_all x y z e f =
    before_from z y (⊎_elim (λ (a : z.job < x.job). ⊎_elim (λ (b : x.job < y.job). inl (omega (arith, a, b))) (λ (b : (x.job ≡ y.job) × (x.at < y.at)). inl (omega (arith, a, b.0))) (before_parts x y f))
    (λ (a : (z.job ≡ x.job) × (z.at < x.at)). ⊎_elim (λ (b : x.job < y.job). inl (omega (arith, a.0, b))) (λ (b : (x.job ≡ y.job) × (x.at < y.at)). inr (omega (arith, a.0, b.0), omega (arith, a.1, b.1))) (before_parts x y f))
    (before_parts z x e))

abbrev AreSorted : List Run → Type 0
AreSorted rs = EachPair (λ r q. is_before q r ≡ false) rs

sorted_placed : (x : Run) (ys : List Run) → AreSorted ys → AreSorted (placed is_before x ys)
sorted_placed x [] a = (tt, tt)
sorted_placed x (y ∷ ys) a = go (is_before x y) refl (sorted_placed x ys a.1)
  where
    go : (s : Bool) → is_before x y ≡ s → AreSorted (placed is_before x ys) → AreSorted (if s then x ∷ y ∷ ys else y ∷ placed is_before x ys)
    go true e rest = (
      (
        false_from_ne_true (is_before y x) (λ f. both_before x y e f),
        all_map (λ z. is_before z y ≡ false) (λ z. is_before z x ≡ false) ys (λ z n. false_from_ne_true (is_before z x) (λ f. both_ways (is_before z y) n (before_all x y z f e))) a.0,
      ),
      a,
    )
    go false e rest = (all_placed (λ z. is_before z y ≡ false) is_before x e ys a.0, rest)

sorted_fold : (rs list : List Run) → AreSorted list → AreSorted (sorted_from list rs)
sorted_fold [] list a = a
sorted_fold (r ∷ rs) list a = sorted_fold rs (placed is_before r list) (sorted_placed r list a)

pub sorted : (rs : List Run) → AreSorted (by_name rs)
sorted rs = sorted_fold rs [] tt

below_rising : (n : ℕ) → EachPair (λ i j. i < j) (below n)
below_rising zero = tt
below_rising (suc n) = pairs_push (λ i j. i < j) (below n) n (below_rising n) (all_below n)

pub rising : (p : Plan) (h : History) → EachPair (λ i j. i < j) (pending p h)
rising p (From s) = tt
rising p (h ▸ Minute t) = pairs-filter (λ i j. i < j) (λ j. p.due j t) (below p.crons) (below_rising p.crons)
rising p (h ▸ Begin j) = pairs-filter (λ i k. i < k) (λ i. not (j == i)) (pending p h) (rising p h)
rising p (h ▸ Got j d) = rising p h
rising p (h ▸ Catch j) = rising p h
rising p (h ▸ End r) = rising p h
rising p (h ▸ Down) = tt
rising p (h ▸ Up t) = tt
