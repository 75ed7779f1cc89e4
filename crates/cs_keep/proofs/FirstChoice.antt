-- The choice that comes first of a kind.
use Rattle.std.proofs.Common.{◌≡◌, ℕ, ◌+◌, ◌<◌, ◌≤◌, Bool, true, false, not, cond, ◌&&◌, ◌||◌, ◌==◌, if◌then◌else◌, List, [], ◌∷◌, ◌++◌, filter, fold, map, Option, None, Some, refl, sym, ap, subst, ◌∙◌, arith, nat_lt, ⊎_elim, ◌⊎◌, inl, inr}
use Rattle.std.specs.Prelude.{slice_get}
use Rattle.std.specs.List.{AllByRecursion, list_any}
use Rattle.std.specs.Option.{option_map}
use Rattle.std.proofs.lemmas.Bool.{and_parts, and_from, both_ways, cases_lt, eq-eqb, eqb-true, false_from_ne_true, lt-ltb, ltb-true, not-true, or_cases}
use Rattle.cs_history.specs.History.{is_free, run_of, same_run}
use Rattle.cs_history.specs.Lists.{EachPair, placed}
use Rattle.cs_history.specs.Names.{jobs_left}
use Rattle.cs_history.specs.Plan.{Plan}
use Rattle.cs_history.specs.Step.{State, is_catchable, is_nothing, is_settled, is_turn, refusal, unless}
use Rattle.cs_history.specs.declared.event.Event.{Event}
use Rattle.cs_history.specs.declared.event.Event.TheVariants.{Minute, Begin, Got, Catch, End, Down, Up}
use Rattle.cs_history.specs.declared.refusal.Refusal.{Refusal}
use Rattle.cs_history.specs.declared.refusal.Refusal.TheVariants.{NotUp, NotDue, NotWaiting, LockHeld}
use Rattle.cs_history.specs.declared.run.Run.{Run}
use Rattle.cs_history.specs.declared.run.Going.{Going}
use Rattle.cs_history.proofs.Lists.{all-map, all_any, all_map, none_passes}
use Rattle.cs_history.proofs.Steps.{passed, passes, turn_if}
use Rattle.cs_core.specs.Choices.{by_name, candidates, is_before, is_none}
use Rattle.cs_core.proofs.Members.{sorted}
use Rattle.cs_keep.specs.FirstToGet.{earlier, first_to_get, may_get, with_run}
use Rattle.cs_keep.specs.Tick.{first, is_of, next_of}
use Rattle.cs_keep.specs.declared.tick.Kind.{Kind}
use Rattle.cs_keep.specs.declared.tick.Kind.TheVariants.{Settling, Catching}

-- lists

abbrev or_first : Option Event → Option Event → Option Event
or_first None o = o
or_first (Some e) o = Some e

or_none : (o : Option Event) → or_first o None ≡ o
or_none None = refl
or_none (Some e) = refl

first_append : (t : Event → Bool) (xs ys : List Event) → first (filter t (xs ++ ys)) ≡ or_first (first (filter t xs)) (first (filter t ys))
first_append t [] ys = refl
first_append t (x ∷ xs) ys = by (t x) (first_append t xs ys)
  where
    by : (b : Bool) → first (filter t (xs ++ ys)) ≡ or_first (first (filter t xs)) (first (filter t ys))
        → first (cond b (x ∷ filter t (xs ++ ys)) (filter t (xs ++ ys))) ≡ or_first (first (cond b (x ∷ filter t xs) (filter t xs))) (first (filter t ys))
    by true rest = refl
    by false rest = rest

filter_both : (t q : Event → Bool) (es : List Event) → filter t (filter q es) ≡ filter (λ e. q e && t e) es
filter_both t q [] = refl
filter_both t q (x ∷ es) = by (q x) (filter_both t q es)
  where
    by : (b : Bool) → filter t (filter q es) ≡ filter (λ e. q e && t e) es → filter t (cond b (x ∷ filter q es) (filter q es)) ≡ cond (b && t x) (x ∷ filter (λ e. q e && t e) es) (filter (λ e. q e && t e) es)
    by true rest = ap (λ (ys : List Event). cond (t x) (x ∷ ys) ys) rest
    by false rest = rest

none_first : (t : Event → Bool) (es : List Event) → AllByRecursion (λ e. t e ≡ false) es → first (filter t es) ≡ None
none_first t [] a = refl
none_first t (x ∷ es) a = ap (λ (b : Bool). first (cond b (x ∷ filter t es) (filter t es))) a.0 ∙ none_first t es a.1

all_append : {X : Type 0} (P : X → Type 0) (xs ys : List X) → AllByRecursion P xs → AllByRecursion P ys → AllByRecursion P (xs ++ ys)
all_append P [] ys a b = b
all_append P (x ∷ xs) ys a b = (a.0, all_append P xs ys a.1 b)

and_no : (b : Bool) → (b && false) ≡ false
and_no true = refl
and_no false = refl

no_refusal : (o : Option Refusal) → is_none o ≡ true → o ≡ None
no_refusal None e = refl
no_refusal (Some f) e = absurd (cc)

-- runs by name

abbrev pub first_run : List Run → Option Run
first_run [] = None
first_run (w ∷ ws) = Some w

before_parts : (r q : Run) → is_before r q ≡ true → (r.job < q.job) ⊎ ((r.job ≡ q.job) × (r.at < q.at))
before_parts r q e = ⊎_elim (λ h. inl (ltb-true r.job q.job h)) (λ h. let b = and_parts (r.job == q.job) (nat_lt r.at q.at) h in inr (eqb-true r.job q.job b.0, ltb-true r.at q.at b.1)) (or_cases (nat_lt r.job q.job) ((r.job == q.job) && nat_lt r.at q.at) e)

or_left : (a b : Bool) → a ≡ true → (a || b) ≡ true
or_left a b e = ap (λ x. x || b) e

or_right : (a b : Bool) → b ≡ true → (a || b) ≡ true
or_right true b e = refl
or_right false b e = e

before_from : (r q : Run) → (r.job < q.job) ⊎ ((r.job ≡ q.job) × (r.at < q.at)) → is_before r q ≡ true
before_from r q h =
    ⊎_elim (λ a. or_left (nat_lt r.job q.job) ((r.job == q.job) && nat_lt r.at q.at) (lt-ltb r.job q.job a))
    (λ a. or_right (nat_lt r.job q.job) ((r.job == q.job) && nat_lt r.at q.at) (and_from (r.job == q.job) (nat_lt r.at q.at) (eq-eqb r.job q.job a.0) (lt-ltb r.at q.at a.1))) h

before_over : (x z w : Run) → is_before x z ≡ true → is_before w z ≡ false → is_before x w ≡ true
before_over x z w e n =
    ⊎_elim (λ (less : x.job < w.job). before_from x w (inl less)) (λ (more : w.job ≤ x.job).
    ⊎_elim (λ (less : x.at < w.at). within more less) (λ (later : w.at ≤ x.at). absurd (both_ways (is_before w z) n (before_from w z (there more later (before_parts x z e))))) (cases_lt x.at w.at)) (cases_lt x.job w.job)
  where
    there : w.job ≤ x.job → w.at ≤ x.at → (x.job < z.job) ⊎ ((x.job ≡ z.job) × (x.at < z.at)) → (w.job < z.job) ⊎ ((w.job ≡ z.job) × (w.at < z.at))
    there more later h = ⊎_elim (λ (a : x.job < z.job). inl (omega (arith, a, more))) (λ (a : (x.job ≡ z.job) × (x.at < z.at)).
        ⊎_elim (λ (b : w.job < z.job). inl b) (λ (b : z.job ≤ w.job). inr (omega (arith, a.0, b, more), omega (arith, a.1, later))) (cases_lt w.job z.job)) h

    same : w.job ≤ x.job → (w.job < x.job → ⊥) → x.job ≡ w.job
    same more other = ⊎_elim (λ (b : w.job < x.job). absurd (other b)) (λ (b : x.job ≤ w.job). omega (arith, b, more)) (cases_lt w.job x.job)

    lower : w.job < x.job → (x.job < z.job) ⊎ ((x.job ≡ z.job) × (x.at < z.at)) → w.job < z.job
    lower b h = ⊎_elim (λ (a : x.job < z.job). omega (arith, a, b)) (λ (a : (x.job ≡ z.job) × (x.at < z.at)). omega (arith, a.0, b)) h

    within : w.job ≤ x.job → x.at < w.at → is_before x w ≡ true
    within more less = before_from x w (inr (same more (λ b. both_ways (is_before w z) n (before_from w z (inl (lower b (before_parts x z e))))), less))

earlier_first : (t : Run → Bool) (x : Run) (l : List Run) → AllByRecursion (λ w. is_before x w ≡ true) l → earlier (first_run (filter t l)) x ≡ x
earlier_first t x [] a = refl
earlier_first t x (y ∷ l) a = by (t y) (earlier_first t x l a.1)
  where
    by : (b : Bool) → earlier (first_run (filter t l)) x ≡ x → earlier (first_run (cond b (y ∷ filter t l) (filter t l))) x ≡ x
    by true rest = ap (λ (c : Bool). if c then x else y) a.0
    by false rest = rest

-- a run that takes its place changes what is first only if it passes and comes before it
placed_first : (t : Run → Bool) (x : Run) (l : List Run) → EachPair (λ r q. is_before q r ≡ false) l → first_run (filter t (placed is_before x l)) ≡ with_run t (first_run (filter t l)) x
placed_first t x [] a = by (t x)
  where
    by : (b : Bool) → first_run (cond b (x ∷ []) []) ≡ (if b then Some x else None)
    by true = refl
    by false = refl
placed_first t x (z ∷ zs) a = go (is_before x z) refl (placed_first t x zs a.1)
  where
    before_all : is_before x z ≡ true → AllByRecursion (λ w. is_before x w ≡ true) (z ∷ zs)
    before_all e = (e, all_map (λ w. is_before w z ≡ false) (λ w. is_before x w ≡ true) zs (λ w n. before_over x z w e n) a.0)

    ahead : is_before x z ≡ true → (b : Bool) → first_run (cond b (x ∷ filter t (z ∷ zs)) (filter t (z ∷ zs))) ≡ (if b then Some (earlier (first_run (filter t (z ∷ zs))) x) else first_run (filter t (z ∷ zs)))
    ahead e true = ap (λ (w : Run). Some w) (sym (earlier_first t x (z ∷ zs) (before_all e)))
    ahead e false = refl

    stays : is_before x z ≡ false → (c : Bool) → Some z ≡ (if c then Some (if is_before x z then x else z) else Some z)
    stays e true = ap (λ (b : Bool). Some (if b then x else z)) (sym e)
    stays e false = refl

    behind : is_before x z ≡ false → (b : Bool) → first_run (filter t (placed is_before x zs)) ≡ with_run t (first_run (filter t zs)) x
        → first_run (cond b (z ∷ filter t (placed is_before x zs)) (filter t (placed is_before x zs))) ≡ with_run t (first_run (cond b (z ∷ filter t zs) (filter t zs))) x
    behind e true rest = stays e (t x)
    behind e false rest = rest

    go : (s : Bool) → is_before x z ≡ s → first_run (filter t (placed is_before x zs)) ≡ with_run t (first_run (filter t zs)) x
        → first_run (filter t (if s then x ∷ z ∷ zs else z ∷ placed is_before x zs)) ≡ with_run t (first_run (filter t (z ∷ zs))) x
    go true e rest = ahead e (t x)
    go false e rest = behind e (t z) rest

fold_push : {X Y : Type 0} (f : Y → X → Y) (b : Y) (xs : List X) (y : X) → fold f b (xs ++ y ∷ []) ≡ f (fold f b xs) y
fold_push f b [] y = refl
fold_push f b (x ∷ xs) y = fold_push f (f b x) xs y

nil_right : {X : Type 0} (xs : List X) → xs ++ [] ≡ xs
nil_right [] = refl
nil_right {X} (x ∷ xs) = ap (λ (ys : List X). x ∷ ys) (nil_right xs)

snoc_append : {X : Type 0} (xs : List X) (y : X) (ys : List X) → (xs ++ y ∷ []) ++ ys ≡ xs ++ y ∷ ys
snoc_append [] y ys = refl
snoc_append {X} (x ∷ xs) y ys = ap (λ (zs : List X). x ∷ zs) (snoc_append xs y ys)

fold_first : (t : Run → Bool) (ws pre : List Run) → fold (with_run t) (first_run (filter t (by_name pre))) ws ≡ first_run (filter t (by_name (pre ++ ws)))
fold_first t [] pre = ap (λ (l : List Run). first_run (filter t (by_name l))) (sym (nil_right pre))
fold_first t (w ∷ ws) pre =
    ap (λ (o : Option Run). fold (with_run t) o ws) (sym (placed_first t w (by_name pre) (sorted pre)) ∙ ap (λ (l : List Run). first_run (filter t l)) (sym (fold_push (λ list r. placed is_before r list) [] pre w)))
    ∙ fold_first t ws (pre ++ w ∷ []) ∙ ap (λ (l : List Run). first_run (filter t (by_name l))) (snoc_append pre w ws)

pub got_first : (p : Plan) (s : State) → first_to_get p s ≡ first_run (filter (may_get p s) (by_name s.waiting))
got_first p s = fold_first (may_get p s) s.waiting []

fold_none : (t : Run → Bool) (ws : List Run) → AllByRecursion (λ w. t w ≡ false) ws → fold (with_run t) None ws ≡ None
fold_none t [] a = refl
fold_none t (w ∷ ws) a = ap (λ (b : Bool). fold (with_run t) (if b then Some w else None) ws) a.0 ∙ fold_none t ws a.1

-- the choices

abbrev pub got_of : Run → Event
got_of w = Got w.job w.at

module _ (p : Plan) (s : State) where
  abbrev passing : Kind → Event → Bool
  passing k e = is_none (refusal p s e) && is_of k e

  abbrev ends : List Event
  ends = map (λ r. End r) (by_name (map (λ (r : Going). r.run) s.running)) ++ Down ∷ Up s.now ∷ []

  no_end : (k : Kind) → ((r : Run) → is_of k (End r) ≡ false) → is_of k Down ≡ false → is_of k (Up s.now) ≡ false → AllByRecursion (λ e. passing k e ≡ false) ends
  no_end k e d u =
      let other = λ (x : Event) (n : is_of k x ≡ false). ap (λ (b : Bool). is_none (refusal p s x) && b) n ∙ and_no (is_none (refusal p s x)) in
      all_append (λ x. passing k x ≡ false) (map (λ r. End r) (by_name (map (λ (r : Going). r.run) s.running))) (Down ∷ Up s.now ∷ [])
      (all-map (λ x. passing k x ≡ false) (λ r. End r) (by_name (map (λ (r : Going). r.run) s.running)) (all_any (λ r. passing k (End r) ≡ false) (by_name (map (λ (r : Going). r.run) s.running)) (λ r. other (End r) (e r))))
      (other Down d, (other (Up s.now) u, tt))

  abbrev begins : List Event
  begins = map (λ j. Begin j) s.pending

  abbrev gots : List Event
  gots = map (λ w. Got w.job w.at) (by_name s.waiting)

  abbrev catches : List Event
  catches = map (λ j. Catch j) (jobs_left s.pass)

  settle_is : next_of Settling p s ≡ or_first (first (filter (passing Settling) begins)) (first (filter (passing Settling) gots))
  settle_is =
      let q = passing Settling in
      let tail : first (filter q (catches ++ ends)) ≡ None = none_first q (catches ++ ends) (all_append (λ e. q e ≡ false) catches ends
      (all-map (λ e. q e ≡ false) (λ j. Catch j) (jobs_left s.pass) (all_any (λ j. q (Catch j) ≡ false) (jobs_left s.pass) (λ j. and_no (is_none (refusal p s (Catch j)))))) (no_end Settling (λ r. refl) refl refl)) in
      ap first (filter_both (is_of Settling) (λ e. is_none (refusal p s e)) (candidates s))
      ∙ ap (λ (b : Bool). first (cond b (Minute (s.now + 1) ∷ filter q (begins ++ (gots ++ (catches ++ ends)))) (filter q (begins ++ (gots ++ (catches ++ ends)))))) (and_no (is_none (refusal p s (Minute (s.now + 1)))))
      ∙ first_append q begins (gots ++ (catches ++ ends))
      ∙ ap (λ o. or_first (first (filter q begins)) o) (first_append q gots (catches ++ ends) ∙ ap (λ o. or_first (first (filter q gots)) o) tail ∙ or_none (first (filter q gots)))

  catch_is : next_of Catching p s ≡ first (filter (passing Catching) catches)
  catch_is =
      let q = passing Catching in
      let no_begin : first (filter q begins) ≡ None = none_first q begins (all-map (λ e. q e ≡ false) (λ j. Begin j) s.pending (all_any (λ j. q (Begin j) ≡ false) s.pending (λ j. and_no (is_none (refusal p s (Begin j)))))) in
      let no_got : first (filter q gots) ≡ None = none_first q gots (all-map (λ e. q e ≡ false) (λ (w : Run). Got w.job w.at) (by_name s.waiting) (all_any (λ (w : Run). q (Got w.job w.at) ≡ false) (by_name s.waiting) (λ w. and_no (is_none (refusal p s (Got w.job w.at)))))) in
      let tail : first (filter q ends) ≡ None = none_first q ends (no_end Catching (λ r. refl) refl refl) in
      ap first (filter_both (is_of Catching) (λ e. is_none (refusal p s e)) (candidates s))
      ∙ ap (λ (b : Bool). first (cond b (Minute (s.now + 1) ∷ filter q (begins ++ (gots ++ (catches ++ ends)))) (filter q (begins ++ (gots ++ (catches ++ ends)))))) (and_no (is_none (refusal p s (Minute (s.now + 1)))))
      ∙ first_append q begins (gots ++ (catches ++ ends)) ∙ ap (λ o. or_first o (first (filter q (gots ++ (catches ++ ends))))) no_begin
      ∙ first_append q gots (catches ++ ends) ∙ ap (λ o. or_first o (first (filter q (catches ++ ends)))) no_got
      ∙ first_append q catches ends ∙ ap (λ o. or_first (first (filter q catches)) o) tail ∙ or_none (first (filter q catches))

  down : s.up ≡ false → (e : Event) → (rest : Option Refusal) → refusal p s e ≡ unless s.up NotUp rest → is_none (refusal p s e) ≡ false
  down off e rest is = ap is_none is ∙ ap (λ (b : Bool). is_none (if b then rest else Some NotUp)) off

  pub settle_down : s.up ≡ false → None ≡ next_of Settling p s
  settle_down off =
      let q = passing Settling in
      let no_begin : first (filter q begins) ≡ None = none_first q begins (all-map (λ e. q e ≡ false) (λ j. Begin j) s.pending (all_any (λ j. q (Begin j) ≡ false) s.pending (λ j. ap (λ b. b && true) (down off (Begin j) _ refl)))) in
      let no_got : first (filter q gots) ≡ None = none_first q gots (all-map (λ e. q e ≡ false) (λ (w : Run). Got w.job w.at) (by_name s.waiting) (all_any (λ (w : Run). q (Got w.job w.at) ≡ false) (by_name s.waiting) (λ w. ap (λ b. b && true) (down off (Got w.job w.at) _ refl)))) in
      sym (settle_is ∙ ap (λ o. or_first o (first (filter q gots))) no_begin ∙ no_got)

  pub settle_begin : (j : ℕ) (js : List ℕ) → s.up ≡ true → s.pending ≡ j ∷ js → Some (Begin j) ≡ next_of Settling p s
  settle_begin j js up is =
      let q = passing Settling in
      let here : list_any (λ i. j == i) s.pending ≡ true = ap (λ (l : List ℕ). list_any (λ i. j == i) l) is ∙ or_left (j == j) (list_any (λ i. j == i) js) (eq-eqb j j refl) in
      let may : q (Begin j) ≡ true = ap (λ o. is_none o && true) (passes s.up NotUp _ up (passes (list_any (λ i. j == i) s.pending) NotDue None here refl)) in
      let at_first : first (filter q begins) ≡ Some (Begin j) = ap (λ (l : List ℕ). first (filter q (map (λ i. Begin i) l))) is ∙ ap (λ (b : Bool). first (cond b (Begin j ∷ filter q (map (λ i. Begin i) js)) (filter q (map (λ i. Begin i) js)))) may in
      sym (settle_is ∙ ap (λ o. or_first o (first (filter q gots))) at_first)

  got_is : (ws : List Run) → first (filter (passing Settling) (map (λ w. Got w.job w.at) ws)) ≡ option_map got_of (first_run (filter (may_get p s) ws))
  got_is [] = refl
  got_is (w ∷ ws) = by (may_get p s w) (got_is ws)
    where
      q : Event → Bool
      q = passing Settling

      by : (b : Bool) → first (filter q (map (λ w. Got w.job w.at) ws)) ≡ option_map got_of (first_run (filter (may_get p s) ws))
          → first (cond (b && true) (got_of w ∷ filter q (map (λ w. Got w.job w.at) ws)) (filter q (map (λ w. Got w.job w.at) ws))) ≡ option_map got_of (first_run (cond b (w ∷ filter (may_get p s) ws) (filter (may_get p s) ws)))
      by true rest = refl
      by false rest = rest

  pub settle_got : s.pending ≡ [] → option_map got_of (first_to_get p s) ≡ next_of Settling p s
  settle_got is =
      let q = passing Settling in
      let none : first (filter q begins) ≡ None = ap (λ (l : List ℕ). first (filter q (map (λ i. Begin i) l))) is in
      ap (option_map got_of) (got_first p s) ∙ sym (settle_is ∙ ap (λ o. or_first o (first (filter q gots))) none ∙ got_is (by_name s.waiting))

  held : (b c d : Bool) → d ≡ false → is_none (unless b NotUp (unless c NotWaiting (unless d LockHeld None))) ≡ false
  held true true d e = ap (λ (x : Bool). is_none (if x then None else Some LockHeld)) e
  held true false d e = refl
  held false c d e = refl

  pub settled_none : is_settled p s ≡ true → first_to_get p s ≡ None
  settled_none e =
      let any : list_any (λ w. is_free p s.running w.job) s.waiting ≡ false = not-true _ (and_parts (is_nothing s.pending) (not (list_any (λ w. is_free p s.running w.job) s.waiting)) e).1 in
      fold_none (may_get p s) s.waiting (all_map (λ (w : Run). is_free p s.running w.job ≡ false) (λ w. may_get p s w ≡ false) s.waiting (λ w n. held s.up (list_any (same_run (run_of w.job w.at)) s.waiting) (is_free p s.running w.job) n) (none_passes (λ (w : Run). is_free p s.running w.job) s.waiting any))

  pub catch_none_left : jobs_left s.pass ≡ [] → None ≡ next_of Catching p s
  catch_none_left is = sym (catch_is ∙ ap (λ (l : List ℕ). first (filter (passing Catching) (map (λ i. Catch i) l))) is)

  pub catch_first : (i : ℕ) (is : List ℕ) → jobs_left s.pass ≡ i ∷ is → refusal p s (Catch i) ≡ None → Some (Catch i) ≡ next_of Catching p s
  catch_first i is left may =
      let q = passing Catching in
      let passes_it : q (Catch i) ≡ true = ap (λ o. is_none o && true) may in
      sym (catch_is ∙ ap (λ (l : List ℕ). first (filter q (map (λ k. Catch k) l))) left ∙ ap (λ (b : Bool). first (cond b (Catch i ∷ filter q (map (λ k. Catch k) is)) (filter q (map (λ k. Catch k) is)))) passes_it)

  turn_of : (j : ℕ) → refusal p s (Catch j) ≡ None → (is : List ℕ) × (jobs_left s.pass ≡ j ∷ is)
  turn_of j may =
      let turn = is_turn p s.now s.pass j in
      let all = (passed (is_catchable p s j) _ _ (passed s.up _ _ may).1).0 in
      let o = turn_if p s.now s.pass j (and_parts turn _ (and_parts _ _ (and_parts _ _ all).0).0).0 in
      (o.1, ap jobs_left o.2)

  pub catch_refused : (i : ℕ) (is : List ℕ) (f : Refusal) → jobs_left s.pass ≡ i ∷ is → refusal p s (Catch i) ≡ Some f → None ≡ next_of Catching p s
  catch_refused i is f left refused =
      let q = passing Catching in
      sym (catch_is ∙ none_first q catches (all-map (λ e. q e ≡ false) (λ j. Catch j) (jobs_left s.pass) (all_any (λ j. q (Catch j) ≡ false) (jobs_left s.pass) (λ j. ap (λ b. b && true) (false_from_ne_true (is_none (refusal p s (Catch j))) (other j))))))
    where
      other : (j : ℕ) → is_none (refusal p s (Catch j)) ≡ true → ⊥
      other j e =
          let may = no_refusal (refusal p s (Catch j)) e in
          let there = turn_of j may in
          let lists : i ∷ is ≡ j ∷ there.0 = sym left ∙ there.1 in
          let same : i ≡ j = cc in
          let none : refusal p s (Catch i) ≡ None = subst (λ k. refusal p s (Catch k) ≡ None) (sym same) may in
          both_ways false refl (ap is_none (sym refused ∙ none))

pub head_is : (xs : List ℕ) (j : ℕ) → Some j ≡ slice_get xs 0 → (js : List ℕ) × (xs ≡ j ∷ js)
head_is [] j e = absurd (cc)
head_is (x ∷ xs) j e = let same : x ≡ j = cc in (xs, ap (λ y. y ∷ xs) same)

pub no_head : (xs : List ℕ) → None ≡ slice_get xs 0 → xs ≡ []
no_head [] e = refl
no_head (x ∷ xs) e = absurd (cc)
