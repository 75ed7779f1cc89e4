-- What is broken first, in words.
use Rattle.std.proofs.Common.{ℕ, ◌<◌, ◌≡◌, Bool, true, false, if◌then◌else◌, List, [], ◌∷◌, ◌++◌, refl, sym, ap, ◌∙◌, subst, Option, Some, None, nat_lt, inl, inr, ⊎_elim, ◌⊎◌}
use Rattle.std.specs.List.{AllByRecursion}
use Rattle.std.proofs.lemmas.Bool.{ltb-true}
use Rattle.std.proofs.lemmas.List.Sums.{fold_push}
use Rattle.cs_history.specs.Plan.{Plan, is_skip}
use Rattle.cs_history.specs.History.{History, From, ◌▸◌, now, running, Answer, Starts, Waits, Skips, answer, IsSafeNow}
use Rattle.cs_history.specs.declared.mode.Mode.TheVariants.{Skip}
use Rattle.cs_history.specs.declared.run.Run.{Run}
use Rattle.cs_history.specs.declared.run.Going.{Going}
use Rattle.cs_history.specs.declared.event.Event.{Event}
use Rattle.cs_history.specs.declared.event.Event.TheVariants.{Minute, Begin, Got, Catch, End, Down, Up}
use Rattle.cs_counterexample.specs.declared.shown.Shown.{Shown}
use Rattle.cs_counterexample.specs.declared.shown.Shown.TheVariants.{Together, Load, Skipped}
use Rattle.std.specs.Option.{option_or}
use Rattle.cs_counterexample.specs.Break.{clash, clash_of, first_clash, weight_of, overload_of, break_among, skip_of, skip_by, break_by, first_break}
use Rattle.cs_counterexample.specs.FirstBreak.{AreFine, IsFirstPair, Breaks, IsFirstBreak}
use Rattle.cs_counterexample.proofs.Safety.{fine_with, apart_if, of_skip, safe_if, safe_now_if}

none_some : (s : Shown) → None ≡ Some s → ⊥
none_some s e = cc

either : (a b : Option Shown) (s : Shown) → option_or a b ≡ Some s → (a ≡ Some s) ⊎ ((a ≡ None) × (b ≡ Some s))
either None b s e = inr (refl, e)
either (Some x) b s e = inl e

record HasNext (p : Plan) (r : Going) (qs : List Going) (s : Shown) : Type 0 where
  between : List Going
  other : Going
  behind : List Going
  order : qs ≡ between ++ other ∷ behind
  clash : clash p r.run.job other.run.job ≡ true
  nearer : AllByRecursion (AreFine p r) between
  shown : s ≡ Together r.run other.run

next_step : (p : Plan) (r q : Going) (qs : List Going) (s : Shown) (b : Bool) → clash p r.run.job q.run.job ≡ b → (clash_of p r qs ≡ Some s → HasNext p r qs s) → (if b then Some (Together r.run q.run) else clash_of p r qs) ≡ Some s → HasNext p r (q ∷ qs) s
next_step p r q qs s true c ih e = record { between = []; other = q; behind = qs; order = refl; clash = c; nearer = tt; shown = cc }
next_step p r q qs s false c ih e =
    let h = ih e in
    record { between = q ∷ h.between; other = h.other; behind = h.behind; order = ap (λ (l : List Going). q ∷ l) h.order; clash = h.clash; nearer = (c, h.nearer); shown = h.shown }

has_next : (p : Plan) (r : Going) (qs : List Going) (s : Shown) → clash_of p r qs ≡ Some s → HasNext p r qs s
has_next p r [] s e = absurd (none_some s e)
has_next p r (q ∷ qs) s e = next_step p r q qs s (clash p r.run.job q.run.job) refl (has_next p r qs s) e

pub all_right : {X : Type 0} (P : X → Type 0) (xs ys : List X) → AllByRecursion P (xs ++ ys) → AllByRecursion P ys
all_right P [] ys a = a
all_right P (x ∷ xs) ys a = all_right P xs ys a.1

all_left : {X : Type 0} (P : X → Type 0) (xs ys : List X) → AllByRecursion P (xs ++ ys) → AllByRecursion P xs
all_left P [] ys a = tt
all_left P (x ∷ xs) ys a = (a.0, all_left P xs ys a.1)

record HasPair (p : Plan) (rs : List Going) (s : Shown) : Type 0 where
  r : Run
  q : Run
  shown : s ≡ Together r q
  pair : IsFirstPair p rs r q

has_pair : (p : Plan) (rs : List Going) (s : Shown) → first_clash p rs ≡ Some s → HasPair p rs s
has_pair p [] s e = absurd (none_some s e)
has_pair p (r ∷ rs) s e =
    ⊎_elim
    (λ (a : clash_of p r rs ≡ Some s).
    let h = has_next p r rs s a in
    record {
      r = r.run;
      q = h.other.run;
      shown = h.shown;
      pair = record { front = []; one = r; between = h.between; other = h.other; behind = h.behind; order = ap (λ (l : List Going). r ∷ l) h.order; first = refl; second = refl; clash = h.clash; earlier = tt; apart = tt; nearer = h.nearer };
    })
    (λ (a : (clash_of p r rs ≡ None) × (first_clash p rs ≡ Some s)).
    let h = has_pair p rs s a.1 in
    let k = h.pair in
    let fine : AllByRecursion (AreFine p r) (k.front ++ k.one ∷ (k.between ++ k.other ∷ k.behind)) = subst (λ l. AllByRecursion (AreFine p r) l) k.order (fine_with p r rs a.0) in
    record {
      r = h.r;
      q = h.q;
      shown = h.shown;
      pair = record {
        front = r ∷ k.front;
        one = k.one;
        between = k.between;
        other = k.other;
        behind = k.behind;
        order = ap (λ (l : List Going). r ∷ l) k.order;
        first = k.first;
        second = k.second;
        clash = k.clash;
        earlier = (all_left (AreFine p r) k.front (k.one ∷ (k.between ++ k.other ∷ k.behind)) fine, k.earlier);
        apart = (all_right (AreFine p r) k.front (k.one ∷ (k.between ++ k.other ∷ k.behind)) fine, k.apart);
        nearer = k.nearer;
      };
    })
    (either (clash_of p r rs) (first_clash p rs) s e)

has_load : (p : Plan) (n : ℕ) (s : Shown) (b : Bool) → nat_lt p.capacity n ≡ b → (if b then Some (Load n) else None) ≡ Some s → (s ≡ Load n) × (p.capacity < n)
has_load p n s true l e = (cc, ltb-true p.capacity n l)
has_load p n s false l e = absurd (none_some s e)

shown_if : (b : Bool) (x s : Shown) → (if b then Some x else None) ≡ Some s → (b ≡ true) × (s ≡ x)
shown_if true x s e = (refl, cc)
shown_if false x s e = absurd (none_some s e)

has_skip : (p : Plan) (a : Answer) (j t : ℕ) (s : Shown) → skip_of p a j t ≡ Some s → (s ≡ Skipped j t) × ((p.mode j ≡ Skip) × (a ≡ Skips))
has_skip p Starts j t s e = absurd (none_some s e)
has_skip p Waits j t s e = absurd (none_some s e)
has_skip p Skips j t s e = let k = shown_if (is_skip (p.mode j)) (Skipped j t) s e in (k.1, (of_skip (p.mode j) k.0, refl))

skip_breaks : (p : Plan) (h : History) (e : Event) (s : Shown) → IsSafeNow p (h ▸ e) → skip_by p (running p h) (now h) e ≡ Some s → Breaks p h e s
skip_breaks p h (Minute t) s safe n = absurd (none_some s n)
skip_breaks p h (Begin j) s safe n = let k = has_skip p (answer p (running p h) j) j (now h) s n in subst (λ x. Breaks p h (Begin j) x) (sym k.0) (record { safe = safe; begin = refl; due = refl; mode = k.1.0; skips = k.1.1 })
skip_breaks p h (Got j d) s safe n = absurd (none_some s n)
skip_breaks p h (Catch j) s safe n = absurd (none_some s n)
skip_breaks p h (End r) s safe n = absurd (none_some s n)
skip_breaks p h Down s safe n = absurd (none_some s n)
skip_breaks p h (Up t) s safe n = absurd (none_some s n)

breaks_of : (p : Plan) (h : History) (e : Event) (s : Shown) → break_by p h e ≡ Some s → Breaks p h e s
breaks_of p h e s b =
    let rs = running p (h ▸ e) in
    ⊎_elim
    (λ (a : break_among p rs ≡ Some s).
    ⊎_elim
    (λ (c : first_clash p rs ≡ Some s). let k = has_pair p rs s c in subst (λ x. Breaks p h e x) (sym k.shown) k.pair)
    (λ (c : (first_clash p rs ≡ None) × (overload_of p rs ≡ Some s)). let k = has_load p (weight_of p rs) s (nat_lt p.capacity (weight_of p rs)) refl c.1 in subst (λ x. Breaks p h e x) (sym k.0) (record { fine = apart_if p rs c.0; weight = refl; more = k.1 }))
    (either (first_clash p rs) (overload_of p rs) s a))
    (λ (a : (break_among p rs ≡ None) × (skip_by p (running p h) (now h) e ≡ Some s)). skip_breaks p h e s (safe_now_if p (h ▸ e) a.0) a.1)
    (either (break_among p rs) (skip_by p (running p h) (now h) e) s b)

pub first_is : (p : Plan) (h : History) (s : Shown) → first_break p h ≡ Some s → IsFirstBreak p h s
first_is p (From x) s e = absurd (none_some s e)
first_is p (h ▸ e) s f =
    ⊎_elim
    (λ (a : first_break p h ≡ Some s).
    let k = first_is p h s a in
    record { before = k.before; event = k.event; rest = k.rest ++ e ∷ []; whole = ap (λ x. x ▸ e) k.whole ∙ sym (fold_push (λ (x : History) (y : Event). x ▸ y) (k.before ▸ k.event) k.rest e); safe = k.safe; breaks = k.breaks })
    (λ (a : (first_break p h ≡ None) × (break_by p h e ≡ Some s)). record { before = h; event = e; rest = []; whole = refl; safe = safe_if p h a.0; breaks = breaks_of p h e s a.1 })
    (either (first_break p h) (break_by p h e) s f)
