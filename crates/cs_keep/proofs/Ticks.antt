-- What a tick leaves.
use Rattle.std.proofs.Common.{◌≡◌, ℕ, ◌+◌, ◌<◌, ◌≤◌, Bool, true, false, if◌then◌else◌, ◌==◌, List, [], ◌∷◌, ◌++◌, length, length-append, refl, sym, ap, ◌∙◌, arith, Result, Ok, Err}
use Rattle.std.specs.Prelude.{OnOk}
use Rattle.std.proofs.lemmas.Bool.{eqb-true}
use Rattle.cs_history.specs.Plan.{Plan}
use Rattle.cs_history.specs.Step.{State, after}
use Rattle.cs_history.specs.declared.event.Event.{Event}
use Rattle.cs_history.specs.declared.event.Event.TheVariants.{Minute, Down, Up}
use Rattle.cs_keep.specs.Keeping.{Keeping, plan_of}
use Rattle.cs_keep.specs.Seat.{Place}
use Rattle.cs_keep.specs.Tick.{after_all, choosing, settling_catching, coming, advancing, moving_on, skipping, tick_events, stepped, stepped_by, Ticks}
use Rattle.cs_keep.specs.declared.tick.Kind.{Kind}
use Rattle.cs_keep.specs.declared.tick.Kind.TheVariants.{Settling, Catching}
use Rattle.cs_keep.specs.declared.tick.TickFault.{TickFault}
use Rattle.cs_keep.specs.declared.tick.TickFault.TheVariants.{ClockBack, HistoryFull, OutOfMemory}
use Rattle.cs_keep.proofs.Choosing.{done}
use Rattle.cs_keep.proofs.Making.{by_declared, by_state}

-- the minute at the end
module _ (p : Plan) where
  after_append : (s : State) (es fs : List Event) → after_all p s (es ++ fs) ≡ after_all p (after_all p s es) fs
  after_append s [] fs = refl
  after_append s (e ∷ es) fs = after_append (after p s e) es fs

  end : State → List Event → ℕ
  end s es = (after_all p s es).now

  chosen_now : (k : Kind) (s : State) → (after_all p s (choosing k p s)).now ≡ s.now
  chosen_now k s = (done k p s).now

  settled_now : (s : State) → (after_all p s (settling_catching p s)).now ≡ s.now
  settled_now s =
      let t = after_all p s (choosing Settling p s) in
      ap (λ (x : State). x.now) (after_append s (choosing Settling p s) (choosing Catching p t)) ∙ chosen_now Catching t ∙ chosen_now Settling s

  come_now : (m : ℕ) (s : State) → (after_all p s (coming m p s)).now ≡ m
  come_now m s = chosen_now Catching (after p s (Up m))

  advance_now : (m : ℕ) (s : State) → (after_all p s (advancing m p s)).now ≡ m
  advance_now m s = settled_now (after p s (Minute m))

  move_now : (m : ℕ) (s : State) → (after_all p s (moving_on m p s)).now ≡ m
  move_now m s =
      let t = after_all p s (choosing Settling p s) in
      ap (λ (x : State). x.now) (after_append s (choosing Settling p s) (advancing m p t)) ∙ advance_now m t

  skip_now : (m : ℕ) (s : State) → (after_all p s (skipping m p s)).now ≡ m
  skip_now m s = come_now m (after p s Down)

  tick_now : (s : State) (m : ℕ) → (after_all p s (tick_events m p s)).now ≡ m
  tick_now s m = go s.up (m == s.now) refl (m == s.now + 1)
    where
      go : (up b : Bool) → (m == s.now) ≡ b → (c : Bool) → (after_all p s (if up then (if b then settling_catching p s else (if c then moving_on m p s else skipping m p s)) else coming m p s)).now ≡ m
      go true true e c = settled_now s ∙ sym (eqb-true m s.now e)
      go true false e true = move_now m s
      go true false e false = skip_now m s
      go false b e c = come_now m s

  tick_some : (s : State) (m : ℕ) → s.now < m → 0 < length (tick_events m p s)
  tick_some s m l = go s.up (m == s.now) refl (m == s.now + 1)
    where
      later : (xs : List Event) (e : Event) (ys : List Event) → 0 < length (xs ++ e ∷ ys)
      later xs e ys = let n = length-append xs (e ∷ ys) in omega (arith, n)

      go : (up b : Bool) → (m == s.now) ≡ b → (c : Bool) → 0 < length (if up then (if b then settling_catching p s else (if c then moving_on m p s else skipping m p s)) else coming m p s)
      go true true e c = absurd (let same = eqb-true m s.now e in omega (arith, same, l))
      go true false e true = later (choosing Settling p s) (Minute m) (settling_catching p (after p (after_all p s (choosing Settling p s)) (Minute m)))
      go true false e false = omega arith
      go false b e c = omega arith

-- the seat
by_share : (t : Keeping × Place) (es : List Event) → (stepped_by t es).1.share ≡ t.1.share + length es
by_share t [] = omega arith
by_share t (e ∷ es) = let n = by_share (stepped t e) es in omega (arith, n)

by_parts : (t : Keeping × Place) (es : List Event) → (stepped_by t es).1.parts ≡ t.1.parts
by_parts t [] = refl
by_parts t (e ∷ es) = by_parts (stepped t e) es

-- what was made of a tick's events
pub record IsSome (t u : Keeping × Place) : Type 0 where
  pub made : List Event
  pub left : u ≡ stepped_by t made

some_of : (t u : Keeping × Place) (last m : ℕ) (r : Result (Unit {0}) TickFault) → Ticks t last m r u → IsSome t u
some_of t u last m (Ok v) h = record { made = tick_events m (plan_of t.0) t.0.core.state; left = h.1 }
some_of t u last m (Err ClockBack) h = record { made = []; left = h.1 }
some_of t u last m (Err HistoryFull) h = record { made = h.1.made; left = h.1.left }
some_of t u last m (Err OutOfMemory) h = record { made = h.1.made; left = h.1.left }

pub ticks_plan : (t u : Keeping × Place) (last m : ℕ) (r : Result (Unit {0}) TickFault) → Ticks t last m r u → u.0.core.plan ≡ t.0.core.plan
ticks_plan t u last m r h = let s = some_of t u last m r h in ap (λ (x : Keeping × Place). x.0.core.plan) s.left ∙ by_declared t s.made

pub ticks_parts : (t u : Keeping × Place) (last m : ℕ) (r : Result (Unit {0}) TickFault) → Ticks t last m r u → u.1.parts ≡ t.1.parts
ticks_parts t u last m r h = let s = some_of t u last m r h in ap (λ (x : Keeping × Place). x.1.parts) s.left ∙ by_parts t s.made

pub ticks_grow : (t u : Keeping × Place) (last m : ℕ) (r : Result (Unit {0}) TickFault) → Ticks t last m r u → t.1.share ≤ u.1.share
ticks_grow t u last m r h = let s = some_of t u last m r h in let e = ap (λ (x : Keeping × Place). x.1.share) s.left ∙ by_share t s.made in omega (arith, e)

pub ticks_now : (t u : Keeping × Place) (last m : ℕ) (r : Result (Unit {0}) TickFault) → Ticks t last m r u → OnOk r (u.0.core.state.now ≡ m)
ticks_now t u last m (Ok v) h =
    ap (λ (x : Keeping × Place). x.0.core.state.now) h.1 ∙ ap (λ (x : State). x.now) (by_state t (tick_events m (plan_of t.0) t.0.core.state)) ∙ tick_now (plan_of t.0) t.0.core.state m
ticks_now t u last m (Err f) h = tt

pub ticks_rise : (t u : Keeping × Place) (last m : ℕ) (r : Result (Unit {0}) TickFault) → Ticks t last m r u → OnOk r (last < m → t.1.share < u.1.share)
ticks_rise t u last m (Ok v) h = λ later.
    let es = tick_events m (plan_of t.0) t.0.core.state in
    let e : u.1.share ≡ t.1.share + length es = ap (λ (x : Keeping × Place). x.1.share) h.1 ∙ by_share t es in
    let some = tick_some (plan_of t.0) t.0.core.state m (omega (arith, h.0.0, later)) in
    omega (arith, e, some)
ticks_rise t u last m (Err f) h = tt
