-- Events made one after another.
use Rattle.std.proofs.Common.{◌≡◌, ℕ, ◌+◌, true, List, [], ◌∷◌, ◌++◌, refl, sym, ap, ◌∙◌, subst, append_assoc, Result, Ok, Err}
use Rattle.std.proofs.lemmas.Bool.{eq-eqb}
use Rattle.std.specs.Prelude.{None}
use Rattle.cs_history.specs.Plan.{Plan, IsCivil}
use Rattle.cs_history.proofs.Steps.{passes, if_civil}
use Rattle.cs_history.specs.declared.event.Event.TheVariants.{Minute}
use Rattle.cs_keep.specs.declared.tick.Kind.TheVariants.{Settling}
use Rattle.cs_keep.proofs.Choosing.{done, settled}
use Rattle.cs_history.specs.Step.{State, refusal}
use Rattle.cs_history.specs.declared.event.Event.{Event}
use Rattle.cs_keep.specs.Keeping.{Keeping, plan_of}
use Rattle.cs_keep.specs.Seat.{Place}
use Rattle.cs_keep.specs.Tick.{after_all, choosing, then_from, stepped, stepped_by, IsFullAt, IsFault, IsCutShort, IsMade}
use Rattle.cs_keep.specs.declared.tick.TickFault.{TickFault}
use Rattle.cs_keep.specs.declared.tick.TickFault.TheVariants.{ClockBack, HistoryFull, OutOfMemory}

pub by_append : (t : Keeping × Place) (es fs : List Event) → stepped_by t (es ++ fs) ≡ stepped_by (stepped_by t es) fs
by_append t [] fs = refl
by_append t (e ∷ es) fs = by_append (stepped t e) es fs

pub by_declared : (t : Keeping × Place) (es : List Event) → (stepped_by t es).0.core.plan ≡ t.0.core.plan
by_declared t [] = refl
by_declared t (e ∷ es) = by_declared (stepped t e) es

pub by_plan : (t : Keeping × Place) (es : List Event) → plan_of (stepped_by t es).0 ≡ plan_of t.0
by_plan t [] = refl
by_plan t (e ∷ es) = by_plan (stepped t e) es

pub by_state : (t : Keeping × Place) (es : List Event) → (stepped_by t es).0.core.state ≡ after_all (plan_of t.0) t.0.core.state es
by_state t [] = refl
by_state t (e ∷ es) = by_state (stepped t e) es

full_longer : (k : Keeping) (es fs : List Event) → IsFullAt k es → IsFullAt k (es ++ fs)
full_longer k [] fs h = absurd h
full_longer k (e ∷ es) fs h = h

fault_longer : (k : Keeping) (es fs : List Event) (f : TickFault) → IsFault k es f → IsFault k (es ++ fs) f
fault_longer k es fs ClockBack h = h
fault_longer k es fs HistoryFull h = full_longer k es fs h
fault_longer k es fs OutOfMemory h = h

pub short_longer : (t u : Keeping × Place) (es fs : List Event) (f : TickFault) → IsCutShort t es f u → IsCutShort t (es ++ fs) f u
short_longer t u es fs f s = record {
  made = s.made;
  rest = s.rest ++ fs;
  whole = ap (λ (x : List Event). x ++ fs) s.whole ∙ append_assoc s.made s.rest fs;
  left = s.left;
  why = fault_longer (stepped_by t s.made).0 s.rest fs f s.why;
}

pub short_behind : (t u : Keeping × Place) (es fs : List Event) (f : TickFault) → IsCutShort (stepped_by t es) fs f u → IsCutShort t (es ++ fs) f u
short_behind t u es fs f s =
    let at = by_append t es s.made in record {
      made = es ++ s.made;
      rest = s.rest;
      whole = ap (λ (x : List Event). es ++ x) s.whole ∙ sym (append_assoc es s.made s.rest);
      left = s.left ∙ sym at;
      why = subst (λ (x : Keeping × Place). IsFault x.0 s.rest f) (sym at) s.why;
    }

pub made_behind : (t u : Keeping × Place) (es fs : List Event) (r : Result (Unit {0}) TickFault) → IsMade (stepped_by t es) fs r u → IsMade t (es ++ fs) r u
made_behind t u es fs (Ok v) h = h ∙ sym (by_append t es fs)
made_behind t u es fs (Err f) h = short_behind t u es fs f h

-- events, and then those that follow from the state that they leave
pub then_made : (next : Plan → State → List Event) (t v u : Keeping × Place) (es : List Event) (r : Result (Unit {0}) TickFault) → v ≡ stepped_by t es → IsMade v (next (plan_of v.0) v.0.core.state) r u → IsMade t (then_from (plan_of t.0) t.0.core.state es (next (plan_of t.0))) r u
then_made next t v u es r e h =
    let here : IsMade (stepped_by t es) (next (plan_of (stepped_by t es).0) (stepped_by t es).0.core.state) r u = subst (λ (x : Keeping × Place). IsMade x (next (plan_of x.0) x.0.core.state) r u) e h in
    let same : next (plan_of (stepped_by t es).0) (stepped_by t es).0.core.state ≡ next (plan_of t.0) (after_all (plan_of t.0) t.0.core.state es) = λ i. next (by_plan t es i) (by_state t es i) in
    made_behind t u es (next (plan_of t.0) (after_all (plan_of t.0) t.0.core.state es)) r (subst (λ fs. IsMade (stepped_by t es) fs r u) same here)

pub short_made : (next : Plan → State → List Event) (t u : Keeping × Place) (es : List Event) (f : TickFault) → IsCutShort t es f u → IsCutShort t (then_from (plan_of t.0) t.0.core.state es (next (plan_of t.0))) f u
short_made next t u es f s = short_longer t u es (next (plan_of t.0) (after_all (plan_of t.0) t.0.core.state es)) f s

-- the next minute may come once all has settled
settled_minute : (p : Plan) (s : State) (m : ℕ) → s.up ≡ true → IsCivil m → m ≡ s.now + 1 → IsCivil s.now → refusal p (after_all p s (choosing Settling p s)) (Minute m) ≡ None
settled_minute p s m up civil next present =
    let d = done Settling p s in
    let t = after_all p s (choosing Settling p s) in
    let up' : t.up ≡ true = d.up ∙ up in
    let next' : m ≡ t.now + 1 = next ∙ ap (λ n. n + 1) (sym d.now) in
    let present' : IsCivil t.now = subst IsCivil (sym d.now) present in
    passes _ _ _ up' (passes _ _ _ (if_civil m civil) (passes _ _ _ (eq-eqb m (t.now + 1) next') (passes _ _ _ (settled p t d.none up' present') refl)))

pub minute_free : (t v : Keeping × Place) (m : ℕ) → v ≡ stepped_by t (choosing Settling (plan_of t.0) t.0.core.state) → t.0.core.state.up ≡ true → IsCivil m → m ≡ t.0.core.state.now + 1 → IsCivil t.0.core.state.now → refusal (plan_of v.0) v.0.core.state (Minute m) ≡ None
minute_free t v m e up civil next present =
    let es = choosing Settling (plan_of t.0) t.0.core.state in
    let plan : plan_of v.0 ≡ plan_of t.0 = ap (λ (x : Keeping × Place). plan_of x.0) e ∙ by_plan t es in
    let state : v.0.core.state ≡ after_all (plan_of t.0) t.0.core.state es = ap (λ (x : Keeping × Place). x.0.core.state) e ∙ by_state t es in
    (λ i. refusal (plan i) (state i) (Minute m)) ∙ settled_minute (plan_of t.0) t.0.core.state m up civil next present
