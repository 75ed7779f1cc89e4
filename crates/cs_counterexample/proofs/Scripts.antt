use Rattle.std.proofs.Common.{ℕ, ◌+◌, ◌<◌, ◌≤◌, ◌≡◌, true, List, [], ◌∷◌, ◌++◌, refl, sym, ap, ◌∙◌, subst, arith, Option, Some, None, Result, Ok, Err, length, take, drop, get_or, suc, fold}
use Rattle.std.specs.Prelude.{IfErr, IsErrAnd}
use Rattle.std.proofs.lemmas.List.{take-append-drop, length-take-le, take_more}
use Rattle.std.proofs.lemmas.List.Sums.{fold-append}
use Rattle.std.proofs.Math.Seq.{drop-cons, take-length}
use Rattle.cs_plan.specs.Plan.{Declared, as_plan}
use Rattle.cs_history.specs.Plan.{Plan}
use Rattle.cs_history.specs.History.{History, From, history, ◌▸◌, running, IsLegal, IsInTime}
use Rattle.cs_history.specs.Step.{State, state_of, refusal}
use Rattle.cs_history.specs.declared.event.Event.{Event}
use Rattle.cs_history.specs.declared.event.Event.TheVariants.{Minute, Begin, Got, Catch, End, Down, Up}
use Rattle.cs_history.specs.declared.refusal.Refusal.{Refusal}
use Rattle.cs_history.specs.declared.script.Script.{Script}
use Rattle.cs_history.proofs.Steps.{legal_if, if_legal}
use Rattle.cs_counterexample.specs.declared.shown.Shown.{Shown}
use Rattle.cs_counterexample.specs.declared.shown.NotShown.{NotShown}
use Rattle.cs_counterexample.specs.declared.shown.NotShown.TheVariants.{Illegal, Late, NothingBroken, OutOfMemory}
use Rattle.cs_counterexample.specs.Break.{first_break}
use Rattle.cs_counterexample.specs.Shown.{history_of, IsAt, IsHarmless, IsIllegalAt, IsLateAt, IsNotShown, IsShown, IsUnsafe}
use Rattle.cs_counterexample.specs.Trial.{IsTaken, Stops, Tried, is_late}
use Rattle.cs_counterexample.proofs.Deadlines.{late_not_in_time}
use Rattle.cs_counterexample.proofs.Safety.{safe_if, if_safe}
use Rattle.cs_counterexample.proofs.Trials.{IsTrial, trial_push}

is_at : (script : Script) (i : ℕ) (y : Event) → i < length script.events → IsAt script (i + 1) (history script.start (take i script.events)) (get_or script.events i y)
is_at script i y l = record {
  front = take i script.events;
  rest = drop (suc i) script.events;
  events = sym (take-append-drop i script.events) ∙ ap (λ (xs : List Event). take i script.events ++ xs) (drop-cons script.events i y l);
  number = omega (arith, length-take-le i script.events (omega (arith, l)));
  before = refl;
}

illegal_at : (d : Declared) (script : Script) (i n : ℕ) (e : Event) (t : Tried) (f : Refusal) → IsAt script (i + 1) (history script.start (take i script.events)) e → IsTrial d script.start (take i script.events) t → (n ≡ i + 1) × (refusal (as_plan d) t.state e ≡ Some f) → IsIllegalAt (as_plan d) script n f
illegal_at d script i n e t f at k s = record {
  before = history script.start (take i script.events);
  event = e;
  at = subst (λ m. IsAt script m (history script.start (take i script.events)) e) (sym s.0) at;
  legal = k.legal;
  in_time = k.in_time;
  refused = subst (λ x. refusal (as_plan d) x e ≡ Some f) k.state s.1;
}

late_at : (d : Declared) (script : Script) (i n : ℕ) (e : Event) (t : Tried) → IsAt script (i + 1) (history script.start (take i script.events)) e → IsTrial d script.start (take i script.events) t → (n ≡ i + 1) × (refusal (as_plan d) t.state e ≡ None) × (is_late (as_plan d) t.state.running e ≡ true) → IsLateAt (as_plan d) script n
late_at d script i n e t at k s =
    let p = as_plan d in
    let h = history script.start (take i script.events) in
    let legal : refusal p (state_of p h) e ≡ None = subst (λ x. refusal p x e ≡ None) k.state s.1 in
    let late : is_late p (running p h) e ≡ true = subst (λ (x : State). is_late p x.running e ≡ true) k.state s.2 in
    record {
      before = h;
      event = e;
      at = subst (λ m. IsAt script m h e) (sym s.0) at;
      legal = (k.legal, legal_if p h e legal);
      in_time = k.in_time;
      late = late_not_in_time p h e late;
    }

stops_there : (d : Declared) (script : Script) (i : ℕ) (e : Event) (t : Tried) (f : NotShown) → IsAt script (i + 1) (history script.start (take i script.events)) e → IsTrial d script.start (take i script.events) t → Stops (as_plan d) t.state e (i + 1) f → IsNotShown (as_plan d) script f
stops_there d script i e t (Illegal n f) at k s = illegal_at d script i n e t f at k s
stops_there d script i e t (Late n) at k s = late_at d script i n e t at k s
stops_there d script i e t NothingBroken at k s = absurd s
stops_there d script i e t OutOfMemory at k s = tt

why_here : (d : Declared) (script : Script) (i : ℕ) (y : Event) (t : Tried) (f : NotShown) → i < length script.events → IsTrial d script.start (take i script.events) t → Stops (as_plan t.plan) t.state (get_or script.events i y) (i + 1) f → IsNotShown (as_plan d) script f
why_here d script i y t f l k s = stops_there d script i (get_or script.events i y) t f (is_at script i y l) k (subst (λ (x : Declared). Stops (as_plan x) t.state (get_or script.events i y) (i + 1) f) k.plan s)

pub why_not : (d : Declared) (script : Script) (xs : List Event) (i : ℕ) (y : Event) (t : Tried) (f : NotShown) → xs ≡ script.events → i < length xs → IsTrial d script.start (take i script.events) t → Stops (as_plan t.plan) t.state (get_or xs i y) (i + 1) f → IsNotShown (as_plan d) script f
why_not d script xs i y t f same l k s = why_here d script i y t f (subst (λ (zs : List Event). i < length zs) same l) k (subst (λ (zs : List Event). Stops (as_plan t.plan) t.state (get_or zs i y) (i + 1) f) same s)

goes_here : (d : Declared) (script : Script) (i : ℕ) (y : Event) (t u : Tried) → i < length script.events → IsTrial d script.start (take i script.events) t → IsTaken (as_plan t.plan) (get_or script.events i y) t u → IsTrial d script.start (take (i + 1) script.events) u
goes_here d script i y t u l k s = subst (λ (zs : List Event). IsTrial d script.start zs u) (sym (take_more script.events i y l)) (trial_push d script.start (take i script.events) (get_or script.events i y) t u k (subst (λ (x : Declared). IsTaken (as_plan x) (get_or script.events i y) t u) k.plan s))

pub goes_on : (d : Declared) (script : Script) (xs : List Event) (i : ℕ) (y : Event) (t u : Tried) → xs ≡ script.events → i < length xs → IsTrial d script.start (take i script.events) t → IsTaken (as_plan t.plan) (get_or xs i y) t u → IsTrial d script.start (take (i + 1) script.events) u
goes_on d script xs i y t u same l k s = goes_here d script i y t u (subst (λ (zs : List Event). i < length zs) same l) k (subst (λ (zs : List Event). IsTaken (as_plan t.plan) (get_or zs i y) t u) same s)

pub ends : (d : Declared) (script : Script) (xs : List Event) (i : ℕ) (t : Tried) → xs ≡ script.events → length xs ≤ i → i ≤ length xs → IsTrial d script.start (take i script.events) t → IsTrial d script.start script.events t
ends d script xs i t same l m k =
    let long : i ≡ length script.events = subst (λ (zs : List Event). i ≡ length zs) same (omega (arith, l, m)) in
    subst (λ (zs : List Event). IsTrial d script.start zs t) (ap (λ n. take n script.events) long ∙ take-length script.events) k

pub shows : (d : Declared) (script : Script) (t : Tried) (o : Option Shown) (s : Shown) → IsTrial d script.start script.events t → o ≡ t.shown → o ≡ Some s → IsShown (as_plan d) script s
shows d script t o s k a b =
    let found : first_break (as_plan d) (history_of script) ≡ Some s = sym k.shown ∙ sym a ∙ b in
    record {
      unsafe = record { legal = k.legal; in_time = k.in_time; unsafe = λ safe. none_some s (sym (if_safe (as_plan d) (history_of script) safe) ∙ found) };
      first = found;
    }
  where
    none_some : (s : Shown) → None ≡ Some s → ⊥
    none_some s e = cc

pub shows_not : (d : Declared) (script : Script) (t : Tried) (o : Option Shown) → IsTrial d script.start script.events t → o ≡ t.shown → o ≡ None → IsHarmless (as_plan d) script
shows_not d script t o k a b = record { legal = k.legal; in_time = k.in_time; safe = safe_if (as_plan d) (history_of script) (sym k.shown ∙ sym a ∙ b) }

-- the events before one of a legal history are legal; so of those in time
pub legal_before : (p : Plan) (h : History) (es : List Event) → IsLegal p (fold (λ h e. h ▸ e) h es) → IsLegal p h
legal_before p h [] l = l
legal_before p h (e ∷ es) l = (legal_before p (h ▸ e) es l).0

in_time_here : (p : Plan) (h : History) (e : Event) → IsInTime p (h ▸ e) → IsInTime p h
in_time_here p h (Minute t) i = i.0
in_time_here p h (Begin j) i = i
in_time_here p h (Got j d) i = i
in_time_here p h (Catch j) i = i
in_time_here p h (End r) i = i
in_time_here p h Down i = i
in_time_here p h (Up t) i = i.0

in_time_before : (p : Plan) (h : History) (es : List Event) → IsInTime p (fold (λ h e. h ▸ e) h es) → IsInTime p h
in_time_before p h [] i = i
in_time_before p h (e ∷ es) i = in_time_here p h e (in_time_before p (h ▸ e) es i)

split_at : (script : Script) (n : ℕ) (h : History) (e : Event) → (a : IsAt script n h e) → history_of script ≡ fold (λ h e. h ▸ e) (h ▸ e) a.rest
split_at script n h e a = ap (history script.start) a.events ∙ fold-append (λ (x : History) (y : Event). x ▸ y) (From script.start) a.front (e ∷ a.rest) ∙ ap (λ (x : History). fold (λ h e. h ▸ e) (x ▸ e) a.rest) (sym a.before)

-- a script that shows a plan unsafe isn't said to show nothing
pub not_unsafe : (p : Plan) (script : Script) (f : NotShown) → IsNotShown p script f → IsUnsafe p script → f ≡ OutOfMemory
not_unsafe p script (Illegal n f) k u =
    let may = (legal_before p (k.before ▸ k.event) k.at.rest (subst (IsLegal p) (split_at script n k.before k.event k.at) u.legal)).1 in
    absurd (none_refuses f (sym (if_legal p k.before k.event may) ∙ k.refused))
  where
    none_refuses : (f : Refusal) → None ≡ Some f → ⊥
    none_refuses f e = cc
not_unsafe p script (Late n) k u = absurd (k.late (in_time_before p (k.before ▸ k.event) k.at.rest (subst (IsInTime p) (split_at script n k.before k.event k.at) u.in_time)))
not_unsafe p script NothingBroken k u = absurd (u.unsafe k.safe)
not_unsafe p script OutOfMemory k u = refl

pub if_err : (r : Result Shown NotShown) (f : NotShown) (P : NotShown → Type 0) → IsErrAnd r (λ e. e ≡ f) → P f → IfErr r P
if_err (Ok s) f P e p = tt
if_err (Err g) f P e p = subst P (sym e) p
