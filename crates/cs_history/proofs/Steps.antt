-- A history with an event is in the next state, and the legal events are those without refusal.
use Rattle.std.proofs.Common.{arith, ◌+◌, Result, Ok, Err, ℕ, ◌≡◌, ◌%◌, ◌≤◌, Bool, true, false, not, ◌&&◌, ◌↔◌, if◌then◌else◌, List, [], ◌∷◌, refl, sym, ap, ◌∙◌, subst, ◌==◌, Option, Some, None, nat_lt, nat_le}
use Rattle.std.specs.List.{list_any}
use Rattle.std.proofs.lemmas.Bool.{and_parts, and_from, leb-true, le-leb, ltb-true, lt-ltb, eqb-true, eq-eqb, not-true}
use Rattle.cs_history.specs.declared.event.Event.{Event}
use Rattle.cs_history.specs.declared.event.Event.TheVariants.{Minute, Begin, Got, Catch, End, Down, Up}
use Rattle.cs_history.specs.declared.refusal.Refusal.{Refusal}
use Rattle.cs_history.specs.declared.reply.Reply.{Reply}
use Rattle.cs_history.specs.Plan.{Plan, is_cron, IsCivil, IsReached}
use Rattle.cs_civil.specs.Calendar.{first_minute, last_minute}
use Rattle.cs_history.specs.History.{History, From, ◌▸◌, now, is_up, pending, waiting, running, pass, Pass, is_free, May, IsLegal, IsSettled}
use Rattle.cs_history.specs.Step.{State, state_of, after, is_civil, is_nothing, is_settled, is_first, is_turn, is_catchable, unless, refusal, reply, Steps, Follows, IsFirst}

pub stands : (p : Plan) (h : History) (e : Event) → state_of p (h ▸ e) ≡ after p (state_of p h) e
stands p h (Minute t) = refl
stands p h (Begin j) = refl
stands p h (Got j d) = refl
stands p h (Catch j) = refl
stands p h (End r) = refl
stands p h (Down) = refl
stands p h (Up t) = refl

pub passed : (b : Bool) (f : Refusal) (rest : Option Refusal) → unless b f rest ≡ None → (b ≡ true) × (rest ≡ None)
passed true f rest e = (refl, e)
passed false f rest e = absurd (cc)

pub passes : (b : Bool) (f : Refusal) (rest : Option Refusal) → b ≡ true → rest ≡ None → unless b f rest ≡ None
passes b f rest e n = ap (λ (x : Bool). if x then rest else Some f) e ∙ n

civil_if : (t : ℕ) → is_civil t ≡ true → IsCivil t
civil_if t e = let h = and_parts (nat_le first_minute t) (nat_le t last_minute) e in record { first = leb-true first_minute t h.0; last = leb-true t last_minute h.1 }

pub if_civil : (t : ℕ) → IsCivil t → is_civil t ≡ true
if_civil t c = and_from (nat_le first_minute t) (nat_le t last_minute) (le-leb first_minute t c.first) (le-leb t last_minute c.last)

pub nothing_if : (js : List ℕ) → is_nothing js ≡ true → js ≡ []
nothing_if [] e = refl
nothing_if (j ∷ js) e = absurd (cc)

pub settled_if : (p : Plan) (h : History) → is_settled p (state_of p h) ≡ true → IsSettled p h
settled_if p h e = let q = and_parts (is_nothing (pending p h)) (not (list_any (λ w. is_free p (running p h) w.job) (waiting p h))) e in record { begun = nothing_if (pending p h) q.0; held = not-true _ q.1 }

if_settled : (p : Plan) (h : History) → IsSettled p h → is_settled p (state_of p h) ≡ true
if_settled p h s = and_from (is_nothing (pending p h)) (not (list_any (λ w. is_free p (running p h) w.job) (waiting p h))) (ap is_nothing s.begun) (ap not s.held)

first_if : (p : Plan) (t at : ℕ) (js : List ℕ) (j : ℕ) → is_first p t at js j ≡ true → (is : List ℕ) × (js ≡ j ∷ is) × (at + p.delay j ≤ t)
first_if p t at [] j e = absurd (cc)
first_if p t at (i ∷ is) j e = let q = and_parts (i == j) (nat_le (at + p.delay j) t) e in (is, ap (λ (k : ℕ). k ∷ is) (eqb-true i j q.0), leb-true (at + p.delay j) t q.1)

pub turn_if : (p : Plan) (t : ℕ) (o : Option Pass) (j : ℕ) → is_turn p t o j ≡ true → (at : ℕ) × (is : List ℕ) × (o ≡ Some (record { at = at; left = j ∷ is })) × (at + p.delay j ≤ t)
turn_if p t None j e = absurd (cc)
turn_if p t (Some o) j e = let q = first_if p t o.at o.left j e in (o.at, q.0, ap (λ (l : List ℕ). Some (record { at = o.at; left = l })) q.1, q.2)

pub legal_if : (p : Plan) (h : History) (e : Event) → refusal p (state_of p h) e ≡ None → May p h e
legal_if p h (Minute t) n =
    let a = passed (is_up h) _ _ n in let b = passed (is_civil t) _ _ a.1 in let c = passed (t == now h + 1) _ _ b.1 in let d = passed (is_settled p (state_of p h)) _ _ c.1 in
    record { up = a.0; civil = civil_if t b.0; next = eqb-true t (now h + 1) c.0; settled = settled_if p h d.0 }
legal_if p h (Begin j) n = let a = passed (is_up h) _ _ n in let b = passed (list_any (λ i. j == i) (pending p h)) _ _ a.1 in record { up = a.0; is_pending = b.0 }
legal_if p h (Got j d) n = let a = passed (is_up h) _ _ n in let b = passed _ _ _ a.1 in let c = passed (is_free p (running p h) j) _ _ b.1 in record { up = a.0; is_waiting = b.0; free = c.0 }
legal_if p h (Catch j) n =
    let a = passed (is_up h) _ _ n in let b = passed (is_catchable p (state_of p h) j) _ _ a.1 in
    let turn = is_turn p (now h) (pass p h) j in
    let alone = not (list_any (λ r. not (is_cron p r.run.job)) (running p h)) in
    let from = nat_le p.from (now h % 1440) in
    let to = nat_lt (now h % 1440) p.to in
    let q = and_parts (turn && alone && from) to b.0 in
    let r = and_parts (turn && alone) from q.0 in
    let s = and_parts turn alone r.0 in
    let o = turn_if p (now h) (pass p h) j s.0 in
    record { up = a.0; begun = o.0; after = o.1; first = o.2; delay = o.3; alone = not-true _ s.1; from = leb-true p.from (now h % 1440) r.1; to = ltb-true (now h % 1440) p.to q.1 }
legal_if p h (End r) n = (passed _ _ _ n).0
legal_if p h (Down) n = (passed _ _ _ n).0
legal_if p h (Up t) n =
    let a = passed (not (is_up h)) _ _ n in let b = passed (is_civil t) _ _ a.1 in let c = passed (nat_le (now h) t) _ _ b.1 in
    record { down = not-true _ a.0; civil = civil_if t b.0; later = leb-true (now h) t c.0 }

pub if_legal : (p : Plan) (h : History) (e : Event) → May p h e → refusal p (state_of p h) e ≡ None
if_legal p h (Minute t) m = passes _ _ _ m.up (passes _ _ _ (if_civil t m.civil) (passes _ _ _ (eq-eqb t (now h + 1) m.next) (passes _ _ _ (if_settled p h m.settled) refl)))
if_legal p h (Begin j) m = passes _ _ _ m.up (passes _ _ _ m.is_pending refl)
if_legal p h (Got j d) m = passes _ _ _ m.up (passes _ _ _ m.is_waiting (passes _ _ _ m.free refl))
if_legal p h (Catch j) m = passes _ _ _ m.up (passes _ _ _
    (and_from _ _ (and_from _ _ (and_from _ _
    (ap (λ o. is_turn p (now h) o j) m.first ∙ and_from (j == j) (nat_le (m.begun + p.delay j) (now h)) (eq-eqb j j refl) (le-leb (m.begun + p.delay j) (now h) m.delay))
    (ap not m.alone)) (le-leb p.from (now h % 1440) m.from)) (lt-ltb (now h % 1440) p.to m.to)) refl)
if_legal p h (End r) m = passes _ _ _ m refl
if_legal p h (Down) m = passes _ _ _ m refl
if_legal p h (Up t) m = passes _ _ _ (ap not m.down) (passes _ _ _ (if_civil t m.civil) (passes _ _ _ (le-leb (now h) t m.later) refl))

pub legal : (p : Plan) (h : History) (e : Event) → (refusal p (state_of p h) e ≡ None) ↔ May p h e
legal p h e = (legal_if p h e, if_legal p h e)

-- a call that steps a state follows each history that leaves that state
pub follows : (p : Plan) (h : History) (e : Event) (result : Result Reply Refusal) (old new : State) → old ≡ state_of p h → Steps p old e result new → Follows p h e result new
follows p h e (Ok r) old new is s = (
  legal_if p h e (subst (λ o. refusal p o e ≡ None) is s.0),
  s.1 ∙ ap (λ o. reply p o e) is,
  s.2 ∙ (ap (λ o. after p o e) is ∙ sym (stands p h e)),
)
follows p h e (Err f) old new is s = (subst (λ o. IsFirst f (refusal p o e)) is s.0, s.1 ∙ is)

pub reached : (p : Plan) (h : History) → IsLegal p h → IsReached (now h)
reached p (From s) legal = legal
reached p (h ▸ Minute t) legal = let c = reached p h legal.0 in record { first = omega (arith, c.first, legal.1.next); last = legal.1.civil.last }
reached p (h ▸ Begin j) legal = reached p h legal.0
reached p (h ▸ Got j d) legal = reached p h legal.0
reached p (h ▸ Catch j) legal = reached p h legal.0
reached p (h ▸ End r) legal = reached p h legal.0
reached p (h ▸ Down) legal = reached p h legal.0
reached p (h ▸ Up t) legal = let c = reached p h legal.0 in record { first = omega (arith, c.first, legal.1.later); last = legal.1.civil.last }
