-- What a history breaks first is what makes it unsafe.
use Rattle.std.proofs.Common.{ℕ, ◌≤◌, ◌≡◌, Bool, true, false, ◌↔◌, if◌then◌else◌, List, [], ◌∷◌, refl, ap, ◌∙◌, arith, Option, Some, None, nat_lt}
use Rattle.std.specs.List.{AllByRecursion}
use Rattle.std.proofs.lemmas.Bool.{le-ltb, ltb-false, both_ways, false_from_ne_true}
use Rattle.cs_history.specs.Lists.{EachPair}
use Rattle.cs_history.specs.Plan.{Plan, is_skip}
use Rattle.cs_history.specs.History.{History, From, ◌▸◌, now, running, Answer, Starts, Waits, Skips, answer, IsSafe, IsSafeNow, IsNoSkip}
use Rattle.cs_history.specs.declared.mode.Mode.{Mode}
use Rattle.cs_history.specs.declared.mode.Mode.TheVariants.{Plain, Skip, Try, Wait, Shared}
use Rattle.cs_history.specs.declared.run.Going.{Going}
use Rattle.cs_history.specs.declared.event.Event.{Event}
use Rattle.cs_history.specs.declared.event.Event.TheVariants.{Minute, Begin, Got, Catch, End, Down, Up}
use Rattle.cs_counterexample.specs.declared.shown.Shown.{Shown}
use Rattle.cs_counterexample.specs.declared.shown.Shown.TheVariants.{Together, Load, Skipped}
use Rattle.std.specs.Option.{option_or}
use Rattle.cs_counterexample.specs.Break.{clash, clash_of, first_clash, weight_of, overload_of, break_among, skip_shown, skip_of, skip_by, break_by, first_break}
use Rattle.cs_counterexample.specs.FirstBreak.{AreFine}

pub neither : (a b : Option Shown) → option_or a b ≡ None → (a ≡ None) × (b ≡ None)
neither None b e = (refl, e)
neither (Some s) b e = absurd (cc)

pub both_none : (a b : Option Shown) → a ≡ None → b ≡ None → option_or a b ≡ None
both_none a b p q = ap (λ o. option_or o b) p ∙ q

pub unless_some : (b : Bool) (s : Shown) (o : Option Shown) → (if b then Some s else o) ≡ None → (b ≡ false) × (o ≡ None)
unless_some true s o e = absurd (cc)
unless_some false s o e = (refl, e)

pub fine_with : (p : Plan) (r : Going) (qs : List Going) → clash_of p r qs ≡ None → AllByRecursion (AreFine p r) qs
fine_with p r [] e = tt
fine_with p r (q ∷ qs) e = let h = unless_some (clash p r.run.job q.run.job) (Together r.run q.run) (clash_of p r qs) e in (h.0, fine_with p r qs h.1)

with_fine : (p : Plan) (r : Going) (qs : List Going) → AllByRecursion (AreFine p r) qs → clash_of p r qs ≡ None
with_fine p r [] a = refl
with_fine p r (q ∷ qs) a = ap (λ (b : Bool). if b then Some (Together r.run q.run) else clash_of p r qs) a.0 ∙ with_fine p r qs a.1

pub apart_if : (p : Plan) (rs : List Going) → first_clash p rs ≡ None → EachPair (AreFine p) rs
apart_if p [] e = tt
apart_if p (r ∷ rs) e = let h = neither (clash_of p r rs) (first_clash p rs) e in (fine_with p r rs h.0, apart_if p rs h.1)

pub if_apart : (p : Plan) (rs : List Going) → EachPair (AreFine p) rs → first_clash p rs ≡ None
if_apart p [] a = refl
if_apart p (r ∷ rs) a = both_none (clash_of p r rs) (first_clash p rs) (with_fine p r rs a.0) (if_apart p rs a.1)

pub light_if : (p : Plan) (rs : List Going) → overload_of p rs ≡ None → weight_of p rs ≤ p.capacity
light_if p rs e = ltb-false p.capacity (weight_of p rs) (unless_some (nat_lt p.capacity (weight_of p rs)) (Load (weight_of p rs)) None e).0

pub if_light : (p : Plan) (rs : List Going) → weight_of p rs ≤ p.capacity → overload_of p rs ≡ None
if_light p rs l = ap (λ (b : Bool). if b then Some (Load (weight_of p rs)) else None) (le-ltb p.capacity (weight_of p rs) l)

pub safe_now_if : (p : Plan) (h : History) → break_among p (running p h) ≡ None → IsSafeNow p h
safe_now_if p h e = let q = neither (first_clash p (running p h)) (overload_of p (running p h)) e in record { apart = apart_if p (running p h) q.0; load = light_if p (running p h) q.1 }

pub if_safe_now : (p : Plan) (h : History) → IsSafeNow p h → break_among p (running p h) ≡ None
if_safe_now p h s = both_none (first_clash p (running p h)) (overload_of p (running p h)) (if_apart p (running p h) s.apart) (if_light p (running p h) s.load)

pub of_skip : (m : Mode) → is_skip m ≡ true → m ≡ Skip
of_skip Plain e = absurd (cc)
of_skip Skip e = refl
of_skip Try e = absurd (cc)
of_skip Wait e = absurd (cc)
of_skip Shared e = absurd (cc)

no_skip_of : (p : Plan) (a : Answer) (j t : ℕ) → skip_of p a j t ≡ None → p.mode j ≡ Skip → a ≡ Skips → ⊥
no_skip_of p Starts j t e m s = cc
no_skip_of p Waits j t e m s = cc
no_skip_of p Skips j t e m s = both_ways (is_skip (p.mode j)) (unless_some (is_skip (p.mode j)) (Skipped j t) None e).0 (ap is_skip m)

none_shown : (p : Plan) (j t : ℕ) → (p.mode j ≡ Skip → ⊥) → skip_shown p j t ≡ None
none_shown p j t n = ap (λ (b : Bool). if b then Some (Skipped j t) else None) (false_from_ne_true (is_skip (p.mode j)) (λ e. n (of_skip (p.mode j) e)))

skip_of_none : (p : Plan) (a : Answer) (j t : ℕ) → (p.mode j ≡ Skip → a ≡ Skips → ⊥) → skip_of p a j t ≡ None
skip_of_none p Starts j t n = refl
skip_of_none p Waits j t n = refl
skip_of_none p Skips j t n = none_shown p j t (λ m. n m refl)

no_skip_if : (p : Plan) (h : History) (e : Event) → skip_by p (running p h) (now h) e ≡ None → IsNoSkip p h e
no_skip_if p h (Minute t) e = tt
no_skip_if p h (Begin j) e = no_skip_of p (answer p (running p h) j) j (now h) e
no_skip_if p h (Got j d) e = tt
no_skip_if p h (Catch j) e = tt
no_skip_if p h (End r) e = tt
no_skip_if p h Down e = tt
no_skip_if p h (Up t) e = tt

if_no_skip : (p : Plan) (h : History) (e : Event) → IsNoSkip p h e → skip_by p (running p h) (now h) e ≡ None
if_no_skip p h (Minute t) n = refl
if_no_skip p h (Begin j) n = skip_of_none p (answer p (running p h) j) j (now h) n
if_no_skip p h (Got j d) n = refl
if_no_skip p h (Catch j) n = refl
if_no_skip p h (End r) n = refl
if_no_skip p h Down n = refl
if_no_skip p h (Up t) n = refl

pub safe_if : (p : Plan) (h : History) → first_break p h ≡ None → IsSafe p h
safe_if p (From s) e = record { apart = tt; load = omega arith }
safe_if p (h ▸ e) n =
    let a = neither (first_break p h) (break_by p h e) n in
    let b = neither (break_among p (running p (h ▸ e))) (skip_by p (running p h) (now h) e) a.1 in
    (safe_if p h a.0, safe_now_if p (h ▸ e) b.0, no_skip_if p h e b.1)

pub if_safe : (p : Plan) (h : History) → IsSafe p h → first_break p h ≡ None
if_safe p (From s) n = refl
if_safe p (h ▸ e) s =
    both_none (first_break p h) (break_by p h e) (if_safe p h s.0)
    (both_none (break_among p (running p (h ▸ e))) (skip_by p (running p h) (now h) e) (if_safe_now p (h ▸ e) s.1) (if_no_skip p h e s.2))

pub unbroken : (p : Plan) (h : History) → (first_break p h ≡ None) ↔ IsSafe p h
unbroken p h = (safe_if p h, if_safe p h)
