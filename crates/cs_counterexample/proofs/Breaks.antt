-- What an event breaks is decided by the run that it starts.
use Rattle.std.proofs.Common.{ℕ, ◌+◌, ◌≤◌, ◌≡◌, Bool, true, false, not, if◌then◌else◌, List, [], ◌∷◌, ◌++◌, filter, refl, sym, ap, ◌∙◌, arith, Option, Some, None}
use Rattle.cs_history.specs.Plan.{Plan}
use Rattle.cs_history.specs.History.{Answer, Starts, Waits, Skips, answer, with_started, going, run_of, same_run}
use Rattle.cs_history.specs.Step.{State, after, reply, said}
use Rattle.cs_history.specs.declared.run.Run.{Run}
use Rattle.cs_history.specs.declared.run.Going.{Going}
use Rattle.cs_history.specs.declared.event.Event.{Event}
use Rattle.cs_history.specs.declared.event.Event.TheVariants.{Minute, Begin, Got, Catch, End, Down, Up}
use Rattle.cs_history.proofs.Lists.{pairs-filter, total-filter, total_push}
use Rattle.cs_counterexample.specs.declared.shown.Shown.{Shown}
use Rattle.cs_counterexample.specs.declared.shown.Shown.TheVariants.{Together}
use Rattle.std.specs.Option.{option_or}
use Rattle.cs_counterexample.specs.Break.{clash, clash_of, first_clash, weight_of, overload, overload_of, break_among, skip_shown, skip_of, skip_by}
use Rattle.cs_counterexample.specs.FirstBreak.{AreFine}
use Rattle.cs_counterexample.specs.Trial.{break_from, run_by, clash_before, break_by_run, break_by_start, break_by_reply}
use Rattle.cs_counterexample.proofs.Safety.{neither, both_none, unless_some, apart_if, if_apart, light_if, if_light}

pub or_none : (o : Option Shown) → option_or o None ≡ o
or_none None = refl
or_none (Some s) = refl

none_or : (a b : Option Shown) → a ≡ None → option_or a b ≡ b
none_or a b e = ap (λ o. option_or o b) e

if_or : (b : Bool) (s : Shown) (o : Option Shown) → option_or (if b then Some s else None) o ≡ (if b then Some s else o)
if_or true s o = refl
if_or false s o = refl

of_push : (p : Plan) (r : Going) (qs : List Going) (q : Going) → clash_of p r qs ≡ None → clash_of p r (qs ++ q ∷ []) ≡ (if clash p r.run.job q.run.job then Some (Together r.run q.run) else None)
of_push p r [] q e = refl
of_push p r (x ∷ qs) q e =
    let h = unless_some (clash p r.run.job x.run.job) (Together r.run x.run) (clash_of p r qs) e in
    ap (λ (b : Bool). if b then Some (Together r.run x.run) else clash_of p r (qs ++ q ∷ [])) h.0 ∙ of_push p r qs q h.1

clash_push : (p : Plan) (rs : List Going) (q : Going) → first_clash p rs ≡ None → first_clash p (rs ++ q ∷ []) ≡ clash_before p rs q.run
clash_push p [] q e = refl
clash_push p (r ∷ rs) q e =
    let h = neither (clash_of p r rs) (first_clash p rs) e in
    ap (λ o. option_or o (first_clash p (rs ++ q ∷ []))) (of_push p r rs q h.0)
    ∙ ap (λ o. option_or (if clash p r.run.job q.run.job then Some (Together r.run q.run) else None) o) (clash_push p rs q h.1)
    ∙ if_or (clash p r.run.job q.run.job) (Together r.run q.run) (clash_before p rs q.run)

-- what it breaks that one more run starts
pub break_push : (p : Plan) (rs : List Going) (r : Run) (since : ℕ) → break_among p rs ≡ None → break_by_run p rs r ≡ break_among p (rs ++ record { run = r; since = since } ∷ [])
break_push p rs r since e =
    let h = neither (first_clash p rs) (overload_of p rs) e in
    let q : Going = record { run = r; since = since } in
    ap (λ o. option_or o (overload p (weight_of p rs + p.weight r.job))) (sym (clash_push p rs q h.0))
    ∙ ap (λ n. option_or (first_clash p (rs ++ q ∷ [])) (overload p n)) (sym (total_push (λ (x : Going). p.weight x.run.job) rs q))

pub break-filter : (p : Plan) (t : Going → Bool) (rs : List Going) → break_among p rs ≡ None → break_among p (filter t rs) ≡ None
break-filter p t rs e =
    let h = neither (first_clash p rs) (overload_of p rs) e in
    both_none (first_clash p (filter t rs)) (overload_of p (filter t rs))
    (if_apart p (filter t rs) (pairs-filter (AreFine p) t rs (apart_if p rs h.0)))
    (if_light p (filter t rs) (omega (arith, total-filter t (λ (x : Going). p.weight x.run.job) rs, light_if p rs h.1)))

begin_break : (p : Plan) (rs : List Going) (j t : ℕ) (at_start : Option Shown) (a : Answer) → break_among p rs ≡ None → at_start ≡ break_among p (rs ++ going j t t ∷ []) → break_by_reply p (said a (run_of j t)) (Some (run_of j t)) at_start ≡ option_or (break_among p (with_started a rs (going j t t))) (skip_of p a j t)
begin_break p rs j t at_start Starts b s = s ∙ sym (or_none (break_among p (rs ++ going j t t ∷ [])))
begin_break p rs j t at_start Waits b s = sym (none_or (break_among p rs) None b)
begin_break p rs j t at_start Skips b s = sym (none_or (break_among p rs) (skip_shown p j t) b)

pub break_is : (p : Plan) (s : State) (e : Event) (at_start : Option Shown) → break_among p s.running ≡ None → ((r : Run) (since : ℕ) → run_by e s.now ≡ Some r → at_start ≡ break_among p (s.running ++ record { run = r; since = since } ∷ [])) → break_by_reply p (reply p s e) (run_by e s.now) at_start ≡ break_from p s e
break_is p s (Minute t) at_start b f = sym (none_or (break_among p s.running) None b)
break_is p s (Begin j) at_start b f = begin_break p s.running j s.now at_start (answer p s.running j) b (f (run_of j s.now) s.now refl)
break_is p s (Got j d) at_start b f = f (run_of j d) s.now refl ∙ sym (or_none (break_among p (s.running ++ going j d s.now ∷ [])))
break_is p s (Catch j) at_start b f = f (run_of j s.now) s.now refl ∙ sym (or_none (break_among p (s.running ++ going j s.now s.now ∷ [])))
break_is p s (End r) at_start b f = sym (none_or (break_among p (filter (λ x. not (same_run r x.run)) s.running)) None (break-filter p (λ x. not (same_run r x.run)) s.running b))
break_is p s Down at_start b f = sym (none_or (break_among p s.running) None b)
break_is p s (Up t) at_start b f = sym (none_or (break_among p s.running) None b)

pub shown_next : (p : Plan) (s : State) (e : Event) (shown : Option Shown) → (shown ≡ None → break_among p s.running ≡ None) → option_or shown (break_by_reply p (reply p s e) (run_by e s.now) (break_by_start p shown s.running (run_by e s.now))) ≡ option_or shown (break_from p s e)
shown_next p s e (Some x) b = refl
shown_next p s e None b = break_is p s e (break_by_start p None s.running (run_by e s.now)) (b refl) (λ r since is. ap (λ o. break_by_start p None s.running o) is ∙ break_push p s.running r since (b refl))

pub quiet_next : (p : Plan) (s : State) (e : Event) (shown : Option Shown) → option_or shown (break_from p s e) ≡ None → break_among p (after p s e).running ≡ None
quiet_next p s e shown n = (neither (break_among p (after p s e).running) (skip_by p s.running s.now e) (neither shown (break_from p s e) n).1).0

pub light : (p : Plan) (rs : List Going) → break_among p rs ≡ None → weight_of p rs ≤ p.capacity
light p rs e = light_if p rs (neither (first_clash p rs) (overload_of p rs) e).1
