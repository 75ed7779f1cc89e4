-- What is shown names runs of the plan.
use Rattle.std.proofs.Common.{ℕ, ◌<◌, ◌≤◌, ◌≡◌, true, false, not, List, ◌∷◌, ◌++◌, sym, subst, arith, Option, Some, ◌==◌}
use Rattle.std.specs.List.{AllByRecursion, list_any}
use Rattle.std.proofs.lemmas.Bool.{ltb-true, eqb-true}
use Rattle.cs_history.specs.Plan.{Plan, is_cron, IsReached}
use Rattle.cs_history.specs.History.{History, From, ◌▸◌, now, running, waiting, pending, Answer, Starts, Waits, Skips, answer, with_started, with_waiting, going, run_of, same_run, IsLegal}
use Rattle.cs_history.specs.Names.{jobs_left}
use Rattle.cs_history.specs.declared.run.Run.{Run}
use Rattle.cs_history.specs.declared.run.Going.{Going}
use Rattle.cs_history.specs.declared.event.Event.{Event}
use Rattle.cs_history.specs.declared.event.Event.TheVariants.{Minute, Begin, Got, Catch, End, Down, Up}
use Rattle.cs_history.proofs.Lists.{all_push, all-filter, any_at}
use Rattle.cs_history.proofs.Names.{run_is, named}
use Rattle.cs_history.proofs.Steps.{reached}
use Rattle.cs_history.specs.declared.script.Script.{Script}
use Rattle.cs_counterexample.specs.declared.shown.Shown.{Shown}
use Rattle.cs_counterexample.specs.declared.shown.Shown.TheVariants.{Together, Load, Skipped}
use Rattle.cs_counterexample.specs.Break.{first_break}
use Rattle.cs_counterexample.specs.FirstBreak.{Breaks, IsFirstPair}
use Rattle.cs_counterexample.specs.Shown.{IsRunOf, IsTellable, history_of}
use Rattle.cs_counterexample.proofs.Firsts.{all_right, first_is}
use Rattle.cs_counterexample.proofs.Scripts.{legal_before, shows}
use Rattle.cs_counterexample.proofs.Trials.{IsTrial}
use Rattle.cs_plan.specs.Plan.{Declared, as_plan}
use Rattle.cs_counterexample.specs.Trial.{Tried}

record AreOf (p : Plan) (rs : List Going) (ws : List Run) : Type 0 where
  runs : AllByRecursion (λ r. IsRunOf p r.run) rs
  waits : AllByRecursion (IsRunOf p) ws

begun : (p : Plan) (rs : List Going) (ws : List Run) (j t : ℕ) (a : Answer) → IsRunOf p (run_of j t) → AreOf p rs ws → AreOf p (with_started a rs (going j t t)) (with_waiting a ws (run_of j t))
begun p rs ws j t Starts r k = record { runs = all_push (λ (x : Going). IsRunOf p x.run) rs (going j t t) k.runs r; waits = k.waits }
begun p rs ws j t Waits r k = record { runs = k.runs; waits = all_push (IsRunOf p) ws (run_of j t) k.waits r }
begun p rs ws j t Skips r k = k

pending_cron : (p : Plan) (h : History) (j : ℕ) → IsLegal p h → list_any (λ i. j == i) (pending p h) ≡ true → is_cron p j ≡ true
pending_cron p h j l e = let f = any_at (λ i. j == i) (λ i. is_cron p i ≡ true) (pending p h) e (named p h l).pending in subst (λ i. is_cron p i ≡ true) (sym (eqb-true j f.0 f.1)) f.2

cron_run : (p : Plan) (j : ℕ) → p.crons ≤ p.jobs → is_cron p j ≡ true → j < p.jobs
cron_run p j l e = let c = ltb-true j p.crons e in omega (arith, c, l)

are_of : (p : Plan) → p.crons ≤ p.jobs → (h : History) → IsLegal p h → AreOf p (running p h) (waiting p h)
are_of p c (From s) l = record { runs = tt; waits = tt }
are_of p c (h ▸ Minute t) l = are_of p c h l.0
are_of p c (h ▸ Begin j) l = begun p (running p h) (waiting p h) j (now h) (answer p (running p h) j) (cron_run p j c (pending_cron p h j l.0 l.1.is_pending), reached p h l.0) (are_of p c h l.0)
are_of p c (h ▸ Got j d) l =
    let k = are_of p c h l.0 in
    let f = any_at (same_run (run_of j d)) (IsRunOf p) (waiting p h) l.1.is_waiting k.waits in
    let r : IsRunOf p (run_of j d) = subst (IsRunOf p) (sym (run_is (run_of j d) f.0 f.1)) f.2 in
    record { runs = all_push (λ (x : Going). IsRunOf p x.run) (running p h) (going j d (now h)) k.runs r; waits = all-filter (IsRunOf p) (λ w. not (same_run (run_of j d) w)) (waiting p h) k.waits }
are_of p c (h ▸ Catch j) l =
    let k = are_of p c h l.0 in
    let left = subst (λ o. AllByRecursion (λ i. (is_cron p i ≡ false) × (i < p.jobs)) (jobs_left o)) l.1.first (named p h l.0).pass in
    record { runs = all_push (λ (x : Going). IsRunOf p x.run) (running p h) (going j (now h) (now h)) k.runs (left.0.1, reached p h l.0); waits = k.waits }
are_of p c (h ▸ End r) l = let k = are_of p c h l.0 in record { runs = all-filter (λ (x : Going). IsRunOf p x.run) (λ x. not (same_run r x.run)) (running p h) k.runs; waits = k.waits }
are_of p c (h ▸ Down) l = record { runs = (are_of p c h l.0).runs; waits = tt }
are_of p c (h ▸ Up t) l = record { runs = (are_of p c h l.0).runs; waits = tt }

pair_of : (p : Plan) (rs : List Going) (r q : Run) → AllByRecursion (λ x. IsRunOf p x.run) rs → IsFirstPair p rs r q → IsRunOf p r × IsRunOf p q
pair_of p rs r q a k =
    let all : AllByRecursion (λ x. IsRunOf p x.run) (k.front ++ k.one ∷ (k.between ++ k.other ∷ k.behind)) = subst (λ l. AllByRecursion (λ x. IsRunOf p x.run) l) k.order a in
    let back = all_right (λ (x : Going). IsRunOf p x.run) k.front (k.one ∷ (k.between ++ k.other ∷ k.behind)) all in
    let last = all_right (λ (x : Going). IsRunOf p x.run) k.between (k.other ∷ k.behind) back.1 in
    (subst (IsRunOf p) k.first back.0, subst (IsRunOf p) k.second last.0)

tell : (p : Plan) → p.crons ≤ p.jobs → (h : History) (e : Event) (s : Shown) → IsLegal p (h ▸ e) → Breaks p h e s → IsTellable p s
tell p c h e (Together r q) l b = pair_of p (running p (h ▸ e)) r q (are_of p c (h ▸ e) l).runs b
tell p c h e (Load n) l b = tt
tell p c h e (Skipped j t) l b =
    let m = subst (λ x. IsLegal p (h ▸ x)) b.begin l in
    (pending_cron p h j m.0 m.1.is_pending, subst IsReached (sym b.due) (reached p h m.0))

pub tellable : (p : Plan) → p.crons ≤ p.jobs → (h : History) (s : Shown) → IsLegal p h → first_break p h ≡ Some s → IsTellable p s
tellable p c h s l f =
    let k = first_is p h s f in
    tell p c k.before k.event s (legal_before p (k.before ▸ k.event) k.rest (subst (IsLegal p) k.whole l)) k.breaks

-- so is what a trial ends with
pub tells : (d : Declared) (script : Script) (t : Tried) (o : Option Shown) (s : Shown) → (as_plan d).crons ≤ (as_plan d).jobs → IsTrial d script.start script.events t → o ≡ t.shown → o ≡ Some s → IsTellable (as_plan d) s
tells d script t o s c k a b = let w = shows d script t o s k a b in tellable (as_plan d) c (history_of script) s w.unsafe.legal w.first
