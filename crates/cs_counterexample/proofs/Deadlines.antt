use Rattle.std.proofs.Common.{ℕ, ◌+◌, ◌<◌, ◌≤◌, ◌≡◌, true, false, not, List, [], ◌∷◌, ◌++◌, arith, nat_le}
use Rattle.std.specs.List.{AllByRecursion}
use Rattle.std.proofs.lemmas.Bool.{leb-true, leb-false, lt-leb}
use Rattle.cs_history.specs.Plan.{Plan}
use Rattle.cs_history.specs.History.{History, ◌▸◌, running, Answer, Starts, Waits, Skips, answer, with_started, going, run_of, same_run, IsInTime, IsWithin}
use Rattle.cs_history.specs.Step.{State, after, reply, said}
use Rattle.cs_history.specs.declared.run.Going.{Going}
use Rattle.cs_history.specs.declared.event.Event.{Event}
use Rattle.cs_history.specs.declared.event.Event.TheVariants.{Minute, Begin, Got, Catch, End, Down, Up}
use Rattle.cs_history.proofs.Lists.{all_map, all_push, all-filter, none_passes, none_pass, any_at}
use Rattle.cs_counterexample.specs.Trial.{any_over, is_late, IsDeadline, IsNextDeadline}

-- before the deadline none is over its time
pub none_over : (p : Plan) (d : ℕ) (rs : List Going) (t : ℕ) → IsDeadline p d rs → t < d → any_over p rs t ≡ false
none_over p d rs t a l = none_pass (λ r. nat_le (r.since + p.limit r.run.job) t) rs (all_map (λ r. d ≤ r.since + p.limit r.run.job) (λ r. nat_le (r.since + p.limit r.run.job) t ≡ false) rs (λ r h. lt-leb (r.since + p.limit r.run.job) t (omega (arith, h, l))) a)

pub sooner : (p : Plan) (d n : ℕ) (rs : List Going) → IsDeadline p d rs → n ≤ d → IsDeadline p n rs
sooner p d n rs a l = all_map (λ r. d ≤ r.since + p.limit r.run.job) (λ r. n ≤ r.since + p.limit r.run.job) rs (λ r h. omega (arith, h, l)) a

pub deadline_push : (p : Plan) (n : ℕ) (rs : List Going) (r : Going) → IsDeadline p n rs → n ≤ r.since + p.limit r.run.job → IsDeadline p n (rs ++ r ∷ [])
deadline_push p n rs r a l = all_push (λ (x : Going). n ≤ x.since + p.limit x.run.job) rs r a l

begin_deadline : (p : Plan) (d n : ℕ) (rs : List Going) (j t : ℕ) (a : Answer) → IsDeadline p d rs → IsNextDeadline p d (said a (run_of j t)) t n → IsDeadline p n (with_started a rs (going j t t))
begin_deadline p d n rs j t Starts a l = deadline_push p n rs (going j t t) (sooner p d n rs a l.0) l.1
begin_deadline p d n rs j t Waits a l = sooner p d n rs a (omega (arith, l))
begin_deadline p d n rs j t Skips a l = sooner p d n rs a (omega (arith, l))

pub deadline_next : (p : Plan) (s : State) (e : Event) (d n : ℕ) → IsDeadline p d s.running → IsNextDeadline p d (reply p s e) s.now n → IsDeadline p n (after p s e).running
deadline_next p s (Minute t) d n a l = sooner p d n s.running a (omega (arith, l))
deadline_next p s (Begin j) d n a l = begin_deadline p d n s.running j s.now (answer p s.running j) a l
deadline_next p s (Got j t) d n a l = deadline_push p n s.running (going j t s.now) (sooner p d n s.running a l.0) l.1
deadline_next p s (Catch j) d n a l = deadline_push p n s.running (going j s.now s.now) (sooner p d n s.running a l.0) l.1
deadline_next p s (End r) d n a l = all-filter (λ (x : Going). n ≤ x.since + p.limit x.run.job) (λ x. not (same_run r x.run)) s.running (sooner p d n s.running a (omega (arith, l)))
deadline_next p s Down d n a l = sooner p d n s.running a (omega (arith, l))
deadline_next p s (Up t) d n a l = sooner p d n s.running a (omega (arith, l))

within_if : (p : Plan) (rs : List Going) (t : ℕ) → any_over p rs t ≡ false → AllByRecursion (IsWithin p t) rs
within_if p rs t e = all_map (λ r. nat_le (r.since + p.limit r.run.job) t ≡ false) (IsWithin p t) rs (λ r h. leb-false (r.since + p.limit r.run.job) t h) (none_passes (λ r. nat_le (r.since + p.limit r.run.job) t) rs e)

over_not_within : (p : Plan) (rs : List Going) (t : ℕ) → any_over p rs t ≡ true → AllByRecursion (IsWithin p t) rs → ⊥
over_not_within p rs t e a = let h = any_at (λ r. nat_le (r.since + p.limit r.run.job) t) (IsWithin p t) rs e a in let l = leb-true (h.0.since + p.limit h.0.run.job) t h.1 in omega (arith, l, h.2)

-- an event that finds none leaves the history in time
pub in_time_if : (p : Plan) (h : History) (e : Event) → IsInTime p h → is_late p (running p h) e ≡ false → IsInTime p (h ▸ e)
in_time_if p h (Minute t) i e = (i, within_if p (running p h) t e)
in_time_if p h (Begin j) i e = i
in_time_if p h (Got j d) i e = i
in_time_if p h (Catch j) i e = i
in_time_if p h (End r) i e = i
in_time_if p h Down i e = i
in_time_if p h (Up t) i e = (i, within_if p (running p h) t e)

pub late_not_in_time : (p : Plan) (h : History) (e : Event) → is_late p (running p h) e ≡ true → IsInTime p (h ▸ e) → ⊥
late_not_in_time p h (Minute t) e i = over_not_within p (running p h) t e i.1
late_not_in_time p h (Begin j) e i = cc
late_not_in_time p h (Got j d) e i = cc
late_not_in_time p h (Catch j) e i = cc
late_not_in_time p h (End r) e i = cc
late_not_in_time p h Down e i = cc
late_not_in_time p h (Up t) e i = over_not_within p (running p h) t e i.1
