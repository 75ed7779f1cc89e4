-- What a kept journal that is safe says of the runs that run now.
use Rattle.std.proofs.Common.{◌≡◌, ◌≤◌, ◌&&◌, false, not, subst, sym}
use Rattle.cs_history.specs.History.{History, From, ◌▸◌, IsInTime, IsSafe, IsSafeNow, running}
use Rattle.cs_history.specs.Journal.{told}
use Rattle.cs_history.specs.Lists.{EachPair, total}
use Rattle.cs_history.specs.Plan.{Plan, both_share, rivals}
use Rattle.cs_history.specs.Step.{State}
use Rattle.cs_keep.specs.Keeping.{Keeping, IsKept, IsSafeInTime, plan_of}

safe_now : (p : Plan) (h : History) → IsSafe p h → IsSafeNow p h
safe_now p (From s) safe = safe
safe_now p (h ▸ e) safe = safe.1

now_safe : (k : Keeping) → IsSafeInTime k → IsInTime (plan_of k) (told k.base k.journal) → IsSafeNow (plan_of k) (told k.base k.journal)
now_safe k safe in_time = safe_now (plan_of k) (told k.base k.journal) (safe in_time)

pub apart : (k : Keeping) → IsKept k → IsSafeInTime k → IsInTime (plan_of k) (told k.base k.journal)
    → EachPair (λ r q. (rivals (plan_of k) q.run.job r.run.job && not (both_share (plan_of k) q.run.job r.run.job)) ≡ false) k.core.state.running
apart k kept safe in_time =
    subst (λ (s : State). EachPair (λ r q. (rivals (plan_of k) q.run.job r.run.job && not (both_share (plan_of k) q.run.job r.run.job)) ≡ false) s.running)
    (sym kept.leaves) (now_safe k safe in_time).apart

pub light : (k : Keeping) → IsKept k → IsSafeInTime k → IsInTime (plan_of k) (told k.base k.journal)
    → total (λ r. (plan_of k).weight r.run.job) k.core.state.running ≤ (plan_of k).capacity
light k kept safe in_time =
    subst (λ (s : State). total (λ r. (plan_of k).weight r.run.job) s.running ≤ (plan_of k).capacity) (sym kept.leaves) (now_safe k safe in_time).load
