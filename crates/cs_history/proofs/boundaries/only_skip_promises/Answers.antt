use Rattle.std.proofs.Common.{◌≡◌, ◌≤◌, Bool, false, not, ◌&&◌, if◌then◌else◌, List, sym, ap, ◌∙◌, subst}
use Rattle.cs_history.specs.History.{Answer, From, History, IsSafe, IsSafeNow, Skips, Starts, answer, going, now, running, when_held, with_started, ◌▸◌}
use Rattle.cs_history.specs.Lists.{EachPair, total}
use Rattle.cs_history.specs.Plan.{Plan, both_share, rivals}
use Rattle.cs_history.specs.declared.event.Event.TheVariants.{Begin}
use Rattle.cs_history.specs.declared.run.Going.{Going}
use Rattle.cs_history.proofs.boundaries.only_skip_promises.Goals as goal

safe_last : (p : Plan) (h : History) → IsSafe p h → IsSafeNow p h
safe_last p (From s) safe = safe
safe_last p (h ▸ e) safe = safe.1

abbrev AreSafe : Plan → List Going → Type 0
AreSafe p rs =
    EachPair (λ r q. (rivals p q.run.job r.run.job && not (both_share p q.run.job r.run.job)) ≡ false) rs
    × (total (λ r. p.weight r.run.job) rs ≤ p.capacity)

-- a skipped run changes nothing in what runs
pub returns-clause-tried : goal.returns-clause-tried
returns-clause-tried c p h j of_try held safe =
    let skipped : answer p (running p h) j ≡ Skips = ap (λ (b : Bool). if b then Starts else when_held (p.mode j)) held ∙ ap when_held of_try in
    let same : running p h ≡ running p (h ▸ Begin j) = sym (ap (λ (a : Answer). with_started a (running p h) (going j (now h) (now h))) skipped) in
    let before = safe_last p h safe in
    let after = subst (AreSafe p) same (before.apart, before.load) in
    (safe, record { apart = after.0; load = after.1 }, λ of_skip. cc)
