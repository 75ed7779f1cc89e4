-- If no fault is found, every legal history in time is safe.
use Rattle.std.proofs.Common.{◌≡◌, ℕ, ◌+◌, ◌*◌, ◌/◌, ◌%◌, ◌<◌, ◌≤◌, List, [], ◌∷◌, length, Some, None, refl, sym, ap, ◌∙◌, arith}
use Rattle.cs_civil.specs.Calendar.{kind}
use Rattle.cs_history.specs.History.{History, From, ◌▸◌, IsSafe, IsSafeNow, running}
use Rattle.cs_history.specs.Lists.{total}
use Rattle.cs_history.specs.Plan.{Plan, IsPlan}
use Rattle.cs_history.specs.declared.run.Going.{Going}
use Rattle.cs_crontab.specs.declared.table.When.{When}
use Rattle.cs_crontab.specs.declared.table.When.TheVariants.{At, Reboot}
use Rattle.cs_zone.specs.Starts.{is_due as is_time_due}
use Rattle.cs_zone.specs.Zone.{Zone}
use Rattle.cs_plan.specs.Plan.{Declared, as_plan, command_of, is_due}
use Rattle.cs_windows.specs.declared.reach.JobReach.{JobReach}
use Rattle.cs_classes.specs.Planned.{due_on, is_due_on, reach_by}
use Rattle.cs_claims.specs.Content.{Content}
use Rattle.cs_classes.specs.Claim.{Claimed, as_certificate}
use Rattle.cs_classes.specs.StandsFor.{claimed, days_by}
use Rattle.cs_theorem.specs.Faults.{Fault}
use Rattle.cs_theorem.proofs.Safety.{safe}
use Rattle.cs_theorem.proofs.Runs.{runs_in_windows}
use Rattle.cs_theorem.specs.Accepted.{bound_on, IsByKind, IsLength}
use Rattle.cs_theorem.proofs.Calm.{calm}
use Rattle.cs_theorem.proofs.Bounded.{bounded}
use Rattle.cs_theorem.proofs.Points.{says_all}
use Rattle.cs_theorem.proofs.Lengths.{length_is}
use Rattle.cs_check.specs.Case.{reach_for, claim_fault, fault_of, IsAcceptedClaim, IsAcceptedWith, IsFit}
use Rattle.cs_check.specs.Checked.{AreFew, IsBroken, IsHeadline, IsCalmThroughout, StayInWindows, Tells}
use Rattle.cs_check.specs.declared.fault.CheckError.{CheckError}
use Rattle.cs_check.specs.declared.fault.CheckError.TheVariants as errors
use Rattle.cs_theorem.specs.Told.{told}

due_step : (z : Zone) (w : When) (d m : ℕ) → m < 1440 → is_due z w (1440 * d + m) ≡ is_due_on z w (kind d) m
due_step z (At schedule) d m lt =
    let x : (1440 * d + m) / 1440 ≡ d = omega (arith, lt) in
    let y : (1440 * d + m) % 1440 ≡ m = omega (arith, lt) in
    ap (λ (k : ℕ). is_time_due z schedule (kind k) ((1440 * d + m) % 1440)) x ∙ ap (λ (k : ℕ). is_time_due z schedule (kind d) k) y
due_step z Reboot d m lt = refl

pub by_kind : (d : Declared) → IsByKind (as_plan d) (due_on d)
by_kind d j e m cron lt = due_step d.zone (command_of d j).when e m lt

pub length_of : (d : Declared) (reach : List JobReach) → IsFit d reach → IsLength (as_plan d) (due_on d) (reach_by d reach) (days_by d reach)
length_of d reach fit = length_is (as_plan d) fit.plan (due_on d) (reach_by d reach) fit.modest

claim_accepted : (d : Declared) (c : Claimed) → IsFit d c.reach → claim_fault d c ≡ None → IsAcceptedClaim d c
unfolding claim_fault
claim_accepted d c fit e = let l = length_of d c.reach fit in (says_all (as_plan d) fit.plan (due_on d) (as_certificate c) (days_by d c.reach) (omega (arith, l.range.0))).0 e

claim_not_accepted : (d : Declared) (c : Claimed) (f : Fault) → IsFit d c.reach → claim_fault d c ≡ Some f → IsAcceptedClaim d c → ⊥
unfolding claim_fault
claim_not_accepted d c f fit is ok =
    let l = length_of d c.reach fit in
    let none = (says_all (as_plan d) fit.plan (due_on d) (as_certificate c) (days_by d c.reach) (omega (arith, l.range.0))).1 ok in
    let no : None ≡ Some f = sym none ∙ is in
    absurd cc

claim_headline : (d : Declared) (c : Claimed) → IsFit d c.reach → claim_fault d c ≡ None → IsHeadline (as_plan d)
claim_headline d c fit e =
    let l = length_of d c.reach fit in
    let ok = claim_accepted d c fit e in
    safe (as_plan d) (reach_by d c.reach) (bound_on (as_certificate c)) fit.plan
    (bounded (as_plan d) (due_on d) (by_kind d) (as_certificate c) (days_by d c.reach) l ok)
    (calm (as_plan d) fit.plan (due_on d) (by_kind d) (as_certificate c) (days_by d c.reach) l ok)

claim_calm_throughout : (d : Declared) (c : Claimed) → IsFit d c.reach → claim_fault d c ≡ None → IsCalmThroughout (as_plan d) (reach_by d c.reach)
claim_calm_throughout d c fit e = calm (as_plan d) fit.plan (due_on d) (by_kind d) (as_certificate c) (days_by d c.reach) (length_of d c.reach fit) (claim_accepted d c fit e)

claim_stays : (d : Declared) (c : Claimed) → IsFit d c.reach → claim_fault d c ≡ None → StayInWindows (as_plan d) (reach_by d c.reach)
claim_stays d c fit e h legal time =
    runs_in_windows (as_plan d) (reach_by d c.reach) (bound_on (as_certificate c)) fit.plan (bounded (as_plan d) (due_on d) (by_kind d) (as_certificate c) (days_by d c.reach) (length_of d c.reach fit) (claim_accepted d c fit e)) h legal time

safe_here : (p : Plan) (h : History) → IsSafe p h → IsSafeNow p h
safe_here p (From s) is = is
safe_here p (h ▸ e) is = is.1

length_total : (p : Plan) → IsPlan p → (rs : List Going) → length rs ≤ total (λ r. p.weight r.run.job) rs
length_total p plan [] = omega arith
length_total p plan (r ∷ rs) = omega (arith, plan.weights r.run.job, length_total p plan rs)

claim_few : (d : Declared) (c : Claimed) → IsFit d c.reach → claim_fault d c ≡ None → AreFew (as_plan d)
claim_few d c fit e h legal time = omega (arith, length_total (as_plan d) fit.plan (running (as_plan d) h), (safe_here (as_plan d) h (claim_headline d c fit e h legal time)).load)

-- ---- of what a certificate stands for

pub fault_is : (d : Declared) (c : Content) → fault_of d c ≡ claim_fault d (claimed d c)
unfolding fault_of
fault_is d c = refl

pub accepted : (d : Declared) (c : Content) → IsFit d c.reach → fault_of d c ≡ None → IsAcceptedWith d c
accepted d c fit e = claim_accepted d (claimed d c) fit (sym (fault_is d c) ∙ e)

pub broken : (d : Declared) (c : Content) (e : CheckError) → IsFit d c.reach → Tells (fault_of d c) e → IsBroken d c e
broken d c (errors.Fault f) fit is = claim_not_accepted d (claimed d c) (told f) fit (sym (fault_is d c) ∙ is)
broken d c errors.OutOfMemory fit is = tt

pub headline : (d : Declared) (c : Content) → IsFit d c.reach → fault_of d c ≡ None → IsHeadline (as_plan d)
headline d c fit e = claim_headline d (claimed d c) fit (sym (fault_is d c) ∙ e)

pub calm_throughout : (d : Declared) (c : Content) → IsFit d c.reach → fault_of d c ≡ None → IsCalmThroughout (as_plan d) (reach_for d c)
calm_throughout d c fit e = claim_calm_throughout d (claimed d c) fit (sym (fault_is d c) ∙ e)

pub stays : (d : Declared) (c : Content) → IsFit d c.reach → fault_of d c ≡ None → StayInWindows (as_plan d) (reach_for d c)
stays d c fit e = claim_stays d (claimed d c) fit (sym (fault_is d c) ∙ e)

pub few : (d : Declared) (c : Content) → IsFit d c.reach → fault_of d c ≡ None → AreFew (as_plan d)
few d c fit e = claim_few d (claimed d c) fit (sym (fault_is d c) ∙ e)

pub same_fault : (d : Declared) (c : Content) (k : Claimed) → k ≡ claimed d c → claim_fault d k ≡ fault_of d c
same_fault d c k same = ap (claim_fault d) same ∙ sym (fault_is d c)
