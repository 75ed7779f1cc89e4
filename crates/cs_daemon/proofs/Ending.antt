-- What becomes of the end of a run.
use Rattle.std.proofs.Common.{◌≡◌, ◌≤◌, [], ◌∷◌, length, length-append, subst, arith, Bool, true, false, if◌then◌else◌, Option, None, Some, Result, Ok, Err, refl, sym, ap, true≢false}
use Rattle.std.specs.Prelude.{IfErr, OnErr, OnOk}
use Rattle.std.specs.List.{list_any}
use Rattle.cs_history.specs.History.{same_run}
use Rattle.cs_history.specs.Step.{unless}
use Rattle.cs_history.specs.declared.run.Run.{Run}
use Rattle.cs_history.specs.declared.event.Event.TheVariants.{End}
use Rattle.cs_history.specs.declared.reply.Reply.{Reply}
use Rattle.cs_history.specs.declared.refusal.Refusal.{Refusal}
use Rattle.cs_history.specs.declared.refusal.Refusal.TheVariants.{NotRunning}
use Rattle.cs_keep.specs.Keeping.{Keeping, IsRefused, is_full, or_full, refusal_in, reply_in, with_event}
use Rattle.cs_daemon.specs.Starts.{with_end}

abbrev is_some : {A : Type 0} → Option A → Bool
is_some None = false
is_some (Some x) = true

taken : (k new : Keeping) (run : Run) → refusal_in k (End run) ≡ None → new ≡ with_event k (End run) → new ≡ with_end k run
taken k new run legal made = go (list_any (λ x. same_run run x.run) k.core.state.running) (is_full k (End run)) legal
  where
    go : (b full : Bool) → or_full (unless b NotRunning None) full ≡ None → new ≡ (if b then with_event k (End run) else k)
    go true full h = made
    go false full h = absurd (true≢false (ap is_some h))

refused : (k new : Keeping) (run : Run) (f : Refusal) → IsRefused k (End run) f → new ≡ k → new ≡ with_end k run
refused k new run f why same = go (list_any (λ x. same_run run x.run) k.core.state.running) (why.end refl)
  where
    go : (b : Bool) → unless b NotRunning None ≡ Some f → new ≡ (if b then with_event k (End run) else k)
    go true h = absurd (true≢false (sym (ap is_some h)))
    go false h = same

pub ends : (A : Type 0) (k new : Keeping) (run : Run) (r : Result Reply Refusal) → OnOk r (refusal_in k (End run) ≡ None) → OnOk r (new ≡ with_event k (End run)) → IfErr r (IsRefused k (End run)) → OnErr r ((new ≡ k) × A) → new ≡ with_end k run
ends A k new run (Ok reply) legal made why same = taken k new run legal made
ends A k new run (Err f) legal made why same = refused k new run f why same.0

-- an end leaves the keep's plan and minute, and takes nothing from its journal
pub record IsEnded (k new : Keeping) : Type 0 where
  pub plan : new.core.plan ≡ k.core.plan
  pub now : new.core.state.now ≡ k.core.state.now
  pub longer : length k.journal ≤ length new.journal

pub ended : (k new : Keeping) (run : Run) → new ≡ with_end k run → IsEnded k new
ended k new run same = subst (IsEnded k) (sym same) (go (list_any (λ x. same_run run x.run) k.core.state.running))
  where
    go : (b : Bool) → IsEnded k (if b then with_event k (End run) else k)
    go true = record { plan = refl; now = refl; longer = let l = length-append k.journal ((End run, reply_in k (End run)) ∷ []) in omega (arith, l) }
    go false = record { plan = refl; now = refl; longer = omega arith }
