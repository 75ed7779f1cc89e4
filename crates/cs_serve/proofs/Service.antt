-- What an order that was served comes to.
use Rattle.std.proofs.Common.{◌≡◌, ◌⊎◌, ℕ, ◌+◌, ◌≤◌, List, [], ◌∷◌, ◌++◌, length, sum, arith, codes, inl, inr, Option, None, Some, refl, sym, ap, ◌∙◌, subst, fold}
use Rattle.std.specs.Prelude.{IfSome, slice_index_or}
use Rattle.std.proofs.lemmas.List.Sums.{fold-append, sum_by-cons}
use Rattle.cs_args.specs.Asked.{AskedRun}
use Rattle.cs_check.specs.Checked.{IsHeadline, plan_in}
use Rattle.cs_check.specs.declared.checked.Checked.{Checked}
use Rattle.cs_owner.specs.declared.owners.Owner.{Owner}
use Rattle.cs_ruling.specs.Answer.{IsOrder}
use Rattle.cs_ruling.specs.declared.check.Claimed.{Claimed}
use Rattle.cs_ruling.specs.declared.answer.Order.{Order}
use Rattle.cs_plan.specs.Plan.{Declared, as_plan}
use Rattle.cs_daemon.specs.declared.end.Cause.{Cause}
use Rattle.cs_daemon.specs.declared.end.Cause.TheVariants.{ClockBack, ClockFailed, HistoryFull, LastMinute, NoMemory, Stopped}
use Rattle.cs_daemon.specs.declared.end.DaemonEnd.{DaemonEnd}
use Rattle.cs_history.specs.History.{History, From, ◌▸◌, IsSafe, IsSafeNow}
use Rattle.cs_history.specs.Journal.{told}
use Rattle.cs_history.specs.Plan.{Plan}
use Rattle.cs_history.specs.declared.event.Event.{Event}
use Rattle.cs_history.specs.declared.reply.Reply.{Reply}
use Rattle.cs_keep.specs.Closed.{checked_in, keeping_in}
use Rattle.cs_keep.specs.Keeping.{IsKept, Keeping, plan_of}
use Rattle.cs_keep.specs.declared.kept.Kept.{Kept}
use Rattle.cs_serve.specs.Anew.{IsOrderOf}
use Rattle.cs_files.specs.Ending.{Sink, Tries}
use Rattle.cs_serve.specs.Serve.{HasRun, IsServed, Tellings, cause_status, farewell, no_tellings}
use Rattle.cs_serve.specs.Served.{AreApart, AreCounted, HasNoClock, IsDone, IsFull, IsOrdered, events_in}

-- ---- the events

-- the total is that of the keep
in_keep : (keep : Option Kept) (n : ℕ) → (keep ≡ None → n ≡ 0) → IfSome keep (λ kept. (keeping_in kept).total ≡ n) → n ≡ events_in keep
in_keep None n none some = none refl
in_keep (Some kept) n none some = sym some

counted_by : (checked : Checked) (end : DaemonEnd) (xs : List ℕ) → end.shares.items ≡ xs → length xs ≡ (plan_in checked).capacity + 1 → sum xs ≡ events_in end.keep → AreCounted checked end
counted_by checked end [] is many whole = absurd (omega (arith, many))
counted_by checked end (clock ∷ workers) is many whole =
    record { clock = clock; workers = workers; shares = is; each = omega (arith, many); whole = sym (sum_by-cons (λ n. n) clock workers) ∙ whole }

counted : (checked : Checked) (owners : List Owner) (before after : Tellings) (end : DaemonEnd) → HasRun checked owners before after end → AreCounted checked end
counted checked owners before after end run =
    counted_by checked end end.shares.items refl run.threads (run.shares ∙ in_keep end.keep end.total run.none run.total)

first_share : (xs : List ℕ) → slice_index_or xs 0 0 ≤ sum xs
first_share [] = omega arith
first_share (x ∷ xs) = let e = sum_by-cons (λ n. n) x xs in omega (arith, e)

-- ---- the journal

module _ (p : Plan) where
  safe_before : (h : History) (es : List (Event × Reply)) → IsSafe p (fold (λ h e. h ▸ e.0) h es) → IsSafe p h
  safe_before h [] safe = safe
  safe_before h (e ∷ es) safe = (safe_before (h ▸ e.0) es safe).0

  safe_now : (h : History) → IsSafe p h → IsSafeNow p h
  safe_now (From s) safe = safe
  safe_now (h ▸ e) safe = safe.1

apart_at : (k : Keeping) (front rest : List (Event × Reply)) → k.journal ≡ front ++ rest → IsSafe (plan_of k) (told k.base k.journal) → AreApart k front
apart_at k front rest whole safe =
    let split : told k.base k.journal ≡ fold (λ h e. h ▸ e.0) (told k.base front) rest =
    ap (told k.base) whole ∙ fold-append (λ (h : History) (e : Event × Reply). h ▸ e.0) (From k.base) front rest in
    let now = safe_now (plan_of k) (told k.base front) (safe_before (plan_of k) (told k.base front) rest (subst (IsSafe (plan_of k)) split safe)) in
    record { apart = now.apart; light = now.load }

ordered_by : (checked : Checked) (k : Keeping) → k.core.plan ≡ plan_in checked → IsHeadline (plan_of k) → IsKept k → IsOrdered checked k
ordered_by checked k plan headline kept = record {
  plan = plan;
  legal = kept.legal;
  safe = λ in_time. headline (told k.base k.journal) kept.legal in_time;
  apart = λ in_time front rest whole. apart_at k front rest whole (headline (told k.base k.journal) kept.legal in_time);
}

-- the keep of what was checked has its plan
kept_by : (checked : Checked) (keep : Option Kept) → IsHeadline (as_plan (plan_in checked)) → IfSome keep (λ kept. checked_in kept ≡ checked) → IfSome keep (λ kept. IsKept (keeping_in kept))
    → IfSome keep (λ kept. IsOrdered checked (keeping_in kept))
kept_by checked None headline same kept = tt
kept_by checked (Some kept) headline same is =
    let plan : (keeping_in kept).core.plan ≡ plan_in checked = sym kept.plan ∙ ap plan_in same in
    ordered_by checked (keeping_in kept) plan (subst (λ (d : Declared). IsHeadline (as_plan d)) (sym plan) headline) is

pub served_journal : (a : AskedRun) (x : Claimed) (order : Order) (old new : Sink) (status : ℕ)
    → IsOrder a x order → (s : IsServed order old new status) → IfSome s.1.end.keep (λ kept. IsOrdered order.checked (keeping_in kept))
served_journal a x order old new status ordered s =
    kept_by order.checked s.1.end.keep ordered.accepted.safe.headline s.1.run.same s.1.run.kept

-- so it is of what follows an order
pub next_journal : (a : AskedRun) (order : Order) (old new : Sink) (status : ℕ) → IsOrderOf a order → (s : IsServed order old new status) → IfSome s.1.end.keep (λ kept. IsOrdered order.checked (keeping_in kept))
next_journal a order old new status ordered s = kept_by order.checked s.1.end.keep ordered.headline s.1.run.same s.1.run.kept

-- ---- by the status

module _ (order : Order) (old new : Sink) (status : ℕ) (s : IsServed order old new status) where
  pub served_events : AreCounted order.checked s.1.end
  served_events = counted order.checked order.owners no_tellings s.0 s.1.end s.1.run

  pub served_faults : s.1.end.stamp_faults ≤ s.0.stamp_failures
  served_faults = let f = s.1.run.faults in omega (arith, f)

  -- the status that is known is that of the cause
  of_cause : (cause : Cause) (n : ℕ) → s.1.end.cause ≡ cause → status ≡ n → cause_status cause ≡ n
  of_cause cause n is known = ap cause_status (sym is) ∙ sym s.1.by_cause ∙ known

  telling : (cause : Cause) → s.1.end.cause ≡ cause → Tries (farewell cause) old new
  telling cause is = subst (λ (c : Cause). Tries (farewell c) old new) is s.1.told

  -- the events of the clock's thread are some of those of the keep
  some_events : s.1.end.cause ≡ Stopped → s.0.risen ≤ s.1.end.total + 1
  some_events is =
      let rises = s.1.run.rises is in
      let first = first_share s.1.end.shares.items in
      let all = s.1.run.shares in
      omega (arith, rises, first, all)

  pub served_done : status ≡ 0 → IsDone s.0 s.1.end old new
  served_done zero = go s.1.end.cause refl
    where
      go : (cause : Cause) → s.1.end.cause ≡ cause → IsDone s.0 s.1.end old new
      go Stopped is =
          let few = some_events is in
          let whole = in_keep s.1.end.keep s.1.end.total s.1.run.none s.1.run.total in
          inl (s.1.run.stopped is, omega (arith, few, whole), λ two none. let no = s.1.run.none none in omega (arith, few, no, two))
      go LastMinute is = inr (s.1.run.came is, s.1.run.last_keep is, telling LastMinute is)
      go ClockBack is = let e = of_cause ClockBack 0 is zero in absurd (omega (arith, e))
      go ClockFailed is = let e = of_cause ClockFailed 0 is zero in absurd (omega (arith, e))
      go HistoryFull is = let e = of_cause HistoryFull 0 is zero in absurd (omega (arith, e))
      go NoMemory is = let e = of_cause NoMemory 0 is zero in absurd (omega (arith, e))

  pub served_full : status ≡ 1 → IsFull s.1.end old new
  served_full one = go s.1.end.cause refl
    where
      go : (cause : Cause) → s.1.end.cause ≡ cause → IsFull s.1.end old new
      go Stopped is = let e = of_cause Stopped 1 is one in absurd (omega (arith, e))
      go LastMinute is = let e = of_cause LastMinute 1 is one in absurd (omega (arith, e))
      go ClockBack is = let e = of_cause ClockBack 1 is one in absurd (omega (arith, e))
      go ClockFailed is = let e = of_cause ClockFailed 1 is one in absurd (omega (arith, e))
      go HistoryFull is = (s.1.run.full_keep is, telling HistoryFull is)
      go NoMemory is = let e = of_cause NoMemory 1 is one in absurd (omega (arith, e))

  pub served_clock : status ≡ 6 → HasNoClock s.0 old new
  served_clock six = go s.1.end.cause refl
    where
      go : (cause : Cause) → s.1.end.cause ≡ cause → HasNoClock s.0 old new
      go Stopped is = let e = of_cause Stopped 6 is six in absurd (omega (arith, e))
      go LastMinute is = let e = of_cause LastMinute 6 is six in absurd (omega (arith, e))
      go ClockBack is = inr (s.1.run.back is, telling ClockBack is)
      go ClockFailed is = inl (s.1.run.failed is, telling ClockFailed is)
      go HistoryFull is = let e = of_cause HistoryFull 6 is six in absurd (omega (arith, e))
      go NoMemory is = let e = of_cause NoMemory 6 is six in absurd (omega (arith, e))

  pub served_memory : (status ≡ 0) ⊎ ((status ≡ 1) ⊎ ((status ≡ 6) ⊎ ((status ≡ 5) × Tries (codes "cronsafe: out of memory\n") old new)))
  served_memory = go s.1.end.cause refl
    where
      go : (cause : Cause) → s.1.end.cause ≡ cause → (status ≡ 0) ⊎ ((status ≡ 1) ⊎ ((status ≡ 6) ⊎ ((status ≡ 5) × Tries (codes "cronsafe: out of memory\n") old new)))
      go Stopped is = inl (s.1.by_cause ∙ ap cause_status is)
      go LastMinute is = inl (s.1.by_cause ∙ ap cause_status is)
      go ClockBack is = inr (inr (inl (s.1.by_cause ∙ ap cause_status is)))
      go ClockFailed is = inr (inr (inl (s.1.by_cause ∙ ap cause_status is)))
      go HistoryFull is = inr (inl (s.1.by_cause ∙ ap cause_status is))
      go NoMemory is = inr (inr (inr (s.1.by_cause ∙ ap cause_status is, telling NoMemory is)))
