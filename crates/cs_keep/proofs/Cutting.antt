-- A journal that begins anew.
use Rattle.std.proofs.Common.{◌≡◌, ℕ, ◌-◌, ◌≤◌, Bool, if◌then◌else◌, true, false, List, [], ◌++◌, length, take, replicate, set, Option, Some, None, sym, ap, ◌∙◌, subst, arith}
use Rattle.std.specs.Prelude.{◌/◌}
use Rattle.std.proofs.lemmas.List.{length-append, length-replicate, length-set, length-take-le}
use Rattle.std.proofs.Math.Seq.{take-append_seam}
use Rattle.cs_plan.specs.Plan.{Declared, IsWhole, as_plan}
use Rattle.cs_history.specs.Plan.{Plan, is_cron, IsReached}
use Rattle.cs_history.specs.History.{History, From, ◌▸◌, Start, stamps}
use Rattle.cs_history.specs.Journal.{told, IsJournal}
use Rattle.cs_history.specs.Step.{State}
use Rattle.cs_history.specs.declared.event.Event.{Event}
use Rattle.cs_history.specs.declared.event.Event.TheVariants.{Minute, Begin, Got, Catch, End, Down, Up}
use Rattle.cs_history.specs.declared.reply.Reply.{Reply}
use Rattle.cs_history.proofs.Steps.{reached}
use Rattle.cs_core.proofs.Order.{few_anacron}
use Rattle.cs_keep.specs.Keeping.{IsIdle, start_from}

one_each : (p : Plan) (h : History) → length (stamps p h) ≡ p.jobs - p.crons
one_each p (From s) =
    let n = p.jobs - p.crons in
    let none : List (Option ℕ) = replicate n None in
    let long = length-append s.stamps none in
    let rest : length none ≡ n = length-replicate n None in
    length-take-le n (s.stamps ++ none) (omega (arith, long, rest))
one_each p (h ▸ Minute t) = one_each p h
one_each p (h ▸ Begin j) = one_each p h
one_each p (h ▸ Got j d) = one_each p h
one_each p (h ▸ Catch j) = one_each p h
one_each p (h ▸ End r) = go (is_cron p r.job) (one_each p h)
  where
    go : (b : Bool) → length (stamps p h) ≡ p.jobs - p.crons → length (if b then stamps p h else set (stamps p h) (r.job - p.crons) (Some (r.at / 1440))) ≡ p.jobs - p.crons
    go true e = e
    go false e = length-set (stamps p h) (r.job - p.crons) (Some (r.at / 1440)) ∙ e
one_each p (h ▸ Down) = one_each p h
one_each p (h ▸ Up t) = one_each p h

pub few_stamps : (d : Declared) (base : Start) (es : List (Event × Reply)) (s : State) → IsWhole d → IsJournal (as_plan d) base es s → length s.stamps ≤ 64
few_stamps d base es s whole j =
    let e = ap (λ (x : State). length x.stamps) j.leaves ∙ one_each (as_plan d) (told base es) in
    omega (arith, e, few_anacron d whole)

-- where nothing is pending, waits or runs and no pass is open, the present state is that of a start
pub cut_journal : (p : Plan) (base : Start) (es : List (Event × Reply)) (s : State) → IsJournal p base es s → IsIdle s → IsJournal p (start_from s) [] s
cut_journal p base es s j idle =
    let n = p.jobs - p.crons in
    let long : length s.stamps ≡ n = ap (λ (x : State). length x.stamps) j.leaves ∙ one_each p (told base es) in
    let none : List (Option ℕ) = replicate n None in
    let same : take n (s.stamps ++ none) ≡ s.stamps = ap (λ k. take k (s.stamps ++ none)) (sym long) ∙ take-append_seam s.stamps none in
    record {
      legal = subst IsReached (ap (λ (x : State). x.now) (sym j.leaves)) (reached p (told base es) j.legal);
      replies = tt;
      leaves = λ i. record { now = s.now; up = s.up; pending = idle.pending i; waiting = idle.waiting i; running = idle.running i; stamps = sym same i; pass = idle.pass i };
    }
