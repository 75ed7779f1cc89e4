-- Orders that come one after another.
use Rattle.std.proofs.Common.{◌≡◌, ◌∙◌, ℕ, List, ap, inl, inr, refl, subst}
use Rattle.cs_device.specs.Telling.{Telling, nothing_told}
use Rattle.cs_args.specs.Asked.{asked_run, AskedRun}
use Rattle.cs_ruling.specs.declared.answer.Order.{Order}
use Rattle.cs_daemon.specs.declared.end.Cause.{Cause}
use Rattle.cs_daemon.specs.declared.end.Cause.TheVariants.{Stopped}
use Rattle.cs_serve.specs.Anew.{IsOrderOf}
use Rattle.cs_files.specs.Ending.{Sink, Tries}
use Rattle.cs_serve.specs.Serve.{ComesBehind, IsFollowed, IsNextOf, IsRun, IsServedBehind, IsServedBy, IsUnserved, Refuses, Serves, ServesOne, Tellings, cause_status, taken_away}
use Rattle.cs_serve.specs.declared.obstacle.Obstacle.{Obstacle}

abbrev pub tellings : Telling → ℕ → Tellings
tellings t failures = record { last = t.last; top = t.top; risen = t.risen; clock_failures = t.failures; stamp_failures = failures }

pub behind : (order : Order) (old between new : Sink) (t : Telling) (failures : ℕ) (after : Tellings) (status : ℕ)
    → Tries order.warnings old between → t ≡ nothing_told → failures ≡ 0 → IsServedBy order.checked order.owners (tellings t failures) after between new status → IsServedBehind order old new status
behind order old between new t failures after status warned fresh none served =
    let by_clock : IsServedBy order.checked order.owners (tellings nothing_told failures) after between new status = subst (λ (t : Telling). IsServedBy order.checked order.owners (tellings t failures) after between new status) fresh served in
    (between, warned, (after, subst (λ (n : ℕ). IsServedBy order.checked order.owners (tellings nothing_told n) after between new status) none by_clock))

pub lost : (order : Order) (old stopped new : Sink) (cause : Cause) (status : ℕ)
    → IsServedBehind order old stopped status → status ≡ cause_status cause → cause ≡ Stopped → Tries taken_away stopped new → IsRun order old new 6
lost order old stopped new cause status served by is told =
    inr (refl, (stopped, subst (λ (n : ℕ). IsServedBehind order old stopped n) (by ∙ ap cause_status is) served, told))

-- what is served when its daemon stops is followed by what its words order
pub followed : (order : Order) (old new : Sink) (cause : Cause) (status : ℕ) (a : AskedRun) (next : Order)
    → IsServedBehind order old new status → status ≡ cause_status cause → a ≡ asked_run order.words → IsNextOf cause a next → IsFollowed order old new next
followed order old new cause status a next served by is (stopped, ordered) =
    (subst (λ (n : ℕ). IsServedBehind order old new n) (by ∙ ap cause_status stopped) served, subst (λ (b : AskedRun). IsOrderOf b next) is ordered)

pub unserved : (obstacle : Obstacle) (order : Order) (out-old out-new err-old err-new : Sink) (status : ℕ) → Refuses obstacle order out-old out-new err-old err-new status
    → IsUnserved order out-old out-new err-old err-new status
unserved obstacle order out-old out-new err-old err-new status (inl told) = inl (obstacle, told)
unserved obstacle order out-old out-new err-old err-new status (inr ran) = inr ran

pub refused : (obstacle : Obstacle) (order : Order) (out-old out-new err-old err-new : Sink) (status : ℕ) → Refuses obstacle order out-old out-new err-old err-new status
    → ServesOne order out-old out-new err-old err-new status
refused obstacle order out-old out-new err-old err-new status told = inl (unserved obstacle order out-old out-new err-old err-new status told)

-- an order after others
pub last_of : (first : Order) (out-old out-new err-old err-new : Sink) (status : ℕ) (earlier : List Order) (order : Order) (out err : Sink)
    → ComesBehind first out-old err-old earlier order out err → ServesOne order out out-new err err-new status → Serves first out-old out-new err-old err-new status
last_of first out-old out-new err-old err-new status earlier order out err turns one =
    record { earlier = earlier; order = order; out = out; err = err; turns = turns; comes = one }
