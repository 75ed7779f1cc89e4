use Rattle.std.specs.Prelude.{ℕ, Bool, not, ◌&&◌, List, [], ◌∷◌, Option, Some, None, if◌then◌else◌, nat_lt}
use Rattle.std.specs.Option.{option_or}
use Rattle.cs_history.specs.Lists.{total}
use Rattle.cs_history.specs.Plan.{Plan, rivals, both_share, is_skip}
use Rattle.cs_history.specs.History.{History, From, ◌▸◌, now, running, Answer, Starts, Waits, Skips, answer}
use Rattle.cs_history.specs.declared.run.Going.{Going}
use Rattle.cs_history.specs.declared.event.Event.{Event}
use Rattle.cs_history.specs.declared.event.Event.TheVariants.{Minute, Begin, Got, Catch, End, Down, Up}
use Rattle.cs_counterexample.specs.declared.shown.Shown.{Shown}
use Rattle.cs_counterexample.specs.declared.shown.Shown.TheVariants.{Together, Load, Skipped}

-- runs of these jobs may not go on at once, that of i having started first: both are of one
-- exclusive group, and not both share its lock (flock(1), -s)
abbrev pub clash : Plan → ℕ → ℕ → Bool
clash p i j = rivals p j i && not (both_share p j i)

-- the run, and the first of these with which it may not go on
abbrev pub clash_of : Plan → Going → List Going → Option Shown
clash_of p r [] = None
clash_of p r (q ∷ qs) =
    if clash p r.run.job q.run.job then Some (Together r.run q.run) else clash_of p r qs

-- of the runs in order of start, the first two that may not overlap, by the earlier one
abbrev pub first_clash : Plan → List Going → Option Shown
first_clash p [] = None
first_clash p (r ∷ rs) = option_or (clash_of p r rs) (first_clash p rs)

abbrev pub weight_of : Plan → List Going → ℕ
weight_of p rs = total (λ r. p.weight r.run.job) rs

abbrev pub overload : Plan → ℕ → Option Shown
overload p n = if nat_lt p.capacity n then Some (Load n) else None

abbrev pub overload_of : Plan → List Going → Option Shown
overload_of p rs = overload p (weight_of p rs)

-- what these runs break by going on at once: two of them, before the weight of all
abbrev pub break_among : Plan → List Going → Option Shown
break_among p rs = option_or (first_clash p rs) (overload_of p rs)

-- the run, if it is of mode skip; one of mode try may be skipped
abbrev pub skip_shown : Plan → ℕ → ℕ → Option Shown
skip_shown p j t = if is_skip (p.mode j) then Some (Skipped j t) else None

-- a run of mode skip that is skipped, since its lock is held (flock(1), -n)
abbrev pub skip_of : Plan → Answer → ℕ → ℕ → Option Shown
skip_of p Starts j t = None
skip_of p Waits j t = None
skip_of p Skips j t = skip_shown p j t

-- the run of mode skip that the event skips, where these run at minute t
abbrev pub skip_by : Plan → List Going → ℕ → Event → Option Shown
skip_by p rs t (Minute u) = None
skip_by p rs t (Begin j) = skip_of p (answer p rs j) j t
skip_by p rs t (Got j d) = None
skip_by p rs t (Catch j) = None
skip_by p rs t (End r) = None
skip_by p rs t Down = None
skip_by p rs t (Up u) = None

-- what the event breaks: by what runs then, or by a skip
abbrev pub break_by : Plan → History → Event → Option Shown
break_by p h e = option_or (break_among p (running p (h ▸ e))) (skip_by p (running p h) (now h) e)

-- what the first event that breaks something breaks
abbrev pub first_break : Plan → History → Option Shown
first_break p (From s) = None
first_break p (h ▸ e) = option_or (first_break p h) (break_by p h e)
