-- The events that may come next.
use Rattle.std.specs.Prelude.{◌+◌, Bool, true, false, ◌&&◌, ◌||◌, nat_lt, ◌==◌, List, [], ◌∷◌, ◌++◌, map, filter, fold, Option, Some, None}
use Rattle.cs_history.specs.Lists.{placed}
use Rattle.cs_history.specs.Plan.{Plan}
use Rattle.cs_history.specs.Step.{State, refusal}
use Rattle.cs_history.specs.Names.{jobs_left}
use Rattle.cs_history.specs.declared.run.Run.{Run}
use Rattle.cs_history.specs.declared.event.Event.{Event}
use Rattle.cs_history.specs.declared.event.Event.TheVariants.{Minute, Begin, Got, Catch, End, Down, Up}
use Rattle.cs_history.specs.declared.refusal.Refusal.{Refusal}

-- by job, then minute
abbrev pub is_before : Run → Run → Bool
is_before r q = nat_lt r.job q.job || ((r.job == q.job) && nat_lt r.at q.at)

abbrev pub by_name : List Run → List Run
by_name rs = fold (λ list r. placed is_before r list) [] rs

-- what may come at best: the next minute, the pending jobs, the waiting runs, the jobs left to the
-- pass in its order, the running runs, a going down, and a coming up now, which stands for all
-- later ones; runs by job, then minute
abbrev pub candidates : State → List Event
candidates s =
    Minute (s.now + 1)
    ∷ (map (λ j. Begin j) s.pending
    ++ (map (λ w. Got w.job w.at) (by_name s.waiting)
    ++ (map (λ j. Catch j) (jobs_left s.pass)
    ++ (map (λ r. End r) (by_name (map (λ r. r.run) s.running))
    ++ Down ∷ Up s.now ∷ []))))

abbrev pub is_none : Option Refusal → Bool
is_none None = true
is_none (Some f) = false

-- those of them that aren't refused
abbrev pub choices : Plan → State → List Event
choices p s = filter (λ e. is_none (refusal p s e)) (candidates s)

-- the choice that stands for an event: coming up now for every coming up
abbrev pub choice_for : State → Event → Event
choice_for s (Minute t) = Minute t
choice_for s (Begin j) = Begin j
choice_for s (Got j d) = Got j d
choice_for s (Catch j) = Catch j
choice_for s (End r) = End r
choice_for s Down = Down
choice_for s (Up t) = Up s.now
