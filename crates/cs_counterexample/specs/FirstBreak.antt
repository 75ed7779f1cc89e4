-- What a history breaks first, in words that need no reading from left to right.
use Rattle.std.specs.Prelude.{◌≡◌, ℕ, ◌<◌, false, true, List, ◌∷◌, ◌++◌, fold}
use Rattle.std.specs.List.{AllByRecursion}
use Rattle.cs_history.specs.Lists.{EachPair}
use Rattle.cs_history.specs.Plan.{Plan}
use Rattle.cs_history.specs.History.{History, ◌▸◌, now, running, Skips, answer, IsSafe, IsSafeNow}
use Rattle.cs_history.specs.declared.mode.Mode.TheVariants.{Skip}
use Rattle.cs_history.specs.declared.run.Run.{Run}
use Rattle.cs_history.specs.declared.run.Going.{Going}
use Rattle.cs_history.specs.declared.event.Event.{Event}
use Rattle.cs_history.specs.declared.event.Event.TheVariants.{Begin}
use Rattle.cs_counterexample.specs.Break.{clash, weight_of}
use Rattle.cs_counterexample.specs.declared.shown.Shown.{Shown}
use Rattle.cs_counterexample.specs.declared.shown.Shown.TheVariants.{Together, Load, Skipped}

-- two runs that may go on at once, of which the first started first
abbrev pub AreFine : Plan → Going → Going → Type 0
AreFine p r q = clash p r.run.job q.run.job ≡ false

-- of the runs in order of start, these are the first two that may not overlap, by the earlier one
pub record IsFirstPair (p : Plan) (rs : List Going) (r q : Run) : Type 0 where
  pub front : List Going
  pub one : Going
  pub between : List Going
  pub other : Going
  pub behind : List Going
  pub order : rs ≡ front ++ one ∷ (between ++ other ∷ behind)
  pub first : one.run ≡ r
  pub second : other.run ≡ q
  pub clash : clash p one.run.job other.run.job ≡ true
  -- those that started before may go on with each other and with all these
  pub earlier : EachPair (AreFine p) front
  pub apart : AllByRecursion
      (λ x. AllByRecursion (AreFine p x) (one ∷ (between ++ other ∷ behind))) front
  pub nearer : AllByRecursion (AreFine p one) between

-- the runs may go on at once, and this is their weight, more than the capacity
pub record IsOverload (p : Plan) (rs : List Going) (n : ℕ) : Type 0 where
  pub fine : EachPair (AreFine p) rs
  pub weight : n ≡ weight_of p rs
  pub more : p.capacity < n

-- the event begins job j, of mode skip, at minute t; it finds its lock held and is skipped; what
-- runs then breaks nothing
pub record IsSkip (p : Plan) (h : History) (e : Event) (j t : ℕ) : Type 0 where
  pub safe : IsSafeNow p (h ▸ e)
  pub begin : e ≡ Begin j
  pub due : t ≡ now h
  pub mode : p.mode j ≡ Skip
  pub skips : answer p (running p h) j ≡ Skips

-- the event breaks this after the history
abbrev pub Breaks : Plan → History → Event → Shown → Type 0
Breaks p h e (Together r q) = IsFirstPair p (running p (h ▸ e)) r q
Breaks p h e (Load n) = IsOverload p (running p (h ▸ e)) n
Breaks p h e (Skipped j t) = IsSkip p h e j t

-- the first event that breaks something breaks this: the history before it is safe
pub record IsFirstBreak (p : Plan) (h : History) (s : Shown) : Type 0 where
  pub before : History
  pub event : Event
  pub rest : List Event
  pub whole : h ≡ fold (λ h e. h ▸ e) (before ▸ event) rest
  pub safe : IsSafe p before
  pub breaks : Breaks p before event s
