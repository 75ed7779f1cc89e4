-- The run that gets a lock first, without a list of the choices.
use Rattle.std.specs.Prelude.{Bool, if◌then◌else◌, Option, Some, None, fold}
use Rattle.cs_core.specs.Choices.{is_before, is_none}
use Rattle.cs_history.specs.Plan.{Plan}
use Rattle.cs_history.specs.Step.{State, refusal}
use Rattle.cs_history.specs.declared.event.Event.TheVariants.{Got}
use Rattle.cs_history.specs.declared.run.Run.{Run}

-- the first of these two runs by job, then minute
abbrev pub earlier : Option Run → Run → Run
earlier None w = w
earlier (Some b) w = if is_before w b then w else b

-- whether the run may get the lock that it waits for
abbrev pub may_get : Plan → State → Run → Bool
may_get p s w = is_none (refusal p s (Got w.job w.at))

abbrev pub with_run : (Run → Bool) → Option Run → Run → Option Run
with_run t best w = if t w then Some (earlier best w) else best

-- the first run that may
abbrev pub first_to_get : Plan → State → Option Run
first_to_get p s = fold (with_run (may_get p s)) None s.waiting
