-- What a call of a core does.
use Rattle.std.specs.Prelude.{◌≡◌, Bool, true, false, Result, Ok, Err}
use Rattle.cs_history.specs.Plan.{Plan}
use Rattle.cs_history.specs.History.{Answer, Starts, Waits, Skips, answer}
use Rattle.cs_history.specs.Step.{State, after, reply}
use Rattle.cs_history.specs.declared.event.Event.{Event}
use Rattle.cs_history.specs.declared.event.Event.TheVariants.{Minute, Begin, Got, Catch, End, Down, Up}
use Rattle.cs_history.specs.declared.reply.Reply.{Reply}
use Rattle.cs_history.specs.declared.refusal.Refusal.{Refusal}
use Rattle.cs_history.specs.declared.refusal.Refusal.TheVariants.{OutOfMemory}

-- whether the Begin of a job adds a run to those that run or wait
abbrev pub adds_run : Answer → Bool
adds_run Starts = true
adds_run Waits = true
adds_run Skips = false

-- an event that adds a run to a list; all else takes no memory
abbrev pub needs_memory : Plan → State → Event → Bool
needs_memory p s (Minute t) = false
needs_memory p s (Begin j) = adds_run (answer p s.running j)
needs_memory p s (Got j d) = true
needs_memory p s (Catch j) = true
needs_memory p s (End r) = false
needs_memory p s Down = false
needs_memory p s (Up t) = false

-- a call that takes an event has all of its effect, or none if memory runs out
abbrev pub Takes : Plan → State → Event → Result Reply Refusal → State → Type 0
Takes p s e (Ok r) n = (r ≡ reply p s e) × (n ≡ after p s e)
Takes p s e (Err f) n = (f ≡ OutOfMemory) × (n ≡ s)

-- the same, if out of memory is the only error
abbrev pub TakesRun : {E : Type 0} → Plan → State → Event → Result Reply E → State → Type 0
TakesRun p s e (Ok r) n = (r ≡ reply p s e) × (n ≡ after p s e)
TakesRun p s e (Err f) n = n ≡ s

abbrev pub is_start : Answer → Bool
is_start Starts = true
is_start Waits = false
is_start Skips = false
