-- What comes of showing what the daemon of a folder of stamps does.
use Rattle.std.specs.Prelude.{◌≡◌, ◌⊎◌, ◌++◌, ℕ, List, [], codes}
use Rattle.cs_files.specs.Response.{Ending, complaint}
use Rattle.cs_ask.specs.Asking.{in_front_of, refused}
use Rattle.cs_files.specs.Ending.{Ends, RunsOut, Sink}
use Rattle.cs_ask.specs.declared.asking.Refusal.{Refusal}
use Rattle.cs_ask.specs.declared.asking.Refusal.TheVariants.{NoDaemon}
use Rattle.cs_ask.specs.declared.telling.Health.{Health}
use Rattle.cs_ask.specs.declared.telling.Health.TheVariants.{Fine, Faulty, Gone, Old}

-- a state is too old, before the folder's path
abbrev pub in_front_of_old : List ℕ
in_front_of_old = codes "no state of the last two minutes in "

-- the answer with a state: its text, and by its health a status and a complaint
abbrev pub told_as : Health → List ℕ → List ℕ → Ending
told_as Fine text folder = record { status = 0; out = text; err = [] }
told_as Faulty text folder = record { status = 1; out = text; err = [] }
told_as Old text folder =
    record { status = 2; out = text; err = complaint (in_front_of_old ++ folder) }
told_as Gone text folder =
    record { status = 2; out = text; err = complaint (in_front_of NoDaemon ++ folder) }

-- a state is shown, or why there is none
abbrev pub IsAnswer : List ℕ → Ending → Type 0
IsAnswer folder ending = ((refusal : Refusal) × (ending ≡ refused refusal folder))
    ⊎ ((health : Health) × (text : List ℕ) × (ending ≡ told_as health text folder))

-- that is written, or memory ran out
abbrev pub Tells : List ℕ → Sink → Sink → Sink → Sink → ℕ → Type 0
Tells folder out-old out-new err-old err-new status =
    ((ending : Ending) × IsAnswer folder ending
    × Ends ending out-old out-new err-old err-new status)
    ⊎ RunsOut out-old out-new err-old err-new status
