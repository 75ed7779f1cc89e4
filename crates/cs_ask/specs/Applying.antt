-- What comes of having a daemon go on with edited files.
use Rattle.std.specs.Prelude.{◌≡◌, ◌≢◌, ◌⊎◌, ◌++◌, ℕ, List, [], codes}
use Rattle.cs_ask.specs.Reloading.{Reloads}
use Rattle.cs_files.specs.Response.{Ending, complaint}
use Rattle.cs_files.specs.Ending.{Ends, RunsOut, Sink}

abbrev pub faulty : List ℕ → List ℕ → Ending
faulty why path = record { status = 6; out = []; err = complaint (why ++ path) }

-- the certificate can't be put at a path, which is reported, or memory ran out
abbrev pub IsUnwritten : List ℕ → Sink → Sink → Sink → Sink → ℕ → Type 0
IsUnwritten path out-old out-new err-old err-new status =
    Ends (faulty (codes "can't write ") path) out-old out-new err-old err-new status
    ⊎ RunsOut out-old out-new err-old err-new status

-- The call ends as `make` does, unless that has status 0. Then its certificate can't be written, or
-- the daemon is asked to reload.
abbrev pub Applies : List ℕ → List ℕ → Ending → Sink → Sink → Sink → Sink → ℕ → Type 0
Applies certificate stamps made out-old out-new err-old err-new status =
    ((made.status ≢ 0) × Ends made out-old out-new err-old err-new status)
    ⊎ ((made.status ≡ 0)
    × (IsUnwritten certificate out-old out-new err-old err-new status
    ⊎ Reloads stamps out-old out-new err-old err-new status))
