-- How a call of the program ends: what it writes, and the status that it answers.
use Rattle.std.specs.Prelude.{◌≡◌, ◌⊎◌, ℕ, Bool, true, List, Option, codes}
use Rattle.std.specs.Io.KnownBytes.{Appends}
use Rattle.cs_files.specs.Response.{Ending}

-- an output: the bytes that it holds, where they are known, and whether a write has failed
pub record Sink : Type 0 where
  pub contents : Option (List ℕ)
  pub failed : Bool

abbrev pub sink : Option (List ℕ) → Bool → Sink
sink contents failed = record { contents = contents; failed = failed }

-- the text was written, after what was there
pub record Writes (text : List ℕ) (old new : Sink) : Type 0 where
  pub appended : Appends old.contents new.contents text
  pub fine : new.failed ≡ old.failed

-- the text was written if it could be
abbrev pub Tries : List ℕ → Sink → Sink → Type 0
Tries text old new = (new.failed ≡ true) ⊎ Writes text old new

-- an ending is carried out: standard error is written if it can be; the status is the ending's
-- where its text was written to standard output, else that of a failed device
abbrev pub Ends : Ending → Sink → Sink → Sink → Sink → ℕ → Type 0
Ends ending out-old out-new err-old err-new status =
    Tries ending.err err-old err-new
    × (((out-new.failed ≡ true) × (status ≡ 6))
    ⊎ (Writes ending.out out-old out-new × (status ≡ ending.status)))

-- memory ran out: nothing is written to standard output
abbrev pub RunsOut : Sink → Sink → Sink → Sink → ℕ → Type 0
RunsOut out-old out-new err-old err-new status = (status ≡ 5) × (out-new ≡ out-old)
    × Tries (codes "cronsafe: out of memory\n") err-old err-new
