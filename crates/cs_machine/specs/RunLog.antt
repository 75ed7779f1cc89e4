-- The lines of a daemon's log, with times.
use Rattle.std.specs.Prelude.{◌≡◌, ◌≢◌, ◌⊎◌, ℕ, Bool, true, false, ◌&&◌, ◌/◌, ◌%◌, nat_le, if◌then◌else◌, List, [], ◌∷◌, ◌++◌, codes, decimal, Option, Some, None}
use Rattle.cs_civil.specs.Calendar.{last_day}
use Rattle.cs_civil.specs.Text.{day_text, two_digits}
use Rattle.cs_place.specs.Shown.{shown_text}
use Rattle.cs_machine.specs.Setup.{peers_of}
use Rattle.cs_machine.specs.declared.hook_call.HookCall.{HookCall as TheCall}
use Rattle.cs_machine.specs.declared.setup.JobNote.{JobNote}
use Rattle.cs_machine.specs.declared.setup.Setup.{Setup}
use Rattle.cs_machine.specs.HookCall.{Keeps}

-- `2024-09-13T23:30:01Z`, of a moment in seconds since 1970-01-01 00:00 UTC
abbrev pub moment_text : ℕ → List ℕ
moment_text s = day_text (s / 86_400) ++ 84 ∷ two_digits (s / 3_600 % 24)
    ++ 58 ∷ two_digits (s / 60 % 60) ++ 58 ∷ two_digits (s % 60) ++ 90 ∷ []

-- nothing where there is no time, and after the year 9999
abbrev pub time_text : Option ℕ → List ℕ
time_text None = []
time_text (Some s) = if nat_le (s / 86_400) last_day then moment_text s ++ codes " " else []

abbrev pub span_text : Option ℕ → List ℕ
span_text None = []
span_text (Some s) = codes " after " ++ decimal s ++ codes " s"

-- a line, with control characters of its words as `\xNN`
abbrev pub line_text : Option ℕ → List ℕ → Option ℕ → List ℕ
line_text at words span =
    time_text at ++ shown_text words ++ span_text span ++ codes "\n"

-- the jobs whose runs a late run may meet, a line of its own
abbrev pub peers_text : Option ℕ → List ℕ → List ℕ → List ℕ
peers_text at run [] = []
peers_text at run (p ∷ ps) = line_text at (run ++ codes " may meet " ++ p ∷ ps) None

-- after the line of a late run what it may meet, after any other nothing
abbrev pub Follows : Option ℕ → List ℕ → List JobNote → List ℕ → Type 0
Follows at words jobs text =
    ((run : List ℕ) × (words ≡ codes "overrun " ++ run)
    × (text ≡ peers_text at run (peers_of run jobs)))
    ⊎ (((run : List ℕ) → words ≢ codes "overrun " ++ run) × (text ≡ []))

-- without hooks no call is added; where memory ran out, the line's may be missing
abbrev pub IsCalled : Setup → List ℕ → Option ℕ → Bool → List TheCall → List TheCall → Type 0
IsCalled setup words span kept before after =
    ((setup.has_hooks ≡ true) × Keeps words setup.jobs.now span before after)
    ⊎ (((setup.has_hooks && kept) ≡ false) × (after ≡ before))
