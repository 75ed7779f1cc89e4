-- The lines of the log.
use Rattle.std.specs.Prelude.{ℕ, ℤ, List, [], ◌∷◌, ◌++◌, codes, slice_index_or}
use Rattle.std.specs.Fmt.{signed_decimal}
use Rattle.cs_civil.specs.Text.{minute_text}
use Rattle.cs_plan.specs.Plan.{Declared, no_line}
use Rattle.cs_device.specs.declared.runner.Outcome.{Outcome}
use Rattle.cs_device.specs.declared.runner.Outcome.TheVariants.{Exited, Killed, NotStarted, Ended as EndedSomehow}
use Rattle.cs_history.specs.declared.run.Run.{Run}
use Rattle.cs_jobs.specs.Names.{run_name}
use Rattle.cs_jobs.specs.declared.lines.LogLine.{LogLine}
use Rattle.cs_jobs.specs.declared.lines.LogLine.TheVariants.{Started, Waiting, Skipped, Overrun, Ended, Outage, StampNotRead, StampNotWritten}

-- a run whose end has a number: `ended RUN status 3`
unfoldable pub numbered_end : Declared → Run → List ℕ → ℤ → List ℕ
numbered_end d run word number =
    codes "ended " ++ (run_name d run ++ (word ++ signed_decimal number))

-- `ended RUN status none`
unfoldable pub bare_end : Declared → Run → List ℕ
bare_end d run = codes "ended " ++ (run_name d run ++ codes " status none")

abbrev pub end_text : Declared → Run → Outcome → List ℕ
end_text d run (Exited status) = numbered_end d run (codes " status ") status
end_text d run (Killed signal) = numbered_end d run (codes " signal ") signal
end_text d run EndedSomehow = bare_end d run
end_text d run NotStarted = codes "not started " ++ run_name d run

-- `outage DATE TIME to DATE TIME`
unfoldable pub outage_text : ℕ → ℕ → List ℕ
outage_text from to = codes "outage " ++ (minute_text from ++ (codes " to " ++ minute_text to))

-- the identifier of an anacron job by its place; nothing if there is none
abbrev pub identifier_at : Declared → ℕ → List ℕ
identifier_at d place = (slice_index_or d.anacrontab.lines place no_line).identifier

abbrev pub told_text : Declared → LogLine → List ℕ
told_text d (Started run) = codes "started " ++ run_name d run
told_text d (Waiting run) = codes "waiting " ++ run_name d run
told_text d (Skipped run) = codes "skipped " ++ run_name d run
told_text d (Overrun run) = codes "overrun " ++ run_name d run
told_text d (Ended run outcome) = end_text d run outcome
told_text d (Outage from to) = outage_text from to
told_text d (StampNotRead place) = codes "stamp not read " ++ identifier_at d place
told_text d (StampNotWritten place) = codes "stamp not written " ++ identifier_at d place

unfoldable pub line_text : Declared → LogLine → List ℕ
line_text d line = told_text d line ++ 10 ∷ []
