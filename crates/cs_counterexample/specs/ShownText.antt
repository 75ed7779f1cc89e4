use Rattle.std.specs.Prelude.{ℕ, List, ◌++◌, codes, nat_lt, if◌then◌else◌}
use Rattle.std.specs.Fmt.{decimal}
use Rattle.cs_civil.specs.Text.{minute_text}
use Rattle.cs_plan.specs.JobNames.{due_name, identifier_of}
use Rattle.cs_plan.specs.Plan.{Declared, crons}
use Rattle.cs_history.specs.History.{run_of}
use Rattle.cs_history.specs.declared.run.Run.{Run}
use Rattle.cs_counterexample.specs.declared.shown.Shown.{Shown}
use Rattle.cs_counterexample.specs.declared.shown.Shown.TheVariants.{Together, Load, Skipped}

-- `job ID at `
unfoldable pub at_name : Declared → ℕ → List ℕ
at_name d j = codes "job " ++ (identifier_of d j ++ codes " at ")

-- `line N due ` of a cron job, `job ID at ` of an anacron job
abbrev pub run_name : Declared → ℕ → List ℕ
run_name d j = if nat_lt j (crons d) then due_name d j else at_name d j

unfoldable pub run_text : Declared → Run → List ℕ
run_text d r = run_name d r.job ++ minute_text r.at

unfoldable pub both_text : Declared → Run → Run → List ℕ
both_text d r q = run_text d r ++ (codes " and " ++ run_text d q)

unfoldable pub together_text : Declared → Run → Run → List ℕ
together_text d r q = both_text d r q ++ codes " run together"

unfoldable pub load_text : Declared → ℕ → List ℕ
load_text d n = codes "load " ++ (decimal n ++ (codes " of " ++ decimal d.capacity))

unfoldable pub skip_text : Declared → Run → List ℕ
skip_text d r = run_text d r ++ codes " is skipped"

abbrev pub break_text : Declared → Shown → List ℕ
break_text d (Together r q) = together_text d r q
break_text d (Load n) = load_text d n
break_text d (Skipped j t) = skip_text d (run_of j t)

-- the line of a script that shows a plan unsafe
unfoldable pub shown_text : Declared → Shown → List ℕ
shown_text d s = codes "unsafe: " ++ break_text d s
