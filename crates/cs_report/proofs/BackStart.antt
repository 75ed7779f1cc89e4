-- The line of a start is read back as that start.
use Rattle.std.proofs.Common.{◌≡◌, ℕ, ◌≤◌, Bool, true, false, List, ◌∷◌, ◌++◌, Ok, refl, ap, ◌∙◌, arith}
use Rattle.std.specs.Prelude.{codes}
use Rattle.std.specs.List.{list_all}
use Rattle.cs_civil.specs.Calendar.{last_minute}
use Rattle.cs_civil.specs.Text.{minute_text}
use Rattle.cs_table.specs.Text.{lines_of}
use Rattle.cs_history.specs.History.{Start as Opening}
use Rattle.cs_history.specs.Plan.{first_start}
use Rattle.cs_plan.specs.Plan.{Declared}
use Rattle.cs_report.specs.Grammar.{Start, Starts, Says, side}
use Rattle.cs_report.specs.Script.{nothing, taken}
use Rattle.cs_report.specs.ScriptText.{at_minute, start_line}
use Rattle.cs_report.proofs.BackWords.{line_of, is_inside}
use Rattle.cs_report.proofs.BackMoments.{moment_is}
use Rattle.cs_report.proofs.BackLines.{joined, moment_inside}
use Rattle.cs_report.proofs.Opened.{started, first_again}

abbrev pub start_text : ℕ → Bool → List ℕ
start_text t up = codes "start" ++ 32 ∷ (minute_text t ++ side up)

says_start : (d : Declared) (t : ℕ) (up : Bool) → first_start ≤ t → t ≤ last_minute → Says d (start_text t up) (Starts t up)
says_start d t up ge le = (Start (minute_text t) up, (refl, moment_is t), (t, 0, ((refl, omega (arith, ge), le), ge), tt, refl))

pub taken_start : (d : Declared) (n t : ℕ) (up : Bool) → first_start ≤ t → t ≤ last_minute → taken d n (nothing d) (start_text t up) ≡ Ok (started d t up)
taken_start d n t up ge le = first_again d n (start_text t up) t up (says_start d t up ge le)

start_inside : (t : ℕ) (up : Bool) → list_all is_inside (start_text t up) ≡ true
start_inside t true = joined (at_minute t) (codes " up") (moment_inside t) refl
start_inside t false = joined (at_minute t) (codes " down") (moment_inside t) refl

start_end : (start : Opening) (rest : List ℕ) → start_line start ++ rest ≡ start_text start.now start.up ++ 10 ∷ rest
start_end start rest = by_side start.up refl
  where
    by_side : (b : Bool) → start.up ≡ b → start_line start ++ rest ≡ start_text start.now start.up ++ 10 ∷ rest
    by_side true e = rw e refl
    by_side false e = rw e refl

pub start_first : (start : Opening) (rest : List ℕ) → lines_of (start_line start ++ rest) ≡ start_text start.now start.up ∷ lines_of rest
start_first start rest = ap lines_of (start_end start rest) ∙ line_of (start_text start.now start.up) rest (start_inside start.now start.up)
