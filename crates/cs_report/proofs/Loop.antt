-- Reading lines one after the other, as the loop does.
use Rattle.std.proofs.Common.{◌≡◌, ℕ, ◌+◌, List, ◌∷◌, [], Ok, Err, refl}
use Rattle.cs_plan.specs.Plan.{Declared}
use Rattle.cs_report.specs.declared.script_fault.ScriptFault.{ScriptFault}
use Rattle.cs_report.specs.declared.script_fault.ScriptError.{ScriptError}
use Rattle.cs_report.specs.declared.script_fault.ScriptError.TheVariants.{At, OutOfMemory}
use Rattle.cs_report.specs.Script.{PartialScript, Fails, numbered, taken, lines_from}

pub goes_on : (d : Declared) (number : ℕ) (draft more : PartialScript) (line : List ℕ) (lines : List (List ℕ)) → numbered number (taken d number draft line) ≡ Ok more → lines_from d (number + 1) more lines ≡ lines_from d number draft (line ∷ lines)
unfolding lines_from
goes_on d number draft more line lines is = rw is refl

pub ends : (fault : ScriptError) (d : Declared) (number : ℕ) (draft : PartialScript) (line : List ℕ) (lines : List (List ℕ)) → Fails fault (numbered number (taken d number draft line)) → Fails fault (lines_from d number draft (line ∷ lines))
unfolding lines_from
ends OutOfMemory d number draft line lines fails = tt
ends (At n fault) d number draft line lines fails = rw fails refl

pub stops_at : (d : Declared) (number : ℕ) (draft : PartialScript) (line : List ℕ) (lines : List (List ℕ)) (fault : ScriptFault) → taken d number draft line ≡ Err fault → lines_from d number draft (line ∷ lines) ≡ Err (number, fault)
unfolding lines_from
stops_at d number draft line lines fault is = rw is refl

pub is_done : (d : Declared) (number : ℕ) (draft : PartialScript) → lines_from d number draft [] ≡ Ok draft
unfolding lines_from
is_done d number draft = refl
