use Rattle.std.proofs.Common.{rules, ◌≡◌, ◌⊎◌, ℕ, List, subst}
use Rattle.cs_files.specs.Ending.{Ends, RunsOut, Sink}
use Rattle.cs_ask.specs.Stopping.{unfinished, unknown_text, unwritten_text}
use Rattle.cs_ask.proofs.stopping.tell_left.Goals as goal

told_as : (said what : List ℕ) (out-old out-new err-old err-new : Sink) (status : ℕ) → said ≡ what → Ends (unfinished said) out-old out-new err-old err-new status ⊎ RunsOut out-old out-new err-old err-new status
    → Ends (unfinished what) out-old out-new err-old err-new status ⊎ RunsOut out-old out-new err-old err-new status
told_as said what out-old out-new err-old err-new status same told = subst (λ w. Ends (unfinished w) out-old out-new err-old err-new status ⊎ RunsOut out-old out-new err-old err-new status) same told

pub returns-in-Ok : goal.returns-in-Ok
returns-in-Ok g c =
    let same : c.as_slice-in-Ok.result.now ≡ unwritten_text c.in-Unwritten.jobs = search rules in
    rw (c.in-Unwritten.is) (told_as _ _ _ _ _ _ _ same c.tell_unfinished.ensures)

pub returns : goal.returns
returns g c =
    let same : c.as_slice-what.result.now ≡ unknown_text = search rules in
    rw (c.in-Unknown.is) (told_as _ _ _ _ _ _ _ same c.tell_unfinished-in-Unknown.ensures)
