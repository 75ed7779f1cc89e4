use Rattle.std.proofs.Common.{List, arith, map, take}
use Rattle.cs_files.specs.declared.response.Status.{Status}
use Rattle.cs_all.specs.declared.told.Told.{Told}
use Rattle.cs_all.proofs.Severity.{kept, one_more, risen}
use Rattle.cs_all.proofs.told.most_severe.Goals as goal
use Rattle.cs_all.proofs.told.most_severe.Goals.{then-severity, else-severity}

pub loop-told-preserved : goal.loop-told-preserved
loop-told-preserved c =
    let told = c.told-item.result in
    let before : List Status = map (λ (t : Told). t.status) (take c.loop-told.told-index c.args.all.now) in
    let longer = one_more c.args.all.now c.loop-told.told-index told c.loop-told-test.true c.told-item.is in
    elim c.if-severity.branch [
      | then-severity w ↦ rw (longer, w.most-is) (risen before c.loop-told.most told.status c.loop-told.invariant (omega (arith, w.if-severity.true, c.severity.ensures, c.severity-in-loop-told.ensures)))
      | else-severity w ↦ rw (longer, w.most-is) (kept before c.loop-told.most told.status c.loop-told.invariant (omega (arith, w.if-severity.false, c.severity.ensures, c.severity-in-loop-told.ensures)))
    ]
