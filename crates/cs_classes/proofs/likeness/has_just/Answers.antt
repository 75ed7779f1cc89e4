use Rattle.std.proofs.Common.{Bool, ◌&&◌, ◌∙◌, sym, ap}
use Rattle.cs_schedule.specs.Numbers.{has}
use Rattle.cs_classes.specs.Likeness.{has_just}
use Rattle.cs_classes.proofs.Alike.{agree}
use Rattle.cs_classes.proofs.likeness.has_just.Goals as goal

pub returns-then-counts : goal.returns-then-counts
returns-then-counts c =
    let due = has c.args.minutes.now in
    let times = has c.args.times.now in
    agree due times c.is_same.result c.is_same.ensures.0 c.is_same.ensures.1 ∙ ap (λ (b : Bool). b && has_just due times) (sym c.if-counts.true)
