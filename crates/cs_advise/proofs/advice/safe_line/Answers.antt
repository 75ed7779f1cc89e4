use Rattle.std.proofs.Common.{List, ℕ, subst}
use Rattle.cs_advise.specs.Advice.{IsLine}
use Rattle.cs_advise.proofs.Advised.{if_safe}
use Rattle.cs_advise.proofs.advice.safe_line.Goals as goal

pub returns : goal.returns
returns g c =
    let plan = c.args.plan.now in
    let change = c.args.change.now in
    let made = c.in-Some.changed in
    let checked = c.in-Some-2.checked in
    let line = c.in_ok-change_line.field-0.items in
    let is = rw c.in-Some.is at c.in_ok-changed.ensures in
    let known = rw c.in-Some-2.is at c.in_ok-checked.ensures in
    if_safe c.args.source.now plan change made.pasted.items made.plan checked line is known
    (subst (λ (pasted : List ℕ). IsLine change pasted line) c.as_slice-pasted.ensures.value c.in_ok-change_line.ensures)
