use Rattle.std.proofs.Common.{◌≡◌, ◌<◌, ℕ, None, subst, sym, ap, ◌∙◌, arith}
use Rattle.cs_history.specs.Lists.{below}
use Rattle.cs_theorem.specs.Faults.{first_of}
use Rattle.cs_theorem.proofs.Firsts.{below-found, below-none, first_of-more}
use Rattle.cs_classes.proofs.Lists.{within}
use Rattle.cs_classes.specs.Work.{IsWork, rise_of}
use Rattle.cs_classes.proofs.steps.rise_at.Goals as goal

pub returns-in-Some : goal.returns-in-Some
returns-in-Some c p eve day w =
    let f = rise_of p eve day c.args.minute in
    let lt : c.loop-group.group < p.groups = omega (arith, w.0, c.loop-group-test.true) in
    let e = within c.args.works.now c.loop-group.group None c.index-works-group.result c.loop-group-test.true ∙ sym c.index-works-group.is in
    let k = subst (IsWork p eve day c.loop-group.group) e (w.1 c.loop-group.group lt) in
    sym (below-found f c.loop-group.group p.groups c.in-Some.found lt (c.loop-group.invariant p eve day w) (sym (c.rise_of.ensures p eve day k) ∙ c.in-Some.is))

pub loop-group-preserved : goal.loop-group-preserved
loop-group-preserved c p eve day w =
    let f = rise_of p eve day c.args.minute in
    let lt : c.loop-group.group < p.groups = omega (arith, w.0, c.loop-group-test.true) in
    let e = within c.args.works.now c.loop-group.group None c.index-works-group.result c.loop-group-test.true ∙ sym c.index-works-group.is in
    let k = subst (IsWork p eve day c.loop-group.group) e (w.1 c.loop-group.group lt) in
    first_of-more f c.loop-group.group (c.loop-group.invariant p eve day w) (sym (c.rise_of.ensures p eve day k) ∙ c.in_default.is)

pub returns : goal.returns
returns c p eve day w =
    let f = rise_of p eve day c.args.minute in
    let e : c.loop-group.group ≡ p.groups = omega (arith, w.0) in
    sym (ap (λ (k : ℕ). first_of f (below k)) (sym e) ∙ below-none f c.loop-group.group (c.loop-group.invariant p eve day w))
