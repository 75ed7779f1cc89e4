use Rattle.std.proofs.Common.{◌≡◌, ℕ, List, sym, ap, ◌∙◌, arith}
use Rattle.cs_windows.specs.declared.window.Window.{Window}
use Rattle.cs_history.specs.Lists.{below}
use Rattle.cs_theorem.specs.Faults.{first_of}
use Rattle.cs_theorem.specs.Windows.{holders}
use Rattle.cs_overlap.specs.Found.{collision_of}
use Rattle.cs_theorem.proofs.Firsts.{below-found, below-none, first_of-more}
use Rattle.cs_overlap.proofs.found.collision_at.Goals as goal

pub returns-in-Some : goal.returns-in-Some
returns-in-Some c =
    let held = holders c.args.minute c.args.windows.now in
    sym (below-found (collision_of c.args.roles.now c.args.minute held) c.loop-group.group c.args.groups c.in-Some.found (omega arith) c.loop-group.invariant
    (ap (λ (h : List Window). collision_of c.args.roles.now c.args.minute h c.loop-group.group) (sym (c.as_slice.ensures.value ∙ c.in_ok-held.ensures)) ∙ sym c.collision_of.ensures ∙ c.in-Some.is))

pub loop-group-preserved : goal.loop-group-preserved
loop-group-preserved c =
    let held = holders c.args.minute c.args.windows.now in
    first_of-more (collision_of c.args.roles.now c.args.minute held) c.loop-group.group c.loop-group.invariant
    (ap (λ (h : List Window). collision_of c.args.roles.now c.args.minute h c.loop-group.group) (sym (c.as_slice.ensures.value ∙ c.in_ok-held.ensures)) ∙ sym c.collision_of.ensures ∙ c.in_default.is)

pub returns : goal.returns
returns c =
    let f = collision_of c.args.roles.now c.args.minute (holders c.args.minute c.args.windows.now) in
    let e : c.loop-group.group ≡ c.args.groups = omega arith in
    sym (ap (λ (k : ℕ). first_of f (below k)) (sym e) ∙ below-none f c.loop-group.group c.loop-group.invariant)
