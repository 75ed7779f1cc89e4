use Rattle.std.proofs.Common.{◌<◌, List, length, slice_index_or, ap, ◌∙◌, arith}
use Rattle.cs_classes.specs.Said.{said}
use Rattle.cs_claims.specs.declared.class.Class.{Class}
use Rattle.cs_classes.specs.Claim.{class_at, no_class}
use Rattle.cs_classes.proofs.Lists.{within}
use Rattle.cs_check.proofs.Using.{number_there}
use Rattle.cs_check.proofs.case.Case.class_on.Goals as goal

pub bounds-classes-number : goal.bounds-classes-number
bounds-classes-number c =
    let lt = number_there (said c.args.self.now.claim.now) c.args.self.now.days c.args.used.now c.requires.in_use c.args.place c.requires.within in
    let count = ap (λ (xs : List Class). length xs) c.classes.ensures in
    omega (arith, lt, count)

pub returns : goal.returns
returns c =
    let number = slice_index_or c.args.used.now.of.now c.args.place 0 in
    let lt = number_there (said c.args.self.now.claim.now) c.args.self.now.days c.args.used.now c.requires.in_use c.args.place c.requires.within in
    let count = ap (λ (xs : List Class). length xs) c.classes.ensures in
    let there : number < length c.classes.result.now = omega (arith, lt, count) in
    c.index-classes-number.is
    ∙ (within c.classes.result.now number c.index-classes-number.result no_class there
    ∙ ap (λ (xs : List Class). class_at xs number) c.classes.ensures)
