use Rattle.std.proofs.Common.{◌≡◌, ◌<◌, List, Option, length, ap, ◌∙◌, arith}
use Rattle.std.proofs.lemmas.Result.{IfOk-weaker}
use Rattle.cs_claims.specs.Certificate.{content}
use Rattle.cs_claims.specs.declared.class.Class.{Class}
use Rattle.cs_claims.proofs.Keeping.{few_classes}
use Rattle.cs_classes.specs.WorkedOut.{first_classed}
use Rattle.cs_classes.specs.declared.working_out.ClassedKind.{ClassedKind}
use Rattle.cs_civil.specs.Calendar.{Kind}
use Rattle.cs_classes.specs.Claim.{class_at, no_class}
use Rattle.cs_classes.specs.StandsFor.{first_kind, worked_class, worked_of}
use Rattle.cs_classes.proofs.Lists.{within}
use Rattle.cs_classes.proofs.WorkedClasses.{first_of_all}
use Rattle.cs_classes.proofs.working_out.class_of_number.Goals as goal

pub overflow_cast-number : goal.overflow_cast-number
overflow_cast-number c =
    let k = content c.args.certificate.now in
    omega (arith, c.requires.there, c.classes.ensures.kept.count.1, few_classes k.version)

pub returns : goal.returns
returns c =
    let d = c.args.plan.now in
    let k = content c.args.certificate.now in
    let n = c.args.number in
    let found = c.index-classes-number.result in
    let count = ap (λ (xs : List Class). length xs) c.classes.ensures.value in
    let there : n < length c.classes.result.now = omega (arith, c.requires.there, count) in
    let class = c.index-classes-number.is ∙ (within c.classes.result.now n found no_class there ∙ ap (λ (xs : List Class). class_at xs n) c.classes.ensures.value) in
    let kind = c.first_kind-kind.ensures ∙ (ap (λ (kinds : List ClassedKind). first_classed kinds n) c.requires.kinds ∙ first_of_all k n) in
    IfOk-weaker c.worked_class.result
    (λ worked. worked ≡ worked_class d c.first_kind-kind.result found)
    (λ worked. worked ≡ worked_of d k n)
    (λ worked e. e ∙ (ap (λ (of : Option Kind). worked_class d of found) kind ∙ ap (worked_class d (first_kind k n)) class)) c.worked_class.ensures
