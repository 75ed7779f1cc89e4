use Rattle.std.proofs.Common.{ℕ, List, [], ◌∷◌, ◌++◌, ◌+◌, ◌∙◌, ap, arith}
use Rattle.cs_classes.specs.Claim.{class_of}
use Rattle.cs_classes.specs.Said.{said}
use Rattle.cs_civil.specs.Calendar.{kind}
use Rattle.cs_classes.proofs.Ending.{classes_more}
use Rattle.cs_classes.proofs.last.classes_from.Goals as goal

pub loop-place-preserved : goal.loop-place-preserved
loop-place-preserved c =
    let a = said c.args.claim.now in
    let one = c.class_on.ensures ∙ ap (λ (e : ℕ). class_of a (kind (c.args.first + e))) c.from.ensures in
    record {
      long = omega (arith, c.push.ensures.len, c.loop-place.invariant.long);
      classes = c.push.ensures.items ∙ ap (λ (l : List ℕ). l ++ c.class_on.result ∷ []) c.loop-place.invariant.classes ∙ classes_more a c.args.first c.loop-place.place c.class_on.result one;
    }
