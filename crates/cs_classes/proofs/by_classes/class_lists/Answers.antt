use Rattle.std.proofs.Common.{ℕ, List, Bor, ap, refl, sym, ◌∙◌}
use Rattle.std.proofs.lemmas.Option.{get_or_from_slice_get, slice_get_within}
use Rattle.cs_theorem.specs.Certificate.{Stretch}
use Rattle.cs_classes.specs.ByClasses.{is_among}
use Rattle.cs_classes.specs.Said.{said}
use Rattle.cs_classes.specs.Used.{shown}
use Rattle.cs_classes.proofs.ByClasses.{among_more}
use Rattle.cs_classes.proofs.by_classes.class_lists.Goals as goal

pub loop-number-preserved : goal.loop-number-preserved
loop-number-preserved c = λ classes.
    let ss = (said c.args.claim.now).stretches in
    let s = shown c.stretch.result in
    let at = c.stretch.ensures.value in
    ap (λ (keys : List (Bor (List ℕ))). is_among keys classes) c.in_ok-insert.ensures.keys
    ∙ among_more (λ (t : Stretch). t.of) classes c.loop-number.lists.keys c.stretch.result.of ss c.loop-number.number s (slice_get_within ss c.loop-number.number s at) (sym (get_or_from_slice_get ss c.loop-number.number s s at)) refl (c.loop-number.invariant classes)
