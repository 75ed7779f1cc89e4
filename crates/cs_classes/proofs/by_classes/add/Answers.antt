use Rattle.cs_classes.proofs.ByClasses.{found_now, found_as_before}
use Rattle.cs_classes.proofs.by_classes.add.Goals as goal

pub returns-in_ok-insert : goal.returns-in_ok-insert
returns-in_ok-insert c = λ listed lead classes.
    found_now listed c.args.chain c.as_slice-classes.result classes _ _ c.as_slice-classes.ensures.value (c.in_ok-insert.ensures.updates.0 classes) (lead classes)

pub returns-else-is_none : goal.returns-else-is_none
returns-else-is_none c = λ listed lead classes.
    found_as_before listed c.args.chain.now c.as_slice-classes.result.now classes.now c.chain_with.result _ (c.chain_with.ensures.found listed lead) c.as_slice-classes.ensures.value c.if-is_none.ensures (lead classes)
