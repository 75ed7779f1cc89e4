use Rattle.std.proofs.Common.{◌≡◌, ◌∙◌, Contains, false, Option, Bor, IfSome, IfNone, sym, subst}
use Rattle.std.specs.List.{list_any}
use Rattle.cs_classes.specs.Used.{classes_in, has_classes}
use Rattle.cs_classes.specs.declared.classed.ClassedChain.{ClassedChain}
use Rattle.cs_classes.proofs.ByClasses.{found_some, found_none}
use Rattle.cs_classes.proofs.by_classes.chain_with.Goals as goal

pub returns-clause-found : goal.returns-clause-found
returns-clause-found c = λ listed lead.
    subst (λ (o : Option (Bor ClassedChain)). IfSome o (λ chain. Contains listed chain.now × (classes_in chain.now ≡ c.args.classes.now))) (sym (c.copied.ensures ∙ c.get.ensures.value)) (found_some listed c.args.classes.now _ (lead c.args.classes))

pub returns-clause-none : goal.returns-clause-none
returns-clause-none c = λ listed lead.
    subst (λ (o : Option (Bor ClassedChain)). IfNone o (list_any (has_classes c.args.classes.now) listed ≡ false)) (sym (c.copied.ensures ∙ c.get.ensures.value)) (found_none listed c.args.classes.now _ (lead c.args.classes))
