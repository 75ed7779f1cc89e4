use Rattle.std.proofs.Common.{◌≡◌, ◌∙◌, true, false, List, map, sym, ap}
use Rattle.std.specs.List.{list_any}
use Rattle.arrayvec.specs.ArrayVec.{ArrayVec}
use Rattle.cs_civil.specs.Calendar.{Kind}
use Rattle.cs_daytree.specs.Tree.{Tree, class_in}
use Rattle.cs_theorem.specs.Faults.{first_of, same_list}
use Rattle.cs_classes.specs.Claim.{as_certificate}
use Rattle.cs_classes.specs.Chains.{kinds_of}
use Rattle.cs_classes.specs.Said.{said}
use Rattle.cs_classes.proofs.Missed.{has, missed, here, later}
use Rattle.cs_classes.proofs.missing.first_missing.Goals as goal

pub returns-then-not-is_listed : goal.returns-then-not-is_listed
returns-then-not-is_listed c =
    let a = as_certificate (said c.args.claim.now) in
    let ks = c.in-Some.chain.items in
    let rest = map kinds_of c.next.new.self.rest.items in
    let same = c.as_slice.ensures.value ∙ c.classes_of-classes.ensures ∙ ap (λ (tree : Tree). map (class_in tree) ks) c.kinds.ensures.value in
    let unlisted : has a ks ≡ false =
    ap (λ classes. list_any (λ s. same_list s.of classes) a.stretches) (sym same) ∙ sym (c.in_ok-lists.ensures c.as_slice.result.now) ∙ sym c.is_listed.ensures ∙ c.if-not-is_listed.true in
    sym c.loop-chain.invariant ∙ ap (λ (l : List (ArrayVec Kind)). first_of (missed a) (map kinds_of l)) c.in-Some.ensures.steps.0 ∙ here a ks rest unlisted

pub loop-chain-preserved : goal.loop-chain-preserved
loop-chain-preserved c =
    let a = as_certificate (said c.args.claim.now) in
    let ks = c.in-Some.chain.items in
    let rest = map kinds_of c.next.new.self.rest.items in
    let same = c.as_slice.ensures.value ∙ c.classes_of-classes.ensures ∙ ap (λ (tree : Tree). map (class_in tree) ks) c.kinds.ensures.value in
    let listed : has a ks ≡ true =
    ap (λ classes. list_any (λ s. same_list s.of classes) a.stretches) (sym same) ∙ sym (c.in_ok-lists.ensures c.as_slice.result.now) ∙ sym c.is_listed.ensures ∙ c.if-not-is_listed.false in
    sym (later a ks rest listed) ∙ ap (λ (l : List (ArrayVec Kind)). first_of (missed a) (map kinds_of l)) (sym c.in-Some.ensures.steps.0) ∙ c.loop-chain.invariant
