use Rattle.std.proofs.Common.{◌-◌, ◌∙◌, [], ◌∷◌, ◌++◌, List, ap, arith, map}
use Rattle.std.specs.Prelude.{flat_map}
use Rattle.cs_civil.specs.Calendar.{Kind}
use Rattle.cs_theorem.specs.Faults.{chains_from}
use Rattle.cs_classes.specs.Chains.{kinds_of}
use Rattle.cs_classes.proofs.Grown.{next_grown, all_grown, followed}
use Rattle.cs_classes.proofs.chain.+add_chains.Goals as goal

pub loop-kind-preserved : goal.loop-kind-preserved
loop-kind-preserved t c =
    next_grown (λ (ks : List Kind). c.longer-chain.result.items ++ ks) (chains_from (c.args.more - 1)) (map kinds_of c.loop-kind.chains.items) (map kinds_of c.add_chains.new.chains.items) _
    c.as_slice-kind-items.result.now c.loop-kind.kind-index c.kind-item.result c.loop-kind-test.true c.kind-item.is c.in_ok-add_chains.ensures c.loop-kind.invariant

pub returns : goal.returns
returns t c =
    let old = map kinds_of c.args.chains.now.items in
    let f = chains_from (c.args.more - 1) in
    let next = c.as_slice-kind-items.ensures.value ∙ c.next_kinds-next.ensures.value in
    all_grown (λ (ks : List Kind). c.longer-chain.result.items ++ ks) f (map kinds_of c.loop-kind.chains.items) _ c.as_slice-kind-items.result.now c.loop-kind.kind-index c.loop-kind-test.false c.loop-kind.invariant
    ∙ ap (λ (q : List Kind). old ++ map (λ ks. q ++ ks) (flat_map f c.as_slice-kind-items.result.now)) c.longer-chain.ensures
    ∙ ap (λ (q : List Kind). old ++ map (λ ks. (c.args.begun.now.items ++ c.args.kind ∷ []) ++ ks) (flat_map f q)) next
    ∙ ap (λ (q : List (List Kind)). old ++ q) (followed c.args.begun.now.items c.args.kind c.args.more (omega arith))
