use Rattle.std.proofs.Common.{◌≡◌, ◌-◌, ◌∙◌, [], ◌∷◌, ◌++◌, List, sym, ap, map, append-nil}
use Rattle.std.specs.Prelude.{flat_map}
use Rattle.cs_civil.specs.Calendar.{Kind}
use Rattle.cs_civil.specs.Order.{all_kinds}
use Rattle.cs_theorem.specs.Faults.{chains, chains_from}
use Rattle.cs_classes.specs.Chains.{kinds_of}
use Rattle.cs_classes.proofs.Grown.{grown, unchanged}
use Rattle.cs_classes.proofs.chain.chains.Goals as goal

pub loop-kind-preserved : goal.loop-kind-preserved
loop-kind-preserved c =
    let f = chains_from (c.args.days - 1) in
    let left : c.loop-kind.kind-iterator ≡ c.in-Some.kind ∷ c.next.new.self = c.in-Some.ensures.steps in
    grown (λ (ks : List Kind). c.new-begun.result.items ++ ks) f (map kinds_of c.loop-kind.listed.items) (map kinds_of c.add_chains.new.chains.items) _ c.in-Some.kind c.next.new.self c.in_ok-add_chains.ensures
    (ap (λ (l : List Kind). map kinds_of c.loop-kind.listed.items ++ map (λ ks. c.new-begun.result.items ++ ks) (flat_map f l)) (sym left) ∙ c.loop-kind.invariant)

pub returns : goal.returns
unfolding chains
returns c =
    let f = chains_from (c.args.days - 1) in
    let listed = map kinds_of c.loop-kind.listed.items in
    let none : c.loop-kind.kind-iterator ≡ [] = c.in-None.ensures.steps.0 in
    sym (append-nil listed) ∙ ap (λ (l : List Kind). listed ++ map (λ ks. c.new-begun.result.items ++ ks) (flat_map f l)) (sym none) ∙ c.loop-kind.invariant
    ∙ ap (λ (b : List Kind). map (λ ks. b ++ ks) (flat_map f all_kinds)) c.new-begun.ensures ∙ unchanged (flat_map f all_kinds)
