use Rattle.std.proofs.Common.{◌≡◌, ◌++◌, ◌-◌, map, drop}
use Rattle.std.specs.Prelude.{flat_map}
use Rattle.cs_theorem.specs.Faults.{chains_from}
use Rattle.cs_classes.specs.Chains.{kinds_of}
use Rattle.cs_classes.proofs.chain.+add_chains.Given as goal

abbrev pub decreases-add_chains : goal.decreases-add_chains
decreases-add_chains l = l.more

abbrev pub invariant-loop-kind : goal.invariant-loop-kind
invariant-loop-kind l =
    map kinds_of l.chains.items ++ map (λ ks. l.chain.items ++ ks) (flat_map (chains_from (l.more - 1)) (drop l.kind-index l.kind-items))
    ≡ map kinds_of l.fn.chains.items ++ map (λ ks. l.chain.items ++ ks) (flat_map (chains_from (l.more - 1)) l.kind-items)
