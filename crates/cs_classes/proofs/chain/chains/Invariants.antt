use Rattle.std.proofs.Common.{◌≡◌, ◌++◌, ◌-◌, map}
use Rattle.std.specs.Prelude.{flat_map}
use Rattle.cs_civil.specs.Order.{all_kinds}
use Rattle.cs_theorem.specs.Faults.{chains_from}
use Rattle.cs_classes.specs.Chains.{kinds_of}
use Rattle.cs_classes.proofs.chain.chains.Given as goal

abbrev pub invariant-loop-kind : goal.invariant-loop-kind
invariant-loop-kind l =
    map kinds_of l.listed.items ++ map (λ ks. l.begun.items ++ ks) (flat_map (chains_from (l.days - 1)) l.kind-iterator)
    ≡ map (λ ks. l.begun.items ++ ks) (flat_map (chains_from (l.days - 1)) all_kinds)
