use Rattle.std.proofs.Common.{◌≡◌, map}
use Rattle.cs_theorem.specs.Faults.{chains, first_of}
use Rattle.cs_classes.specs.Said.{said}
use Rattle.cs_classes.specs.Claim.{as_certificate}
use Rattle.cs_classes.specs.Chains.{kinds_of}
use Rattle.cs_classes.proofs.Missed.{missed}
use Rattle.cs_classes.proofs.missing.first_missing.Given as goal

abbrev pub invariant-loop-chain : goal.invariant-loop-chain
invariant-loop-chain l = first_of (missed (as_certificate (said l.claim))) (map kinds_of l.chain-iterator.rest.items) ≡ first_of (missed (as_certificate (said l.claim))) (chains l.days)
