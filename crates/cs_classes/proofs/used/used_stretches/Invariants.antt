use Rattle.std.proofs.Common.{◌≡◌, filter, map, take, All}
use Rattle.cs_theorem.specs.Faults.{is_used}
use Rattle.cs_classes.specs.Claim.{as_certificate}
use Rattle.cs_classes.specs.Said.{said}
use Rattle.cs_classes.specs.Used.{IsInUse, seen}
use Rattle.cs_classes.proofs.used.used_stretches.Given as goal

abbrev pub invariant-loop-number : goal.invariant-loop-number
invariant-loop-number l = record {
  listed : map seen l.used.items ≡ filter (λ s. is_used (as_certificate (said l.claim)) l.days s.of) (take l.number (said l.claim).stretches);
  in_use : All (IsInUse (said l.claim) l.days) l.used.items;
}
