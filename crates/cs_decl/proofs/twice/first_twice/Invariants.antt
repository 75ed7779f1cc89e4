use Rattle.std.proofs.Common.{◌≡◌, map, drop, bytes_eq}
use Rattle.cs_decl.specs.Faults.{first_again, first_twice}
use Rattle.cs_decl.proofs.twice.first_twice.Given as goal

abbrev pub invariant-loop-i : goal.invariant-loop-i
invariant-loop-i g l = first_again bytes_eq (map (λ k. k.now) l.seen.keys) l.i (map g.T.Named.name_of (drop l.i l.items)) ≡ first_twice bytes_eq (map g.T.Named.name_of l.items)
