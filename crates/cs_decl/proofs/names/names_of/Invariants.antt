use Rattle.std.proofs.Common.{◌≡◌, ℕ, List, take, bytes_eq}
use Rattle.std.specs.List.{list_any}
use Rattle.cs_decl.proofs.names.names_of.Given as goal

abbrev pub invariant-loop-group : goal.invariant-loop-group
invariant-loop-group l = (name : List ℕ) → list_any (λ k. bytes_eq name k.now) l.names.keys ≡ list_any (λ g. bytes_eq name g.name) (take l.group-index l.groups)
