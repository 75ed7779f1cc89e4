use Rattle.std.proofs.Common.{◌≡◌, drop, map}
use Rattle.cs_args.specs.CommandLine.{has_no_number}
use Rattle.cs_args.specs.Table.{words_given}
use Rattle.cs_args.proofs.command_line.Given.no_number.Given as goal

-- one is no number if one of those that are left is none
abbrev pub invariant-loop-id : goal.invariant-loop-id
invariant-loop-id l = has_no_number (map (λ id. id.now) (drop l.id-index l.ids)) (words_given l.self) ≡ has_no_number (map (λ id. id.now) l.ids) (words_given l.self)
