use Rattle.std.proofs.Common.{◌≡◌, drop}
use Rattle.cs_claims.specs.Certificate.{pieces_of}
use Rattle.cs_classes.proofs.steps.backlog_among.Given as goal

abbrev pub invariant-loop-of_group : goal.invariant-loop-of_group
invariant-loop-of_group l = pieces_of l.backlog l.group ≡ pieces_of (drop l.of_group-index l.backlog) l.group
