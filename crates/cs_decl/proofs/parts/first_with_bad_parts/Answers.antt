use Rattle.cs_decl.specs.Faults.{has_bad_parts}
use Rattle.cs_decl.proofs.Minutes.{from_start}
use Rattle.cs_decl.proofs.parts.first_with_bad_parts.Goals as goal

pub loop-i-init : goal.loop-i-init
loop-i-init c = from_start has_bad_parts c.args.cron.now
