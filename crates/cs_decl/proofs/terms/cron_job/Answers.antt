use Rattle.std.proofs.Common.{Some, sym}
use Rattle.cs_decl.specs.Join.{is_named}
use Rattle.cs_decl.proofs.Validity.{cron_possible}
use Rattle.cs_decl.proofs.terms.cron_job.Goals as goal

pub cron_terms-requires-clause-possible : goal.cron_terms-requires-clause-possible
cron_terms-requires-clause-possible c = cron_possible c.args.entries.now c.requires c.args.place (λ e. is_named e.name c.args.line.now) (Some c.in-Some.entry.now) (sym c.in-Some.ensures)
