use Rattle.std.proofs.Common.{Some, sym}
use Rattle.cs_decl.specs.Join.{is_of_job}
use Rattle.cs_decl.proofs.Validity.{anacron_possible}
use Rattle.cs_decl.proofs.terms.anacron_job.Goals as goal

pub anacron_terms-requires-clause-possible : goal.anacron_terms-requires-clause-possible
anacron_terms-requires-clause-possible c = anacron_possible c.args.entries.now c.requires c.args.place (is_of_job c.identifier.result.now) (Some c.in-Some.entry.now) (sym c.in-Some.ensures)
