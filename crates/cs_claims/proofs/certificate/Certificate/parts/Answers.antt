use Rattle.cs_claims.proofs.Keeping.{keeps}
use Rattle.cs_claims.proofs.certificate.Certificate.parts.Goals as goal

pub returns-clause-kept : goal.returns-clause-kept
returns-clause-kept c = keeps _ c.args.self.now.kept
