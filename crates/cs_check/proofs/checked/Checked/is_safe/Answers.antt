use Rattle.cs_claims.specs.Certificate.{content}
use Rattle.cs_check.proofs.Headline.{accepted, calm_throughout, few, headline, stays}
use Rattle.cs_check.proofs.checked.Checked.is_safe.Goals as goal

pub returns-clause-rules : goal.returns-clause-rules
returns-clause-rules c = accepted c.args.self.now.plan (content c.args.self.now.certificate) c.look_at.ensures c.args.self.now.kept

pub returns-clause-calm : goal.returns-clause-calm
returns-clause-calm c = calm_throughout c.args.self.now.plan (content c.args.self.now.certificate) c.look_at.ensures c.args.self.now.kept

pub returns-clause-windows : goal.returns-clause-windows
returns-clause-windows c = stays c.args.self.now.plan (content c.args.self.now.certificate) c.look_at.ensures c.args.self.now.kept

pub returns-clause-headline : goal.returns-clause-headline
returns-clause-headline c = headline c.args.self.now.plan (content c.args.self.now.certificate) c.look_at.ensures c.args.self.now.kept

pub returns-clause-few : goal.returns-clause-few
returns-clause-few c = few c.args.self.now.plan (content c.args.self.now.certificate) c.look_at.ensures c.args.self.now.kept
