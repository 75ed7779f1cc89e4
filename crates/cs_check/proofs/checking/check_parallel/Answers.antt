use Rattle.cs_claims.specs.Certificate.{content}
use Rattle.cs_check.proofs.Headline.{accepted, calm_throughout, headline, length_of, stays}
use Rattle.cs_check.proofs.checking.check_parallel.Goals as goal

pub returns-clause-rules : goal.returns-clause-rules
returns-clause-rules g c = accepted c.args.plan.now (content c.args.certificate) c.look_at.ensures c.in_ok-judge.ensures.ok

pub returns-clause-calm : goal.returns-clause-calm
returns-clause-calm g c = calm_throughout c.args.plan.now (content c.args.certificate) c.look_at.ensures c.in_ok-judge.ensures.ok

pub returns-in_err-judge-clause-length : goal.returns-in_err-judge-clause-length
returns-in_err-judge-clause-length g c = length_of c.args.plan.now (content c.args.certificate).reach c.look_at.ensures

pub returns-in_err-plan-clause-length : goal.returns-in_err-plan-clause-length
returns-in_err-plan-clause-length g c = length_of c.args.plan.now (content c.args.certificate).reach c.look_at.ensures

pub returns-clause-length : goal.returns-clause-length
returns-clause-length g c = length_of c.args.plan.now (content c.args.certificate).reach c.look_at.ensures

pub returns-clause-windows : goal.returns-clause-windows
returns-clause-windows g c = stays c.args.plan.now (content c.args.certificate) c.look_at.ensures c.in_ok-judge.ensures.ok

pub returns-clause-headline : goal.returns-clause-headline
returns-clause-headline g c = headline c.args.plan.now (content c.args.certificate) c.look_at.ensures c.in_ok-judge.ensures.ok
