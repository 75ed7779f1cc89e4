use Rattle.cs_classes.proofs.GroupDays.{leads_from_steady, steady_from_leads}
use Rattle.cs_classes.proofs.group_day.is_steady_over.Goals as goal

pub returns : goal.returns
returns c = λ p e d a b. (
  λ t. steady_from_leads p e d c.args.eve.now c.args.day.now a b (c.each_leads.ensures.0 t),
  λ s. c.each_leads.ensures.1 (leads_from_steady p e d c.args.eve.now c.args.day.now a b s),
)
