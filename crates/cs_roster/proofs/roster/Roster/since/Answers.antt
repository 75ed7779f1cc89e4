use Rattle.std.proofs.Common.{ap, ◌∙◌}
use Rattle.cs_roster.proofs.Marks.{since_in, since_some, since_none}
use Rattle.cs_roster.proofs.roster.Roster.since.Goals as goal

pub returns-in-Some : goal.returns-in-Some
returns-in-Some c =
    since_some c.args.run c.self.inside.entries.entries c.self.inside.gone c.in-Some.since.now c.self.invariant c.in-Some.ensures.value
    ∙ ap (λ runs. since_in runs c.args.run) c.self.view_is

pub returns-in-None : goal.returns-in-None
returns-in-None c =
    since_none c.args.run c.self.inside.entries.entries c.self.inside.gone c.self.invariant c.in-None.ensures.value
    ∙ ap (λ runs. since_in runs c.args.run) c.self.view_is
