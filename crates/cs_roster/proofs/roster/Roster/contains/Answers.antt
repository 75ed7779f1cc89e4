use Rattle.std.proofs.Common.{ap, ◌∙◌}
use Rattle.cs_roster.specs.Roster.{has}
use Rattle.cs_roster.proofs.Marks.{there_some, there_none}
use Rattle.cs_roster.proofs.roster.Roster.contains.Goals as goal

pub returns-in-Some : goal.returns-in-Some
returns-in-Some c =
    c.is_some.ensures ∙ there_some c.args.run c.self.inside.entries.entries c.self.inside.gone c.in-Some.since.now c.self.invariant c.in-Some.ensures.value
    ∙ ap (λ runs. has runs c.args.run) c.self.view_is

pub returns-in-None : goal.returns-in-None
returns-in-None c = there_none c.args.run c.self.inside.entries.entries c.self.inside.gone c.self.invariant c.in-None.ensures.value ∙ ap (λ runs. has runs c.args.run) c.self.view_is
