use Rattle.std.proofs.Common.{ap, sym, ◌∙◌, length}
use Rattle.cs_roster.specs.Roster.{has, others}
use Rattle.cs_roster.proofs.Marks.{kept_marked, view_marked, no_entry}
use Rattle.cs_roster.proofs.roster.Roster.mark.Goals as goal

pub invariant_of-self : goal.invariant_of-self
invariant_of-self c =
    let there = ap (λ runs. has runs c.args.run) c.self.view_is ∙ c.requires in
    kept_marked c.args.run c.self.inside.entries.entries c.insert.new.self.entries c.self.inside.gone c.len-here.result c.len.result c.self.invariant there c.in-Ok.ensures.entries c.insert.ensures.unique (c.len-here.ensures.value ∙ sym (ap length c.self.view_is)) c.len.ensures.len

pub returns-in-Ok : goal.returns-in-Ok
returns-in-Ok c =
    let there = ap (λ runs. has runs c.args.run) c.self.view_is ∙ c.requires in
    view_marked c.args.run c.self.inside.entries.entries c.insert.new.self.entries c.self.inside.gone c.self.invariant there c.in-Ok.ensures.entries ∙ ap (λ runs. others runs c.args.run) c.self.view_is

pub returns-in-Err : goal.returns-in-Err
returns-in-Err c =
    let there = ap (λ runs. has runs c.args.run) c.self.view_is ∙ c.requires in
    absurd (no_entry c.args.run c.self.inside.entries.entries c.self.invariant.distinct there c.in-Err.ensures.absent)
