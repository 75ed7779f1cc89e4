use Rattle.std.proofs.Common.{ap, arith, length, sym, ◌∙◌}
use Rattle.cs_roster.specs.Roster.{others}
use Rattle.cs_core.specs.Standing.{Standing}
use Rattle.cs_core.proofs.Runs.{no_others, one_fewer}
use Rattle.cs_core.proofs.event_core.Core.runs_without.Goals as goal

pub returns-then-contains : goal.returns-then-contains
returns-then-contains c =
    let fewer = one_fewer c.args.run c.self.inside.running (omega (arith, c.self.invariant.named.once c.args.run)) (sym c.contains.ensures ∙ c.if-contains.true) in
    omega (arith, fewer, c.len.ensures.value, ap (λ (s : Standing). length (others s.state.running c.args.run)) c.self.view_is)

pub returns-else-contains : goal.returns-else-contains
returns-else-contains c =
    let same = no_others c.args.run c.self.inside.running (sym c.contains.ensures ∙ c.if-contains.false) in
    omega (arith, ap length same, c.len-else-contains.ensures.value, ap (λ (s : Standing). length (others s.state.running c.args.run)) c.self.view_is)
