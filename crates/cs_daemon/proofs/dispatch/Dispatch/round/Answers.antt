use Rattle.std.proofs.Common.{◌∙◌, ℕ, ap, subst, sym}
use Rattle.cs_core.specs.Standing.{Standing}
use Rattle.cs_daemon.specs.Starts.{IsCut, desk}
use Rattle.cs_daemon.proofs.Storing.{left_by}
use Rattle.cs_daemon.proofs.Ticking.{same_core}
use Rattle.cs_daemon.proofs.dispatch.Dispatch.round.Goals as goal

pub returns-clause-round : goal.returns-clause-round
returns-clause-round g c = record {
  between = c.tick-ticked.new.self.keep;
  ticks = c.tick-ticked.ensures.ticks;
  keep = c.cut.ensures.keep;
  cut =
      subst (λ (n : ℕ). IsCut (desk c.tick-ticked.new.self.keep n) (desk c.cut.new.self.keep c.cut.new.self.next))
      c.tick-ticked.ensures.next c.cut.ensures.desk;
}

pub returns-clause-stamps : goal.returns-clause-stamps
returns-clause-stamps g c =
    let core = same_core c.tick-ticked.new.self.keep c.cut.new.self.keep c.cut.ensures.keep in
    c.stamps_of-stamps.ensures.stamps ∙ ap (λ (x : Standing). x.state.stamps) (sym core)

pub returns-clause-left : goal.returns-clause-left
returns-clause-left g c =
    left_by c.tick-ticked.new.self.keep g.J.PlanLedger.plan c.stamps_of-stamps.result c.stamps_of-stamps.ensures.kept c.tick-ticked.new.self.plan c.stamps_of-stamps.ensures.stamps
