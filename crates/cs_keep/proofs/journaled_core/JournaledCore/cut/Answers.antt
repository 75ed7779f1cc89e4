use Rattle.std.proofs.Common.{rules, ◌≡◌, ◌∙◌, subst, arith}
use Rattle.std.proofs.lemmas.Grind.{common_steps}
use Rattle.cs_plan.specs.Plan.{IsWhole, as_plan}
use Rattle.cs_keep.specs.Keeping.{IsIdle, start_from}
use Rattle.cs_keep.proofs.Cutting.{few_stamps, cut_journal}
use Rattle.cs_keep.proofs.journaled_core.JournaledCore.cut.Goals as goal

pub stamps_of-stamps-requires : goal.stamps_of-stamps-requires
stamps_of-stamps-requires c =
    let whole : IsWhole c.self.inside.core.plan = subst IsWhole c.plan.ensures c.jobs-jobs.ensures.whole in
    few_stamps c.self.inside.core.plan c.self.inside.base c.self.inside.journal.items c.self.inside.core.state whole c.self.invariant.journal

pub invariant_of-self : goal.invariant_of-self
invariant_of-self c =
    let idle : IsIdle c.self.inside.core.state = search rules in
    let start : c.new-self-inside.result ≡ start_from c.self.inside.core.state = c.new-self-inside.ensures ∙ (λ i. record { now = c.now.ensures i; up = c.is_up.ensures i; stamps = c.stamps_of-stamps.ensures i }) in
    let journal = cut_journal (as_plan c.self.inside.core.plan) c.self.inside.base c.self.inside.journal.items c.self.inside.core.state c.self.invariant.journal idle in
    record {
      journal = rw (start, c.clear.ensures.items) journal;
      safe = c.self.invariant.safe;
      few = c.self.invariant.few;
      room = grind (arith, common_steps);
      entries = grind (arith, common_steps);
      counted = c.self.invariant.counted;
    }
