use Rattle.std.proofs.Common.{◌≡◌, ◌∷◌, [], ◌++◌, List, sym, subst, arith, inl, inr, ◌<◌, ◌+◌, ◌-◌}
use Rattle.std.proofs.lemmas.Grind.{common_steps}
use Rattle.std.specs.Prelude.{vec_len, vec_capacity}
use Rattle.cs_plan.specs.Plan.{as_plan}
use Rattle.cs_history.specs.Journal.{IsJournal}
use Rattle.cs_history.specs.declared.event.Event.{Event}
use Rattle.cs_history.specs.declared.reply.Reply.{Reply}
use Rattle.cs_history.proofs.Journals.{journal_grows}
use Rattle.cs_history.specs.declared.refusal.Refusal.TheVariants.{HistoryFull, OutOfMemory}
use Rattle.cs_check.specs.Checked.{AreFew, IsHeadline}
use Rattle.cs_keep.specs.declared.limits.TheConstants.{MAX_ENTRIES}
use Rattle.cs_keep.specs.Keeping.{IsRefused}
use Rattle.cs_keep.proofs.Room.{refused_when_full, refused_by_memory}
use Rattle.cs_keep.proofs.journaled_core.JournaledCore.step.Goals as goal
use Rattle.cs_keep.proofs.journaled_core.JournaledCore.step.Goals.{then-runs-entries-via-then-runs-entries, then-runs-entries-via-else-runs-entries+then-self-runs}

pub returns-then-runs-entries-clause-refused : goal.returns-then-runs-entries-clause-refused
returns-then-runs-entries-clause-refused c =
    let full = refused_when_full c.self.inside c.self.invariant c.args.event c.runs_after-runs.result c.runs_after-runs.ensures c.in_ok-test.ensures in
    subst (λ k. IsRefused k c.args.event HistoryFull) c.self.view_is
    (elim c.then-runs-entries.branch [
      | then-runs-entries-via-then-runs-entries w ↦ full (inl (omega (arith, w.if-runs-entries.true, c.len-entries.ensures)))
      | then-runs-entries-via-else-runs-entries+then-self-runs w ↦ full (inr (omega (arith, w.if-runs-entries.false), omega (arith, w.if-self-runs.true)))
    ])

pub returns-then-is_err-clause-refused : goal.returns-then-is_err-clause-refused
returns-then-is_err-clause-refused c =
    let more : vec_capacity c.self.inside.journal < vec_len c.self.inside.journal + (1 + c.runs_after-runs.result) = grind (arith, common_steps) in
    let room : c.runs_after-runs.result < MAX_ENTRIES - vec_len c.self.inside.journal = omega (arith, c.if-runs-entries.false, c.len-entries.ensures) in
    subst (λ k. IsRefused k c.args.event OutOfMemory) c.self.view_is
    (refused_by_memory c.self.inside c.self.invariant c.args.event c.runs_after-runs.result c.runs_after-runs.ensures c.in_ok-test.ensures room c.if-self-runs.false more)

pub invariant_of-self-2 : goal.invariant_of-self-2
invariant_of-self-2 c =
    let plan : c.self.inside.core.plan ≡ c.step.new.self.plan = sym c.in_ok-reply.ensures.plan in
    let items : c.push.new.self.items ≡ c.self.inside.journal.items ++ (c.args.event, c.in_ok-reply.reply) ∷ [] = grind (arith, common_steps) in
    let grown = journal_grows (as_plan c.self.inside.core.plan) c.self.inside.base c.self.inside.journal.items c.self.inside.core.state c.step.new.self.state c.args.event c.in_ok-reply.reply c.self.invariant.journal c.in_ok-reply.ensures.steps in
    record {
      journal =
          subst (λ d. IsJournal (as_plan d) c.self.inside.base c.push.new.self.items c.step.new.self.state) plan
          (subst (λ (x : List (Event × Reply)). IsJournal (as_plan c.self.inside.core.plan) c.self.inside.base x c.step.new.self.state) (sym items) grown);
      safe = subst (λ d. IsHeadline (as_plan d)) plan c.self.invariant.safe;
      few = subst (λ d. AreFew (as_plan d)) plan c.self.invariant.few;
      room = grind (arith, common_steps);
      entries = grind (arith, common_steps);
      counted = grind (arith, common_steps);
    }
