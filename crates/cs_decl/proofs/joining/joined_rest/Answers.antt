use Rattle.std.proofs.Common.{◌∙◌, sym}
use Rattle.cs_decl.proofs.Joins.{first_none, jobs_are_declared}
use Rattle.cs_decl.proofs.joining.joined_rest.Goals as goal

pub plan_of-requires-clause-timed : goal.plan_of-requires-clause-timed
plan_of-requires-clause-timed c =
    let none = first_none _ _ (sym c.or.ensures ∙ first_none _ _ (sym c.or-2.ensures ∙ c.in-None.is)) in
    let told = rw (c.lines-4.ensures.value, c.lines-5.ensures.value) at c.in_ok-undeclared.ensures in
    (jobs_are_declared c.in_ok-rest.rest.lines c.args.anacrontab.lines c.args.entries.now (sym told ∙ none)).timed
