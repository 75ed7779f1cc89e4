use Rattle.std.proofs.Common.{option_map, ap, ◌∙◌}
use Rattle.cs_theorem.specs.Faults.{Missing}
use Rattle.cs_classes.specs.Said.{said}
use Rattle.cs_classes.specs.Chains.{missing_chain}
use Rattle.cs_check.proofs.Firsts.{missing_next}
use Rattle.cs_check.proofs.stretches.in_use.Goals as goal

pub returns-in-Some-clause-fault : goal.returns-in-Some-clause-fault
returns-in-Some-clause-fault c =
    missing_next c.args.case.now.plan.now (said c.args.case.now.claim.now) c.args.case.now.days (Missing c.in-Some.kinds.items) c.requires.long c.requires.due (c.in_ok-kinds.ensures ∙ ap (option_map missing_chain) c.in-Some.is)

pub returns-clause-ok : goal.returns-clause-ok
returns-clause-ok c = record {
  listed = c.in_ok-used_stretches.ensures.listed;
  in_use = c.in_ok-used_stretches.ensures.in_use;
  complete = c.in_ok-kinds.ensures ∙ ap (option_map missing_chain) c.in_default.is;
}
