use Rattle.std.proofs.Common.{List, option_map, ap, sym, ◌∙◌, refl}
use Rattle.cs_theorem.specs.Faults.{ClassNotDue}
use Rattle.cs_classes.specs.Said.{said}
use Rattle.cs_classes.specs.Planned.{planned}
use Rattle.cs_windows.specs.declared.reach.JobReach.{JobReach}
use Rattle.cs_check.proofs.Firsts.{unlike_first}
use Rattle.cs_check.proofs.due.basis_of.Goals as goal

pub returns-in-Some-clause-fault : goal.returns-in-Some-clause-fault
returns-in-Some-clause-fault g c = unlike_first c.args.plan.now (said c.args.claim.now) (ClassNotDue c.in-Some.kind) (sym c.in_ok-unlike.ensures ∙ ap (option_map ClassNotDue) c.in-Some.is)

pub returns-clause-ok : goal.returns-clause-ok
returns-clause-ok g c =
    let d = c.args.plan.now in
    let k = said c.args.claim.now in
    record {
      basis = record {
        fit = c.requires.fit;
        due = sym c.in_ok-unlike.ensures ∙ ap (option_map ClassNotDue) c.in_default.is;
        few = c.in_ok-occupied.ensures.few;
        jobs = c.in_ok-occupied.ensures.jobs ∙ ap (λ (rs : List JobReach). planned d rs) c.reach.ensures;
        nothing = c.requires.none;
      };
      plan = refl;
      certificate = refl;
    }
