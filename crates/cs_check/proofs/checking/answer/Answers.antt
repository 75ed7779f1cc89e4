use Rattle.std.proofs.Common.{rules, ◌≡◌, List, true, option_map, sym, ap, ◌∙◌}
use Rattle.cs_theorem.specs.Certificate.{Stretch}
use Rattle.cs_classes.specs.Said.{said}
use Rattle.cs_classes.specs.Claim.{as_certificate}
use Rattle.cs_plan.specs.Plan.{as_plan}
use Rattle.cs_theorem.specs.Told.{told}
use Rattle.cs_check.specs.Stretches.{later_fault}
use Rattle.cs_check.proofs.Acceptance.{quiet_is_none}
use Rattle.cs_check.proofs.Firsts.{others_last}
use Rattle.cs_check.proofs.checking.answer.Goals as goal

pub returns-then-have_reaches-clause-ok : goal.returns-then-have_reaches-clause-ok
returns-then-have_reaches-clause-ok c =
    let good : c.args.good ≡ true = search rules in
    let reaches : c.have_reaches.result ≡ true = search rules in
    quiet_is_none c.args.case.now c.args.stretches.now c.requires.case c.requires.stretches (c.requires.good good) (c.have_reaches.ensures reaches)

pub returns-in-None-clause-ok : goal.returns-in-None-clause-ok
returns-in-None-clause-ok c =
    let d = c.args.case.now.plan.now in
    let k = said c.args.case.now.claim.now in
    let n = c.args.case.now.days in
    others_last d k n c.requires.case.long c.requires.case.due c.requires.stretches.complete
    ∙ (ap (λ (stretches : List Stretch). later_fault (as_plan d) (as_certificate k) n stretches) (sym c.requires.stretches.listed)
    ∙ (sym c.in_ok-later_fault.ensures ∙ ap (option_map told) c.in-None.is))

pub returns-in-Some-clause-fault : goal.returns-in-Some-clause-fault
returns-in-Some-clause-fault c =
    let d = c.args.case.now.plan.now in
    let k = said c.args.case.now.claim.now in
    let n = c.args.case.now.days in
    others_last d k n c.requires.case.long c.requires.case.due c.requires.stretches.complete
    ∙ (ap (λ (stretches : List Stretch). later_fault (as_plan d) (as_certificate k) n stretches) (sym c.requires.stretches.listed)
    ∙ (sym c.in_ok-later_fault.ensures ∙ ap (option_map told) c.in-Some.is))
