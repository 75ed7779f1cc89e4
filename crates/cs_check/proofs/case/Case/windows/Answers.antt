use Rattle.std.proofs.Common.{◌≡◌, List, map, ap, ◌∙◌}
use Rattle.std.proofs.lemmas.Result.{IfOk-weaker}
use Rattle.cs_theorem.specs.Accepted.{windows_of}
use Rattle.cs_classes.specs.Said.{said}
use Rattle.cs_civil.specs.Calendar.{Kind}
use Rattle.cs_classes.specs.Claim.{as_certificate}
use Rattle.cs_plan.specs.Plan.{as_plan}
use Rattle.cs_windows.specs.Occupied.{job_of}
use Rattle.cs_windows.specs.Windows.{Job, windows_on}
use Rattle.cs_windows.specs.declared.job_windows.Occupied.{Occupied}
use Rattle.cs_check.proofs.Using.{windows_are}
use Rattle.cs_check.proofs.case.Case.windows.Goals as goal

pub returns-clause-value : goal.returns-clause-value
returns-clause-value c =
    let d = c.args.self.now.plan.now in
    let k = said c.args.self.now.claim.now in
    let lent = map job_of c.as_slice.result.now in
    let jobs = map job_of c.args.self.now.occupied.items in
    let kinds = c.args.used.now.kinds.items in
    let of = c.args.used.now.of.now in
    let same_jobs = ap (λ (os : List Occupied). windows_on (map job_of os) c.as_slice-2.result.now) c.as_slice.ensures.value in
    let same_kinds = ap (windows_on jobs) c.as_slice-2.ensures.value in
    let planned_jobs = ap (λ (planned : List (Job Kind)). windows_on planned kinds) c.requires.case.jobs in
    let same = same_jobs ∙ same_kinds ∙ planned_jobs ∙ windows_are d k c.args.self.now.days kinds of c.requires.case.fit c.requires.case.due c.requires.in_use.kinds in
    IfOk-weaker c.windows_on.result
    (λ windows. windows.items ≡ windows_on lent c.as_slice-2.result.now)
    (λ windows. windows.items ≡ windows_of (as_plan d) (as_certificate k) of)
    (λ windows listed. listed ∙ same) c.windows_on.ensures.listed
