-- What the word `safe` says of the files of a call.
use Rattle.std.specs.Prelude.{◌≡◌, ℕ, List, Option}
use Rattle.cs_plan.specs.Plan.{as_plan}
use Rattle.cs_check.specs.Case.{reach_for}
use Rattle.cs_check.specs.Checked.{IsCalmThroughout, IsHeadline, certificate_in, plan_in}
use Rattle.cs_check.specs.declared.checked.Checked.{Checked}
use Rattle.cs_claims.specs.Certificate.{content}
use Rattle.cs_args.specs.Asked.{AskedCheck}
use Rattle.cs_io.specs.Files.{Failed}
use Rattle.cs_report.specs.Warning.{plan_notes}
use Rattle.cs_ruling.specs.Check.{AnswersCheck, IsClaimed, IsVerdictOn, safe_text}
use Rattle.cs_ruling.specs.declared.check.Claimed.{Claimed}
use Rattle.cs_files.specs.Response.{Ending, done}

-- every legal history of its plan in which each run ends within its declared time is safe, and each
-- minute from 1970-01-04 on is calm
pub record IsSafe (checked : Checked) : Type 0 where
  pub headline : IsHeadline (as_plan (plan_in checked))
  pub calm : IsCalmThroughout (as_plan (plan_in checked))
      (reach_for (plan_in checked) (certificate_in checked))

-- the checker accepts the certificate that is claimed for the plan: the verdict is `safe`, and so
-- are they
pub record IsAccepted (x : Claimed) (checked : Checked) : Type 0 where
  pub plan : plan_in checked ≡ x.planned.plan
  pub certificate : certificate_in checked ≡ content x.certificate
  pub verdict : IsVerdictOn x (done safe_text (plan_notes (plan_in checked)))
  pub safe : IsSafe checked

-- the answer to what is claimed; the status is 0 only where the checker accepts it
pub record IsReplyOn (x : Claimed) (ending : Ending) : Type 0 where
  pub verdict : IsVerdictOn x ending
  pub safe : ending.status ≡ 0 → (checked : Checked) × IsAccepted x checked

-- the files denote a plan and a certificate that the checker accepts
pub record AreSafe (files : List ℕ → Option (List ℕ)) (a : AskedCheck) (w : List ℕ) (failed : Failed)
    : Type 0 where
  pub claimed : Claimed
  pub read : IsClaimed files a w failed claimed
  pub checked : Checked
  pub accepted : IsAccepted claimed checked

-- what `check` answers; its status is 0 only where the files denote a plan that is safe
pub record IsChecked (a : AskedCheck) (files : List ℕ → Option (List ℕ)) (w : List ℕ)
    (before failed : Failed) (ending : Ending) : Type 0 where
  pub answer : AnswersCheck a files w before failed ending
  pub safe : ending.status ≡ 0 → AreSafe files a w before
