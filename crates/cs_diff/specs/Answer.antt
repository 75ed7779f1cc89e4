-- What the status of `diff` means.
use Rattle.std.specs.Prelude.{◌≡◌, List, All, ◌||◌, Bool, true, false, if◌then◌else◌, [], ◌∷◌}
use Rattle.cs_plan.specs.Plan.{Declared}
use Rattle.cs_files.specs.Response.{Ending}
use Rattle.cs_diff.specs.declared.meeting.Meeting.{Meeting}
use Rattle.cs_diff.specs.declared.verdict.Verdict.{Verdict}
use Rattle.cs_diff.specs.Meeting.{IsMeeting}
use Rattle.cs_diff.specs.Verdict.{IsVerdict, is_worse}

abbrev pub are_some : List Meeting → Bool
are_some [] = false
are_some (m ∷ ms) = true

-- the verdicts on both plans, and pairs of jobs of the new one that meet
pub record IsDiff (old new : Declared) (ending : Ending) : Type 0 where
  pub before : Verdict
  pub after : Verdict
  pub meetings : List Meeting
  pub judged_before : IsVerdict old before
  pub judged_after : IsVerdict new after
  pub meet : All (IsMeeting new) meetings
  pub status : ending.status ≡ (if is_worse before after || are_some meetings then 1 else 0)
