-- When runs of a crontab may go on, by the longest times of its jobs.
use Rattle.std.specs.Prelude.{◌≡◌, ℕ, ◌+◌, ◌/◌, ◌%◌, ◌<◌, ◌≤◌, Bool, true, false, List, Contains, None, Some}
use Rattle.cs_civil.specs.Calendar.{Kind, kind}
use Rattle.cs_zone.specs.Starts.{is_due}
use Rattle.cs_machine.specs.declared.setup.JobNote.{JobNote}

-- by the clock of the zone; a job of the anacrontab is never due
abbrev pub is_due_on : JobNote → Kind → ℕ → Bool
is_due_on note day minute =
    elim note.when [ Some schedule ↦ is_due note.zone schedule day minute | None ↦ false ]

abbrev pub is_due_at : JobNote → ℕ → Bool
is_due_at note t = is_due_on note (kind (t / 1440)) (t % 1440)

-- a run of one of these jobs may go on in this minute: it was due by then, less than its longest
-- time ago
pub record IsBusy (notes : List JobNote) (minute : ℕ) : Type 0 where
  pub note : JobNote
  pub inside : Contains notes note
  pub due : ℕ
  pub is_due : is_due_at note due ≡ true
  pub begun : due ≤ minute
  pub lasts : minute < due + note.max

-- a run of one of these jobs that was due before the minute `before` may go on until `over`
pub record Lasts (notes : List JobNote) (before over : ℕ) : Type 0 where
  pub note : JobNote
  pub inside : Contains notes note
  pub due : ℕ
  pub is_due : is_due_at note due ≡ true
  pub earlier : due < before
  pub lasts : over ≤ due + note.max

-- nothing is claimed where `over` is 0
abbrev pub IsOver : List JobNote → ℕ → ℕ → Type 0
IsOver notes before over = 0 < over → Lasts notes before over
