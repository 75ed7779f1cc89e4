-- Whether the classes of a certificate have the due minutes of the cron jobs, whatever the day.
use Rattle.std.specs.Prelude.{◌≡◌, ◌<◌, ℕ, Bool, false, List, [], filter, length, slice_index_or, nat_lt, ◌&&◌, ⊤}
use Rattle.std.specs.List.{list_all}
use Rattle.cs_crontab.specs.declared.table.When.{When}
use Rattle.cs_crontab.specs.declared.table.When.TheVariants.{At, Reboot}
use Rattle.cs_schedule.specs.Numbers.{has}
use Rattle.cs_zone.specs.Shape.{is_due_in as is_shape_due}
use Rattle.cs_zone.specs.Zone.{Zone}
use Rattle.cs_zone.specs.declared.shape.Shape.{Shape}
use Rattle.cs_zone.specs.declared.shape.Shape.TheVariants.{Never, Plain, Same, Other, Both, Jump}
use Rattle.cs_windows.specs.Windows.{day_minutes}
use Rattle.cs_theorem.specs.Faults.{same_bool}
use Rattle.cs_plan.specs.Plan.{Declared, command_of, crons}
use Rattle.cs_claims.specs.Certificate.{is_due_in}
use Rattle.cs_claims.specs.declared.class.Class.{Class}
use Rattle.cs_classes.specs.Claim.{Claimed, class_at}
use Rattle.cs_classes.specs.declared.likeness.Likeness.{Likeness}
use Rattle.cs_classes.specs.declared.likeness.Times.{Times}

-- whether a command is due at a minute of the days of a shape
abbrev pub is_due_by : Zone → When → Shape → ℕ → Bool
is_due_by zone (At schedule) shape minute = is_shape_due zone schedule shape minute
is_due_by zone Reboot shape minute = false

-- the wall of the zone shows another clock in a part of the year
abbrev pub shifts : Zone → Bool
shifts zone = nat_lt 0 zone.saving

-- Classes are compared with the minutes of the days of these shapes: without summer time of only
-- two, and not of days with a jump near.
abbrev pub IsCompared : Zone → Shape → Type 0
IsCompared zone Never = ⊤
IsCompared zone Plain = ⊤
IsCompared zone Same = 0 < zone.saving
IsCompared zone Other = 0 < zone.saving
IsCompared zone Both = 0 < zone.saving
IsCompared zone Jump = ⊥

-- the minutes of the days of a shape
abbrev pub times_in : Times → Shape → List ℕ
times_in times Never = []
times_in times Plain = times.plain
times_in times Same = times.same
times_in times Other = times.other
times_in times Both = times.both
times_in times Jump = []

-- whether the class has just those
abbrev pub likeness_in : Likeness → Shape → Bool
likeness_in likeness Never = likeness.never
likeness_in likeness Plain = likeness.plain
likeness_in likeness Same = likeness.same
likeness_in likeness Other = likeness.other
likeness_in likeness Both = likeness.both
likeness_in likeness Jump = false

-- whether two tests pass the same minutes of a day
abbrev pub has_just : (ℕ → Bool) → (ℕ → Bool) → Bool
has_just due test = list_all (λ m. same_bool (due m) (test m)) day_minutes

-- what a class is to a job
abbrev pub likeness_by : (ℕ → Bool) → Times → Likeness
likeness_by due times = record {
  never = has_just due (λ m. false);
  plain = has_just due (has times.plain);
  same = times.shifts && has_just due (has times.same);
  other = times.shifts && has_just due (has times.other);
  both = times.shifts && has_just due (has times.both);
}

-- the same by the command of the job, for each shape that is compared
abbrev pub IsLikeness : Zone → When → (ℕ → Bool) → Likeness → Type 0
IsLikeness zone when due likeness = (shape : Shape) → IsCompared zone shape
    → likeness_in likeness shape ≡ has_just due (is_due_by zone when shape)

-- past the last job there are no minutes, and nothing is known
abbrev pub no_times : Times
no_times = record { shifts = false; plain = []; same = []; other = []; both = [] }

abbrev pub no_likeness : Likeness
no_likeness = record { never = false; plain = false; same = false; other = false; both = false }

abbrev pub likeness_at : List Likeness → ℕ → Likeness
likeness_at row n = slice_index_or row n no_likeness

-- the minutes at which a command is due on the days of each shape that is compared
pub record AreTimesOf (zone : Zone) (when : When) (times : Times) : Type 0 where
  pub shifted : times.shifts ≡ shifts zone
  pub each : (shape : Shape) → IsCompared zone shape → (m : ℕ) → m < 1440
      → has (times_in times shape) m ≡ is_due_by zone when shape m

-- the same for each cron job, by number
pub record AreTimes (d : Declared) (times : List Times) : Type 0 where
  pub long : length times ≡ crons d
  pub each : (j : ℕ) → j < crons d
      → AreTimesOf d.zone (command_of d j).when (slice_index_or times j no_times)

-- a list for each cron job, by number: its minutes on plain days
pub record ArePlain (d : Declared) (lists : List (List ℕ)) : Type 0 where
  pub long : length lists ≡ crons d
  pub each : (j : ℕ) → j < crons d → slice_index_or lists j []
      ≡ filter (is_due_by d.zone (command_of d j).when Plain) day_minutes

pub record IsRow (d : Declared) (class : Class) (row : List Likeness) : Type 0 where
  pub long : length row ≡ crons d
  pub each : (j : ℕ) → j < crons d
      → IsLikeness d.zone (command_of d j).when (is_due_in class j) (likeness_at row j)

pub record AreLikenesses (d : Declared) (c : Claimed) (rows : List (List Likeness)) : Type 0 where
  pub long : length rows ≡ length c.classes
  pub each : (n : ℕ) → n < length c.classes
      → IsRow d (class_at c.classes n) (slice_index_or rows n [])
