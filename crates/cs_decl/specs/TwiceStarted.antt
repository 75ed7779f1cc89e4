-- Lines that cron(8) starts more than once in a minute, by the clock of a zone.
use Rattle.std.specs.Prelude.{◌≡◌, ◌≤◌, ◌<◌, ℕ, List, [], ◌∷◌, Option, Bool, false, nat_lt}
use Rattle.std.specs.List.{find, list_any, range_with_len}
use Rattle.cs_civil.specs.Calendar.{Kind, IsKind}
use Rattle.cs_civil.specs.Order.{all_kinds}
use Rattle.cs_civil.specs.declared.minute.TheConstants.{MINUTES_OF_DAY}
use Rattle.cs_schedule.specs.Times.{Times}
use Rattle.cs_crontab.specs.Crontab.{CommandLine}
use Rattle.cs_crontab.specs.declared.table.When.{When}
use Rattle.cs_crontab.specs.declared.table.When.TheVariants.{At, Reboot}
use Rattle.cs_zone.specs.Starts.{starts_on}
use Rattle.cs_zone.specs.Zone.{Zone}
use Rattle.cs_plan.specs.Answers.{Fault}
use Rattle.cs_plan.specs.Reboot.{at_line}
use Rattle.cs_plan.specs.declared.fault.DeclFault.TheVariants as faults
use Rattle.cs_decl.specs.declared.forward.Start.{Start}

-- more than once in some minute of a day of this kind
unfoldable pub is_twice_on : Zone → Times → Kind → Bool
is_twice_on z s k =
    list_any (λ minute. nat_lt 1 (starts_on z s k minute)) (range_with_len 0 MINUTES_OF_DAY)

-- on some day
unfoldable pub is_twice : Zone → Times → Bool
is_twice z s = list_any (is_twice_on z s) all_kinds

abbrev pub starts_twice : Zone → When → Bool
starts_twice z (At s) = is_twice z s
starts_twice z Reboot = false

-- the first such line
unfoldable pub twice_started : Zone → List CommandLine → List (Option Fault)
twice_started z lines =
    at_line faults.StartsTwice (find (λ line. starts_twice z line.when) lines) ∷ []

-- in each minute of each day at most once
abbrev pub StartsOnce : Zone → When → Type 0
StartsOnce z (At s) =
    (k : Kind) (minute : ℕ) → IsKind k → minute < MINUTES_OF_DAY → starts_on z s k minute ≤ 1
StartsOnce z Reboot = Unit {0}

-- ---- the same by the minutes in which clocks have just gone forward

abbrev pub is_twice_at : Zone → Times → Start → Bool
is_twice_at z s start = nat_lt 1 (starts_on z s start.kind start.minute)

-- what starts more than once does so in one of these minutes
abbrev pub AreAll : Zone → List Start → Type 0
AreAll z some = (s : Times) → list_any (is_twice_at z s) some ≡ is_twice z s

abbrev pub starts_twice_at : Zone → List Start → When → Bool
starts_twice_at z some (At s) = list_any (is_twice_at z s) some
starts_twice_at z some Reboot = false
