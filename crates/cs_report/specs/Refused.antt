-- The text of a refusal.
use Rattle.std.specs.Prelude.{ℕ, ◌+◌, ◌*◌, ◌-◌, ◌/◌, max, min, nat_lt, if◌then◌else◌, List, [], ◌∷◌, ◌++◌, codes, flat_map, slice_index_or}
use Rattle.std.specs.Fmt.{decimal}
use Rattle.cs_civil.specs.Calendar.{Kind, first_minute, last_minute}
use Rattle.cs_civil.specs.Text.{minute_text}
use Rattle.cs_plan.specs.Plan.{Declared, crons, no_group}
use Rattle.cs_windows.specs.declared.window.Window.{Window}
use Rattle.cs_theorem.specs.Faults.{Fault, ClassNotDue, Missing, BacklogRises, ReachTooShort, WindowMissing, Collision, OverCapacity, SkipBlocked}
use Rattle.cs_plan.specs.JobNames.{command_name, due_name, identifier_of}

-- `month M day D weekday W`
unfoldable pub kind_text : Kind → List ℕ
kind_text k = codes "month "
    ++ (decimal k.month
    ++ (codes " day " ++ (decimal k.dom ++ (codes " weekday " ++ decimal k.dow))))

-- with ` then ` between successive days
abbrev pub then_text : Kind → List ℕ
then_text k = codes " then " ++ kind_text k

unfoldable pub kinds_text : List Kind → List ℕ
kinds_text [] = []
kinds_text (k ∷ ks) = kind_text k ++ flat_map then_text ks

-- ` at YYYY-MM-DD HH:MM`
unfoldable pub at_text : ℕ → List ℕ
at_text at = codes " at " ++ minute_text at

-- the civil minute at which a window begins, seen from a minute of the day looked at
abbrev pub start_of : ℕ → Window → ℕ
start_of at w =
    min (max ((1440 * (at / 1440) + w.from) - 1440 * w.day_back) first_minute) last_minute

unfoldable pub from_name : Declared → ℕ → List ℕ
from_name d j = codes " of " ++ (identifier_of d j ++ codes " from ")

unfoldable pub catch_up_name : Declared → ℕ → List ℕ
catch_up_name d j = codes "catch-up" ++ from_name d j

-- `line N due ` or `catch-up of ID from `
abbrev pub window_name : Declared → ℕ → List ℕ
window_name d j = if nat_lt j (crons d) then due_name d j else catch_up_name d j

-- the window by its job and its first minute
unfoldable pub window_text : Declared → ℕ → Window → List ℕ
window_text d at w = window_name d w.job ++ minute_text (start_of at w)

abbrev pub group_name : Declared → ℕ → List ℕ
group_name d g = (slice_index_or d.groups g no_group).name

unfoldable pub both_text : Declared → ℕ → Window → Window → List ℕ
both_text d at one other = window_text d at one ++ (codes " and " ++ window_text d at other)

abbrev pub rule_text : Fault → List ℕ
rule_text (ClassNotDue kind) = codes "refused 1 ClassNotDue: "
rule_text (Missing kinds) = codes "refused 2 MissingPair: "
rule_text (BacklogRises group at) = codes "refused 3 BacklogRises: "
rule_text (ReachTooShort job) = codes "refused 4 ReachTooShort: "
rule_text (WindowMissing window at) = codes "refused 5 WindowMissing: "
rule_text (Collision at one other) = codes "refused 6 Collision: "
rule_text (OverCapacity at load) = codes "refused 7 OverCapacity: "
rule_text (SkipBlocked at skip other) = codes "refused 8 SkipBlocked: "

-- where a bound rises
unfoldable pub rise_text : Declared → ℕ → ℕ → List ℕ
rise_text d group at = codes "group " ++ (group_name d group ++ at_text at)

-- which window isn't listed, and where
unfoldable pub unlisted_text : Declared → Window → ℕ → List ℕ
unlisted_text d window at = window_text d at window ++ at_text at

-- which windows collide, and where
unfoldable pub collision_text : Declared → ℕ → Window → Window → List ℕ
collision_text d at one other = both_text d at one other ++ (codes " meet" ++ at_text at)

-- what is too much, and where
unfoldable pub overload_text : Declared → ℕ → ℕ → List ℕ
overload_text d at load = decimal load ++ (codes " of " ++ (decimal d.capacity ++ at_text at))

abbrev pub place_text : Declared → Fault → List ℕ
place_text d (ClassNotDue kind) = kind_text kind
place_text d (Missing kinds) = kinds_text kinds
place_text d (BacklogRises group at) = rise_text d group at
place_text d (ReachTooShort job) = command_name d job
place_text d (WindowMissing window at) = unlisted_text d window at
place_text d (Collision at one other) = collision_text d at one other
place_text d (OverCapacity at load) = overload_text d at load
place_text d (SkipBlocked at skip other) = both_text d at skip other

unfoldable pub fault_text : Declared → Fault → List ℕ
fault_text d fault = rule_text fault ++ place_text d fault
