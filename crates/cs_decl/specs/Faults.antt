-- What is wrong with declarations: a table of faults, in the order of the answers.
use Rattle.std.specs.Prelude.{List, [], ◌∷◌, ◌++◌, ℕ, ◌+◌, ℤ, pos, Option, None, Some, option_map, option_and_then, if◌then◌else◌, Bool, false, not, ◌&&◌, bytes_eq, map, length, nat_lt, unsigned_abs, int_lt, int_le, is_none, is_some, sum_by, position, ◌||◌, ◌==◌}
use Rattle.std.specs.Ordering.{int_eq}
use Rattle.std.specs.List.{list_any}
use Rattle.cs_history.specs.Plan.{takes}
use Rattle.cs_civil.specs.declared.minute.TheConstants.{MINUTES_OF_DAY}
use Rattle.cs_rule.specs.Clocks.{clock_in}
use Rattle.cs_rule.specs.Rule.{Clock}
use Rattle.cs_plan.specs.declared.limits.TheConstants.{MAX_MINUTES, MAX_WEIGHT, MAX_CAPACITY, MAX_GROUPS, MAX_OFFSET}
use Rattle.cs_plan.specs.declared.fault.DeclFault.{DeclFault}
use Rattle.cs_plan.specs.declared.fault.DeclFault.TheVariants as faults
use Rattle.cs_plan.specs.declared.fault.Place.TheVariants.{Group, Cron, Anacron, LeftOut}
use Rattle.cs_decl.specs.declared.entries.GroupEntry.{GroupEntry}
use Rattle.cs_decl.specs.declared.entries.CronEntry.{CronEntry}
use Rattle.cs_decl.specs.declared.entries.DefaultEntry.{DefaultEntry}
use Rattle.cs_decl.specs.declared.entries.PartEntry.{PartEntry}
use Rattle.cs_decl.specs.declared.entries.Entries.{Entries}
use Rattle.cs_plan.specs.Answers.{Fault}

-- ---- tests of one item

abbrev pub is_within : ℕ → ℕ → ℤ → Bool
is_within low high z = int_le (pos low) z && int_le z (pos high)

-- the first that is among those before it: `before`, and the items of the list up to it
abbrev pub first_again : {A : Type 0} → (A → A → Bool) → List A → ℕ → List A → Option ℕ
first_again same before i [] = None
first_again same before i (x ∷ xs) =
    if list_any (same x) before then Some i else first_again same (before ++ x ∷ []) (i + 1) xs

-- the place of the first that an earlier one is like
abbrev pub first_twice : {A : Type 0} → (A → A → Bool) → List A → Option ℕ
first_twice same xs = first_again same [] 0 xs

-- two numbers, equal; what is absent is like nothing
abbrev pub same_number : Option ℤ → Option ℤ → Bool
same_number (Some a) (Some b) = int_eq a b
same_number (Some a) None = false
same_number None b = false

-- an offset of a day or more, either way
abbrev pub is_bad_offset : ℤ → Bool
is_bad_offset offset = nat_lt MAX_OFFSET (unsigned_abs offset)

abbrev pub is_bad_max : ℤ → Bool
is_bad_max max = not (is_within 1 MAX_MINUTES max)

abbrev pub is_bad_weight : ℤ → Bool
is_bad_weight weight = not (is_within 1 MAX_WEIGHT weight)

abbrev pub is_bad_default : (DefaultEntry → Bool) → Option DefaultEntry → Bool
is_bad_default bad None = false
is_bad_default bad (Some e) = bad e

-- a job that takes a lock, and has no group
abbrev pub needs_group : CronEntry → Bool
needs_group e = takes e.mode && is_none e.group

-- a group that isn't declared
abbrev pub is_unlisted : List GroupEntry → Option (List ℕ) → Bool
is_unlisted groups None = false
is_unlisted groups (Some name) = not (list_any (λ g. bytes_eq name g.name) groups)

-- not two minutes of one day in order, the second up to 1,440
abbrev pub are_bad_hours : ℤ × ℤ → Bool
are_bad_hours h = not (int_le (pos 0) h.0 && int_lt h.0 h.1 && int_le h.1 (pos MINUTES_OF_DAY))

-- parts run one after the other: their longest times, added up
abbrev pub minutes_of : List PartEntry → ℕ
minutes_of parts = sum_by (λ p. unsigned_abs p.max) parts

-- two of one name, one with a longest time out of range, or together more than the entry's
abbrev pub are_bad : ℤ → List PartEntry → Bool
are_bad max parts = is_some (first_twice bytes_eq (map (λ p. p.name) parts))
    || list_any (λ p. is_bad_max p.max) parts
    || not (int_le (pos (minutes_of parts)) max)

abbrev pub has_bad_parts : CronEntry → Bool
has_bad_parts e = not (length e.parts == 0) && are_bad e.max e.parts

-- not a minute of the day
abbrev pub is_bad_pass : Option ℤ → Bool
is_bad_pass None = false
is_bad_pass (Some minute) = not (int_le (pos 0) minute && int_lt minute (pos MINUTES_OF_DAY))

-- the clock of the zone, if there is one and its rule is of this profile
abbrev pub clock_of : Entries → Option Clock
clock_of d = option_and_then clock_in d.zone

-- all hours are catch-up hours
abbrev pub are_all_hours : ℤ × ℤ → Bool
are_all_hours h = int_eq h.0 (pos 0) && int_eq h.1 (pos MINUTES_OF_DAY)

-- the place of the first group above the limit
abbrev pub one_too_many : List GroupEntry → Option ℕ
one_too_many groups = if nat_lt MAX_GROUPS (length groups) then Some MAX_GROUPS else None

-- ---- the table

abbrev pub at_group : DeclFault → Option ℕ → Option Fault
at_group fault i = option_map (λ k. (fault, Some (Group k))) i

abbrev pub at_cron : DeclFault → Option ℕ → Option Fault
at_cron fault i = option_map (λ k. (fault, Some (Cron k))) i

abbrev pub at_anacron : DeclFault → Option ℕ → Option Fault
at_anacron fault i = option_map (λ k. (fault, Some (Anacron k))) i

abbrev pub at_left_out : DeclFault → Option ℕ → Option Fault
at_left_out fault i = option_map (λ k. (fault, Some (LeftOut k))) i

-- a fault without a place
abbrev pub where_true : DeclFault → Bool → Option Fault
where_true fault b = if b then Some (fault, None) else None

unfoldable pub twice_declared : Entries → List (Option Fault)
twice_declared d =
    at_group faults.TwiceDeclared (first_twice bytes_eq (map (λ g. g.name) d.groups))
    ∷ at_cron faults.TwiceDeclared (first_twice same_number (map (λ e. e.name.number) d.cron))
    ∷ at_anacron faults.TwiceDeclared (first_twice bytes_eq (map (λ e. e.identifier) d.anacron))
    ∷ []

-- numbers out of their ranges
unfoldable pub bad_numbers : Entries → List (Option Fault)
bad_numbers d =
    at_cron faults.BadMax (position (λ e. is_bad_max e.max) d.cron)
    ∷ at_anacron faults.BadMax (position (λ e. is_bad_max e.max) d.anacron)
    ∷ where_true faults.BadMax (is_bad_default (λ e. is_bad_max e.max) d.default)
    ∷ at_cron faults.BadWeight (position (λ e. is_bad_weight e.weight) d.cron)
    ∷ at_anacron faults.BadWeight (position (λ e. is_bad_weight e.weight) d.anacron)
    ∷ where_true faults.BadWeight (is_bad_default (λ e. is_bad_weight e.weight) d.default)
    ∷ where_true faults.BadCapacity (not (is_within 1 MAX_CAPACITY d.capacity))
    ∷ []

unfoldable pub bad_groups : Entries → List (Option Fault)
bad_groups d =
    at_cron faults.ModeNeedsGroup (position needs_group d.cron)
    ∷ at_cron faults.UnknownGroup (position (λ e. is_unlisted d.groups e.group) d.cron)
    ∷ at_anacron faults.UnknownGroup (position (λ e. is_unlisted d.groups e.group) d.anacron)
    ∷ at_group faults.TooManyGroups (one_too_many d.groups)
    ∷ []

unfoldable pub bad_times : Entries → List (Option Fault)
bad_times d =
    where_true faults.BadHours (are_bad_hours d.hours)
    ∷ at_anacron faults.ModeOnAnacron (position (λ e. e.has_mode) d.anacron)
    ∷ where_true faults.BadPassMinute (is_bad_pass d.pass)
    ∷ []

abbrev pub bad_parts : Entries → List (Option Fault)
bad_parts d = at_cron faults.BadParts (position has_bad_parts d.cron) ∷ []

-- the rule of the zone, and what may not stand beside a zone
unfoldable pub bad_zone : Entries → List (Option Fault)
bad_zone d =
    where_true faults.BadZone (is_some d.zone && is_none (clock_of d))
    ∷ where_true faults.HoursInZone (is_some d.zone && not (are_all_hours d.hours))
    ∷ where_true faults.PassInZone (is_some d.zone && is_some d.pass)
    ∷ []

-- all of them: by number, and for one number in the order groups, cron, anacron, default
abbrev pub faults_of : Entries → List (Option Fault)
faults_of d = where_true faults.BadShape (is_bad_offset d.offset)
    ∷ (twice_declared d
    ++ (bad_numbers d ++ (bad_groups d ++ (bad_times d ++ (bad_parts d ++ bad_zone d)))))

abbrev pub first_fault : List (Option Fault) → Option Fault
first_fault [] = None
first_fault (Some f ∷ fs) = Some f
first_fault (None ∷ fs) = first_fault fs
