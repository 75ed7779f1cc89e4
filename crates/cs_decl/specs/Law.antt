-- Which fault of declarations is returned: the smallest number, and the first place with it.
use Rattle.std.specs.Prelude.{◌≡◌, List, [], ◌∷◌, ◌++◌, ℕ, zero, suc, ◌<◌, ◌≤◌, ◌⊎◌, Bool, true, false, not, ◌&&◌, ◌==◌, Option, Some, None, is_some, is_none, map, length, nat_lt, bytes_eq, if◌then◌else◌}
use Rattle.std.specs.List.{list_any}
use Rattle.cs_plan.specs.declared.limits.TheConstants.{MAX_CAPACITY, MAX_GROUPS}
use Rattle.cs_plan.specs.declared.fault.DeclFault.TheVariants as faults
use Rattle.cs_plan.specs.declared.fault.Place.{Place}
use Rattle.cs_plan.specs.declared.fault.Place.TheVariants.{Group, Cron, Anacron}
use Rattle.cs_decl.specs.declared.entries.Entries.{Entries}
use Rattle.cs_decl.specs.Faults.{is_within, same_number, is_bad_offset, is_bad_max, is_bad_weight, is_bad_default, needs_group, is_unlisted, are_bad_hours, is_bad_pass, has_bad_parts, clock_of, are_all_hours}
use Rattle.cs_plan.specs.Answers.{Fault}

-- the item at a place is there, and passes
abbrev pub passes_at : {A : Type 0} → (A → Bool) → List A → ℕ → Bool
passes_at p [] i = false
passes_at p (x ∷ xs) zero = p x
passes_at p (x ∷ xs) (suc i) = passes_at p xs i

-- the item at a place is there, and is like one before it or one of `before`
abbrev pub comes_again : {A : Type 0} → (A → A → Bool) → List A → List A → ℕ → Bool
comes_again same before [] i = false
comes_again same before (x ∷ xs) zero = list_any (same x) before
comes_again same before (x ∷ xs) (suc i) = comes_again same (before ++ x ∷ []) xs i

-- the order of the answers: by number, and for one number groups, cron, anacron, default
abbrev pub row : Fault → ℕ
row (faults.BadShape, None) = 0
row (faults.TwiceDeclared, Some (Group i)) = 1
row (faults.TwiceDeclared, Some (Cron i)) = 2
row (faults.TwiceDeclared, Some (Anacron i)) = 3
row (faults.BadMax, Some (Cron i)) = 4
row (faults.BadMax, Some (Anacron i)) = 5
row (faults.BadMax, None) = 6
row (faults.BadWeight, Some (Cron i)) = 7
row (faults.BadWeight, Some (Anacron i)) = 8
row (faults.BadWeight, None) = 9
row (faults.BadCapacity, None) = 10
row (faults.ModeNeedsGroup, Some (Cron i)) = 11
row (faults.UnknownGroup, Some (Cron i)) = 12
row (faults.UnknownGroup, Some (Anacron i)) = 13
row (faults.TooManyGroups, Some (Group i)) = 14
row (faults.BadHours, None) = 15
row (faults.ModeOnAnacron, Some (Anacron i)) = 16
row (faults.BadPassMinute, None) = 17
row (faults.BadParts, Some (Cron i)) = 18
row (faults.BadZone, None) = 19
row (faults.HoursInZone, None) = 20
row (faults.PassInZone, None) = 21
row _ = 22

abbrev pub place_index : Option Place → ℕ
place_index (Some (Group i)) = i
place_index (Some (Cron i)) = i
place_index (Some (Anacron i)) = i
place_index _ = 0

abbrev pub index : Fault → ℕ
index f = place_index f.1

-- the row's fault stands at a place
abbrev pub stands_at : Entries → ℕ → ℕ → Bool
stands_at d k i =
    if k == 0 then is_bad_offset d.offset
    else if k == 1 then comes_again bytes_eq [] (map (λ g. g.name) d.groups) i
    else if k == 2 then comes_again same_number [] (map (λ e. e.name.number) d.cron) i
    else if k == 3 then comes_again bytes_eq [] (map (λ e. e.identifier) d.anacron) i
    else if k == 4 then passes_at (λ e. is_bad_max e.max) d.cron i
    else if k == 5 then passes_at (λ e. is_bad_max e.max) d.anacron i
    else if k == 6 then is_bad_default (λ e. is_bad_max e.max) d.default
    else if k == 7 then passes_at (λ e. is_bad_weight e.weight) d.cron i
    else if k == 8 then passes_at (λ e. is_bad_weight e.weight) d.anacron i
    else if k == 9 then is_bad_default (λ e. is_bad_weight e.weight) d.default
    else if k == 10 then not (is_within 1 MAX_CAPACITY d.capacity)
    else if k == 11 then passes_at needs_group d.cron i
    else if k == 12 then passes_at (λ e. is_unlisted d.groups e.group) d.cron i
    else if k == 13 then passes_at (λ e. is_unlisted d.groups e.group) d.anacron i
    else if k == 14 then i == MAX_GROUPS && nat_lt MAX_GROUPS (length d.groups)
    else if k == 15 then are_bad_hours d.hours
    else if k == 16 then passes_at (λ e. e.has_mode) d.anacron i
    else if k == 17 then is_bad_pass d.pass
    else if k == 18 then passes_at has_bad_parts d.cron i
    else if k == 19 then is_some d.zone && is_none (clock_of d)
    else if k == 20 then is_some d.zone && not (are_all_hours d.hours)
    else if k == 21 then is_some d.zone && is_some d.pass
    else false

abbrev pub stands : Entries → Fault → Bool
stands d f = stands_at d (row f) (index f)

-- f comes no later than g
abbrev pub IsNoLater : Fault → Fault → Type 0
IsNoLater f g = (row f < row g) ⊎ ((row f ≡ row g) × (index f ≤ index g))

-- f stands, and no fault comes before it
abbrev pub IsFirst : Entries → Fault → Type 0
IsFirst d f = (stands d f ≡ true) × ((g : Fault) → stands d g ≡ true → IsNoLater f g)
