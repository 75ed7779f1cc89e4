use Rattle.std.specs.Prelude.{ℕ, Bool, true, false, ◌&&◌, not, List, nat_lt, length, filter, if◌then◌else◌}
use Rattle.std.specs.List.{list_all, range_with_len}
use Rattle.cs_daytree.specs.declared.tree.KindPart.{KindPart}
use Rattle.cs_daytree.specs.declared.tree.KindPart.TheVariants.{Month, Day, Weekday}
use Rattle.cs_daytree.specs.Rising.{rises}
use Rattle.cs_daytree.specs.Tree.{Tree, leaf, split, has}

-- the numbers that are possible for each part of a kind
pub record Numbers : Type 0 where
  pub months : List ℕ
  pub days : List ℕ
  pub weekdays : List ℕ

-- at the root: months 1 to 12, days of the month 1 to 31, weekdays 0 to 6
abbrev pub all_numbers : Numbers
all_numbers = record {
  months = range_with_len 1 12;
  days = range_with_len 1 31;
  weekdays = range_with_len 0 7;
}

abbrev pub numbers_of : KindPart → Numbers → List ℕ
numbers_of Month p = p.months
numbers_of Day p = p.days
numbers_of Weekday p = p.weekdays

abbrev pub with_numbers : KindPart → List ℕ → Numbers → Numbers
with_numbers Month numbers p = record p { months = numbers }
with_numbers Day numbers p = record p { days = numbers }
with_numbers Weekday numbers p = record p { weekdays = numbers }

-- of the numbers only those that are values, or only the others
unfoldable pub kept : List ℕ → Bool → List ℕ → List ℕ
kept values inside numbers =
    filter (λ number. if inside then has values number else not (has values number)) numbers

-- the numbers that one side of a split leaves
abbrev pub narrowed : KindPart → List ℕ → Bool → Numbers → Numbers
narrowed part values inside p = with_numbers part (kept values inside (numbers_of part p)) p

-- strictly rising, not empty, each possible, and not all that are
abbrev pub is_part_of : List ℕ → List ℕ → Bool
is_part_of values possible = rises values && nat_lt 0 (length values)
    && list_all (has possible) values && nat_lt (length values) (length possible)

-- each split's values are a part of what the splits above leave
unfoldable pub splits_fit : Numbers → Tree → Bool
splits_fit p (leaf class) = true
splits_fit p (split part values inside outside) =
    is_part_of values (numbers_of part p) && splits_fit (narrowed part values true p) inside
    && splits_fit (narrowed part values false p) outside
