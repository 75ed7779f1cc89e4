-- What every certificate keeps, and the fault of what doesn't.
use Rattle.std.specs.Prelude.{ℕ, ◌+◌, ◌==◌, Bool, true, not, ◌&&◌, ◌||◌, List, [], ◌∷◌, length, max, nat_eq, nat_lt, nat_le, if◌then◌else◌, Option, Some, None, Result, Ok, Err}
use Rattle.std.specs.List.{list_all}
use Rattle.std.specs.Ordering.{nat_cmp, is_lt}
use Rattle.std.specs.Cmp.Lexicographic.{slice_cmp}
use Rattle.cs_daytree.specs.Tree as day
use Rattle.cs_daytree.specs.Possible.{all_numbers, splits_fit}
use Rattle.cs_daytree.specs.Rising.{each_next, rises}
use Rattle.cs_windows.specs.Tree.{Tree, leaf, split}
use Rattle.cs_windows.specs.declared.tree.Entry.{Entry}
use Rattle.cs_wait.specs.declared.backlog.Piece.{Piece}
use Rattle.cs_claims.specs.declared.class.Class.{Class}
use Rattle.cs_claims.specs.declared.class.DueList.{DueList}
use Rattle.cs_claims.specs.declared.class.GroupBacklog.{GroupBacklog}
use Rattle.cs_windows.specs.declared.reach.JobReach.{JobReach}
use Rattle.cs_claims.specs.declared.fault.CertFault.{CertFault}
use Rattle.cs_claims.specs.declared.fault.CertFault.TheVariants.{BadVersion, BadShape, TooDeep, BadSplit, BadClass, BadEntry, TooManyClasses, LeafTooLong}
use Rattle.cs_claims.specs.Content.{Content, StretchTree}

-- ---- versions

abbrev pub is_version : ℕ → Bool
is_version version = version == 1 || (version == 2 || version == 3)

-- the most days of a stretch; it has at least two, so that version 3 has no stretch; windows begin
-- fewer days back
abbrev pub most_days : ℕ → ℕ
most_days version = if version == 1 then 2 else (if version == 2 then 4 else 0)

-- the greatest reach, in minutes
abbrev pub most_reach : ℕ → ℕ
most_reach version = if version == 1 then 1440 else 4320

-- the most classes: version 3 may have one for each kind of day
abbrev pub most_classes : ℕ → ℕ
most_classes version = if version == 3 then 2_562 else 512

-- ---- minute trees

-- a leaf has depth 0, a split one more than its deeper half
abbrev pub depth : Tree → ℕ
depth (leaf entries) = 0
depth (split at before after) = max (depth before) (depth after) + 1

-- over [lo, hi), each split is inside its range
abbrev pub splits_inside : Tree → ℕ → ℕ → Bool
splits_inside (leaf entries) lo hi = true
splits_inside (split at before after) lo hi =
    nat_lt lo at && nat_lt at hi && splits_inside before lo at && splits_inside after at hi

-- each leaf's entries pass the test
abbrev pub leaves_pass : (List Entry → Bool) → Tree → Bool
leaves_pass test (leaf entries) = test entries
leaves_pass test (split at before after) = leaves_pass test before && leaves_pass test after

-- a job, a number of days back and a minute of the day, all in range
abbrev pub entry_fits : ℕ → Entry → Bool
entry_fits days e = nat_lt e.job 320 && nat_lt e.day_back days && nat_lt e.from 1_440

abbrev pub entries_fit : ℕ → List Entry → Bool
entries_fit days entries = list_all (entry_fits days) entries

abbrev pub is_short : List Entry → Bool
is_short entries = nat_le (length entries) 4_096

-- ---- lists

-- minutes of the day of a job, rising, at least one
abbrev pub due_list_fits : DueList → Bool
due_list_fits d = nat_lt d.job 320 && nat_lt 0 (length d.minutes) && rises d.minutes
    && list_all (λ minute. nat_lt minute 1_440) d.minutes

-- jobs rising
abbrev pub due_fits : List DueList → Bool
due_fits due = each_next (λ a b. nat_lt a.job b.job) due && list_all due_list_fits due

-- from this minute on, minutes rise strictly below 1,440, and values are from 1 to 1,000,000
abbrev pub is_backlog_from : ℕ → List Piece → Bool
is_backlog_from least [] = true
is_backlog_from least (p ∷ ps) =
    nat_le least p.minute && nat_lt p.minute 1_440 && nat_le 1 p.value && nat_le p.value 1_000_000
    && is_backlog_from (p.minute + 1) ps

abbrev pub group_backlog_fits : GroupBacklog → Bool
group_backlog_fits b = nat_lt b.group 64 && is_backlog_from 0 b.backlog

-- groups rising
abbrev pub backlog_fits : List GroupBacklog → Bool
backlog_fits backlog =
    each_next (λ a b. nat_lt a.group b.group) backlog && list_all group_backlog_fits backlog

abbrev pub class_fits : Class → Bool
class_fits c = due_fits c.due && backlog_fits c.backlog

-- ---- what is carried over midnight

-- a bound without a piece after minute 0
abbrev pub is_at_midnight : GroupBacklog → Bool
is_at_midnight b = list_all (λ p. nat_eq p.minute 0) b.backlog

abbrev pub is_carries : Class → Bool
is_carries c = nat_eq (length c.due) 0 && list_all is_at_midnight c.backlog

-- something is left over for each group that is listed
abbrev pub has_carry : GroupBacklog → Bool
has_carry b = nat_lt 0 (length b.backlog)

abbrev pub has_carries : Class → Bool
has_carries c = list_all has_carry c.backlog

-- ---- reaches and stretches

-- jobs rising, each reach from 1 to the greatest
abbrev pub reach_fits : ℕ → List JobReach → Bool
reach_fits most reach =
    each_next (λ a b. nat_lt a.job b.job) reach
    && list_all (λ r. nat_lt r.job 320 && nat_lt 0 r.reach && nat_le r.reach most) reach

-- by length, then in order
abbrev pub comes_before : List ℕ → List ℕ → Bool
comes_before a b =
    nat_lt (length a) (length b) || (nat_eq (length a) (length b) && is_lt (slice_cmp nat_cmp a b))

-- ---- the whole

-- each stretch has as many days as the version allows
abbrev pub has_days : ℕ → StretchTree → Bool
has_days most s = nat_le 2 (length s.of) && nat_le (length s.of) most

abbrev pub lengths_fit : Content → Bool
lengths_fit c = list_all (has_days (most_days c.version)) c.stretches

-- each class of version 3 has only what is left over at midnight
abbrev pub classes_shaped : Content → Bool
classes_shaped c = not (c.version == 3) || list_all is_carries c.classes

abbrev pub shapes_fit : Content → Bool
shapes_fit c = lengths_fit c && classes_shaped c

-- no tree is deeper than 24
abbrev pub is_shallow : StretchTree → Bool
is_shallow s = nat_le (depth s.tree) 24

abbrev pub trees_shallow : Content → Bool
trees_shallow c = nat_le (day.depth c.kinds) 24 && list_all is_shallow c.stretches

-- each split of the day tree is possible, and each of a minute tree is inside its range
abbrev pub is_split_well : StretchTree → Bool
is_split_well s = splits_inside s.tree 0 1_440

abbrev pub trees_split_well : Content → Bool
trees_split_well c = splits_fit all_numbers c.kinds && list_all is_split_well c.stretches

-- each class that is named exists, and the stretches rise strictly
abbrev pub is_of_classes : ℕ → StretchTree → Bool
is_of_classes count s = list_all (λ class. nat_lt class count) s.of

abbrev pub classes_there : Content → Bool
classes_there c =
    nat_lt (day.greatest_class c.kinds) (length c.classes)
    && list_all (is_of_classes (length c.classes)) c.stretches
    && each_next (λ s t. comes_before s.of t.of) c.stretches

-- each list and entry keeps its rules
abbrev pub has_entries : ℕ → StretchTree → Bool
has_entries days s = leaves_pass (entries_fit days) s.tree

abbrev pub carries_fit : Content → Bool
carries_fit c = not (c.version == 3) || list_all has_carries c.classes

abbrev pub lists_fit : Content → Bool
lists_fit c =
    reach_fits (most_reach c.version) c.reach && list_all class_fits c.classes
    && list_all (has_entries (most_days c.version)) c.stretches
    && carries_fit c

-- no leaf has more than 4,096 entries
abbrev pub has_short_leaves : StretchTree → Bool
has_short_leaves s = leaves_pass is_short s.tree

abbrev pub leaves_short : Content → Bool
leaves_short c = list_all has_short_leaves c.stretches

-- ---- faults

abbrev pub unless : Bool → CertFault → Option CertFault
unless holds fault = if holds then None else Some fault

abbrev pub first_fault : List (Option CertFault) → Option CertFault
first_fault [] = None
first_fault (Some fault ∷ rest) = Some fault
first_fault (None ∷ rest) = first_fault rest

-- in order of their numbers
abbrev pub faults_of : Content → List (Option CertFault)
faults_of c =
    unless (is_version c.version) BadVersion
    ∷ unless (shapes_fit c) BadShape
    ∷ unless (trees_shallow c) TooDeep
    ∷ unless (trees_split_well c) BadSplit
    ∷ unless (classes_there c) BadClass
    ∷ unless (lists_fit c) BadEntry
    ∷ unless (nat_le (length c.classes) (most_classes c.version)) TooManyClasses
    ∷ unless (leaves_short c) LeafTooLong
    ∷ []

unfoldable pub fault_of : Content → Option CertFault
fault_of c = first_fault (faults_of c)

abbrev pub or_fault : Content → Option CertFault → Result Content CertFault
or_fault c None = Ok c
or_fault c (Some fault) = Err fault

abbrev pub judged : Content → Result Content CertFault
judged c = or_fault c (fault_of c)
