-- What a certificate stands for. Versions 1 and 2 list all. Version 3 says which kinds of days are
-- alike, what is left over at midnight, and the reaches; due minutes, the bounds of each day and
-- the stretches are worked out from the plan.
use Rattle.std.specs.Prelude.{ℕ, List, [], ◌∷◌, ◌++◌, Option, Some, None, if◌then◌else◌, ◌==◌, filter, find, flat_map, fold, length, map}
use Rattle.std.specs.List.{list_any}
use Rattle.cs_civil.specs.Calendar.{Kind}
use Rattle.cs_civil.specs.Order.{all_kinds}
use Rattle.cs_windows.specs.Windows.{day_minutes}
use Rattle.cs_wait.specs.Bounds.{following}
use Rattle.cs_history.specs.Lists.{below}
use Rattle.cs_windows.specs.declared.reach.JobReach.{JobReach}
use Rattle.cs_plan.specs.Plan.{Declared, as_plan, crons}
use Rattle.cs_claims.specs.Certificate.{bound_in, class_of}
use Rattle.cs_claims.specs.Content.{Content, StretchTree}
use Rattle.cs_claims.specs.declared.class.Class.{Class}
use Rattle.cs_claims.specs.declared.class.DueList.{DueList}
use Rattle.cs_claims.specs.declared.class.GroupBacklog.{GroupBacklog}
use Rattle.cs_theorem.specs.Certificate.{Stretch}
use Rattle.cs_theorem.specs.Faults.{chains, has_waiter, same_list, stretch_length}
use Rattle.cs_classes.specs.Claim.{Claimed, class_at}
use Rattle.cs_classes.specs.Planned.{due_on, reach_by}
use Rattle.cs_classes.specs.Work.{arrivals_in}

-- the first kind of day, in the order of all kinds, that has the class
abbrev pub first_kind : Content → ℕ → Option Kind
first_kind c class = find (λ kind. class_of c kind == class) all_kinds

-- the due minutes of a job, if there are any
abbrev pub due_list : ℕ → List ℕ → List DueList
due_list job [] = []
due_list job (m ∷ ms) = record { job = job; minutes = m ∷ ms } ∷ []

-- when each cron job is due on days of a kind (crontab(5)); without a kind nothing is
abbrev pub due_of : Declared → Option Kind → List DueList
due_of d None = []
due_of d (Some kind) =
    flat_map (λ j. due_list j (filter (due_on d j kind) day_minutes)) (below (crons d))

-- a day of that kind, without bounds
abbrev pub unbounded : Declared → Option Kind → Class
unbounded d kind = record { due = due_of d kind; backlog = [] }

-- the bound of a group on such a day: first what is left over from before, then as the arrivals
-- make it
abbrev pub bound_of : Declared → Class → ℕ → ℕ → GroupBacklog
bound_of d day carry g = record {
  group = g;
  backlog = following carry (map (arrivals_in (as_plan d) day g) day_minutes);
}

abbrev pub waited_groups : Declared → List ℕ
waited_groups d = filter (has_waiter (as_plan d)) (below (as_plan d).groups)

-- what a class stands for on days of a kind: the due minutes of the plan, and bounds that begin
-- with what the class has left over at midnight
abbrev pub worked_class : Declared → Option Kind → Class → Class
worked_class d kind class = record {
  due = due_of d kind;
  backlog = map (λ g. bound_of d (unbounded d kind) (bound_in class g 0) g) (waited_groups d);
}

-- what the class with this number stands for, on days of the first kind that has it
abbrev pub worked_of : Declared → Content → ℕ → Class
worked_of d c n = worked_class d (first_kind c n) (class_at c.classes n)

abbrev pub worked_classes : Declared → Content → List Class
worked_classes d c = map (worked_of d c) (below (length c.classes))

abbrev pub with_list : List (List ℕ) → List ℕ → List (List ℕ)
with_list lists classes =
    if list_any (λ list. same_list list classes) lists then lists else lists ++ classes ∷ []

-- each of the lists once, where it comes first
abbrev pub distinct : List (List ℕ) → List (List ℕ)
distinct lists = fold with_list [] lists

-- the classes that n successive days can have, in the order of the kinds that first have them
abbrev pub class_lists : Content → ℕ → List (List ℕ)
class_lists c n = distinct (map (map (class_of c)) (chains n))

-- a stretch that lists no windows
abbrev pub bare : List ℕ → Stretch
bare classes = record { of = classes; tree = None }

abbrev pub listed : StretchTree → Stretch
listed s = record { of = s.of; tree = Some s.tree }

-- what a certificate says itself
abbrev pub as_listed : Content → Claimed
as_listed c = record {
  classes = c.classes;
  kinds = c.kinds;
  stretches = map listed c.stretches;
  reach = c.reach;
}

-- the length of the stretches, which the plan and the reaches decide
abbrev pub days_by : Declared → List JobReach → ℕ
days_by d reach = stretch_length (as_plan d) (due_on d) (reach_by d reach)

abbrev pub days_for : Declared → Content → ℕ
days_for d c = days_by d c.reach

-- what the certificate stands for under the plan
abbrev pub claimed : Declared → Content → Claimed
claimed d c = record {
  classes = if c.version == 3 then worked_classes d c else c.classes;
  kinds = c.kinds;
  stretches = if c.version == 3 then map bare (class_lists c (days_for d c))
      else map listed c.stretches;
  reach = c.reach;
}
