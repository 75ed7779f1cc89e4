-- What is judged of a certificate, as the rules of acceptance see it.
use Rattle.std.specs.Prelude.{ℕ, ◌<◌, [], List, length, slice_index_or}
use Rattle.cs_civil.specs.Calendar.{Kind}
use Rattle.cs_daytree.specs.Tree as day
use Rattle.cs_claims.specs.declared.class.Class.{Class}
use Rattle.cs_claims.specs.Certificate.{bound_in, is_due_in}
use Rattle.cs_windows.specs.Reach.{reach_of}
use Rattle.cs_windows.specs.declared.reach.JobReach.{JobReach}
use Rattle.cs_theorem.specs.Certificate.{Certificate, Stretch}

-- classes are numbered from 0
pub record Claimed : Type 0 where
  pub classes : List Class
  pub kinds : day.Tree
  pub stretches : List Stretch
  pub reach : List JobReach

-- the number of the class of a kind of day
abbrev pub class_of : Claimed → Kind → ℕ
class_of c kind = day.class_in c.kinds kind

-- the class of each kind exists
abbrev pub HasClassOfEach : Claimed → Type 0
HasClassOfEach c = (kind : Kind) → class_of c kind < length c.classes

-- the class past the last: nothing is due, and nothing waits
abbrev pub no_class : Class
no_class = record { due = []; backlog = [] }

abbrev pub class_at : List Class → ℕ → Class
class_at classes number = slice_index_or classes number no_class

abbrev pub as_certificate : Claimed → Certificate
as_certificate c = record {
  class_of = class_of c;
  due = λ class job minute. is_due_in (class_at c.classes class) job minute;
  bound = λ class group minute. bound_in (class_at c.classes class) group minute;
  reach = reach_of c.reach;
  stretches = c.stretches;
}
