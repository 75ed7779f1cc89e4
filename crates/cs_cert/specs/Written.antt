-- The JSON of a certificate as written: members in alphabetical order, lists as they are.
use Rattle.std.specs.Prelude.{ℕ, List, map, codes, if◌then◌else◌, ◌==◌}
use Rattle.serde_json.specs.Data.{Data, number, unsigned, string, array, item, no_items, object, member, no_members}
use Rattle.serde_json.specs.View.{items_of}
use Rattle.cs_wait.specs.Bounds.{at}
use Rattle.cs_wait.specs.declared.backlog.Piece.{Piece}
use Rattle.cs_windows.specs.declared.tree.Entry.{Entry}
use Rattle.cs_windows.specs.Tree as minute
use Rattle.cs_daytree.specs.Tree as day
use Rattle.cs_daytree.specs.declared.tree.KindPart.{KindPart}
use Rattle.cs_daytree.specs.declared.tree.KindPart.TheVariants.{Month, Day, Weekday}
use Rattle.cs_claims.specs.declared.class.Class.{Class}
use Rattle.cs_claims.specs.declared.class.DueList.{DueList}
use Rattle.cs_claims.specs.declared.class.GroupBacklog.{GroupBacklog}
use Rattle.cs_windows.specs.declared.reach.JobReach.{JobReach}
use Rattle.cs_claims.specs.Content.{Content, StretchTree}

abbrev pub number_data : ℕ → Data
number_data n = number (unsigned n)

abbrev pub list_data : {A : Type 0} → (A → Data) → List A → Data
list_data f xs = array (items_of (map f xs))

abbrev pub pair_data : Data → Data → Data
pair_data a b = array (item a (item b no_items))

abbrev pub triple_data : Data → Data → Data → Data
triple_data a b c = array (item a (item b (item c no_items)))

abbrev pub due_list_data : DueList → Data
due_list_data d = pair_data (number_data d.job) (list_data number_data d.minutes)

abbrev pub piece_data : Piece → Data
piece_data p = pair_data (number_data p.minute) (number_data p.value)

abbrev pub group_backlog_data : GroupBacklog → Data
group_backlog_data b = pair_data (number_data b.group) (list_data piece_data b.backlog)

abbrev pub class_data : Class → Data
class_data c = object (member (codes "backlog") (list_data group_backlog_data c.backlog)
    (member (codes "due") (list_data due_list_data c.due) no_members))

-- what is left over at midnight
abbrev pub carry_data : GroupBacklog → Data
carry_data b = pair_data (number_data b.group) (number_data (at b.backlog 0))

abbrev pub carry_class_data : Class → Data
carry_class_data c = object (member (codes "carry") (list_data carry_data c.backlog) no_members)

abbrev pub reach_data : JobReach → Data
reach_data r = pair_data (number_data r.job) (number_data r.reach)

abbrev pub entry_data : Entry → Data
entry_data e = triple_data (number_data e.job) (number_data e.day_back) (number_data e.from)

-- ---- trees

abbrev pub part_name : KindPart → List ℕ
part_name Month = codes "month"
part_name Day = codes "day"
part_name Weekday = codes "weekday"

abbrev pub day_tree_data : day.Tree → Data
day_tree_data (day.leaf class) = object (member (codes "class") (number_data class) no_members)
day_tree_data (day.split part values inside outside) =
    object (member (codes "in") (list_data number_data values)
    (member (codes "no") (day_tree_data outside)
    (member (codes "split") (string (part_name part))
    (member (codes "yes") (day_tree_data inside) no_members))))

abbrev pub minute_tree_data : minute.Tree → Data
minute_tree_data (minute.leaf entries) =
    object (member (codes "list") (list_data entry_data entries) no_members)
minute_tree_data (minute.split at before after) =
    object (member (codes "after") (minute_tree_data after)
    (member (codes "at") (number_data at)
    (member (codes "before") (minute_tree_data before) no_members)))

abbrev pub stretch_data : StretchTree → Data
stretch_data s = object (member (codes "of") (list_data number_data s.of)
    (member (codes "tree") (minute_tree_data s.tree) no_members))

-- ---- the whole

-- version 1 lists its stretches as `pairs`
abbrev pub first_version_data : Content → Data
first_version_data c =
    object (member (codes "classes") (list_data class_data c.classes)
    (member (codes "kinds") (day_tree_data c.kinds)
    (member (codes "pairs") (list_data stretch_data c.stretches)
    (member (codes "reach") (list_data reach_data c.reach)
    (member (codes "version") (number_data c.version) no_members)))))

-- version 2 lists them as `stretches`
abbrev pub second_version_data : Content → Data
second_version_data c =
    object (member (codes "classes") (list_data class_data c.classes)
    (member (codes "kinds") (day_tree_data c.kinds)
    (member (codes "reach") (list_data reach_data c.reach)
    (member (codes "stretches") (list_data stretch_data c.stretches)
    (member (codes "version") (number_data c.version) no_members)))))

-- version 3 has none, and its classes hold only what is left over at midnight
abbrev pub third_version_data : Content → Data
third_version_data c =
    object (member (codes "classes") (list_data carry_class_data c.classes)
    (member (codes "kinds") (day_tree_data c.kinds)
    (member (codes "reach") (list_data reach_data c.reach)
    (member (codes "version") (number_data c.version) no_members))))

abbrev pub listed_data : Content → Data
listed_data c = if c.version == 2 then second_version_data c else first_version_data c

abbrev pub certificate_data : Content → Data
certificate_data c = if c.version == 3 then third_version_data c else listed_data c
