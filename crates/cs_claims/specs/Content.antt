use Rattle.std.specs.Prelude.{ℕ, List, map}
use Rattle.cs_daytree.specs.Tree as day
use Rattle.cs_windows.specs.Tree as minute
use Rattle.cs_claims.specs.declared.class.Class.{Class}
use Rattle.cs_claims.specs.declared.stretch.Stretch.{Stretch}
use Rattle.cs_windows.specs.declared.reach.JobReach.{JobReach}
use Rattle.cs_claims.specs.declared.parts.Parts.{Parts}

-- the classes of successive days, eldest first, and the minute tree of the last of them
pub record StretchTree : Type 0 where
  pub of : List ℕ
  pub tree : minute.Tree

pub record Content : Type 0 where
  pub version : ℕ
  pub classes : List Class
  pub kinds : day.Tree
  pub stretches : List StretchTree
  pub reach : List JobReach

-- a stretch by its value, wherever its parts lie in memory
abbrev pub stretch_of : Stretch → StretchTree
stretch_of s = record { of = s.of; tree = minute.tree_of s.tree }

abbrev pub content_of : Parts → Content
content_of p = record {
  version = p.version;
  classes = p.classes;
  kinds = day.tree_of p.kinds;
  stretches = map stretch_of p.stretches;
  reach = p.reach;
}
