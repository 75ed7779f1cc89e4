-- What those who use a certificate may rely on.
use Rattle.std.specs.Prelude.{◌≡◌, ℕ, ◌<◌, ◌≤◌, ◌⊎◌, length, true}
use Rattle.std.specs.List.{AllPass, All}
use Rattle.cs_civil.specs.Calendar.{Kind}
use Rattle.cs_daytree.specs.Tree.{class_in}
use Rattle.cs_windows.specs.Tree.{SplitsInside}
use Rattle.cs_claims.specs.Content.{Content, StretchTree}
use Rattle.cs_claims.specs.Rules.{class_fits, entries_fit, leaves_pass, most_classes, most_days, most_reach, reach_fits}

-- the stretch has two days or more, as the version allows, of classes that exist; its tree's splits
-- are inside their ranges, and its entries fit
pub record IsSound (version count : ℕ) (s : StretchTree) : Type 0 where
  pub days : (2 ≤ length s.of) × (length s.of ≤ most_days version)
  pub classes : All (λ class. class < count) s.of
  pub splits : SplitsInside s.tree 0 1_440
  pub entries : leaves_pass (entries_fit (most_days version)) s.tree ≡ true

pub record Keeps (c : Content) : Type 0 where
  pub version : (c.version ≡ 1) ⊎ ((c.version ≡ 2) ⊎ (c.version ≡ 3))
  pub count : (1 ≤ length c.classes) × (length c.classes ≤ most_classes c.version)
  pub class_of_kind : (kind : Kind) → class_in c.kinds kind < length c.classes
  pub classes : AllPass class_fits c.classes
  pub stretches : All (IsSound c.version (length c.classes)) c.stretches
  pub reach : reach_fits (most_reach c.version) c.reach ≡ true
