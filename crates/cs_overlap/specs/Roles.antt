use Rattle.std.specs.Prelude.{◌≡◌, ℕ, ◌+◌, max, Bool, false, not, ◌&&◌, ◌||◌, List, None, Some, if◌then◌else◌, get_or}
use Rattle.cs_history.specs.declared.mode.Mode.TheVariants.{Plain}
use Rattle.cs_history.specs.Lists.{total, greatest, below}
use Rattle.cs_history.specs.Plan.{Plan, is_cron, exclusive_group, takes, shares_in, is_group}
use Rattle.cs_windows.specs.declared.window.Window.{Window}
use Rattle.cs_overlap.specs.declared.role.Role.{Role}

abbrev pub role_of : Plan → ℕ → Role
role_of p j = record {
  is_cron = is_cron p j;
  mode = p.mode j;
  weight = p.weight j;
  group = p.group j;
  is_exclusive = exclusive_group p (p.group j);
}

-- the role of a job past the last
abbrev pub nobody : Role
nobody = record { is_cron = false; mode = Plain; weight = 1; group = None; is_exclusive = false }

abbrev pub role_at : List Role → ℕ → Role
role_at roles j = get_or roles j nobody

abbrev pub AreRoles : Plan → List Role → Type 0
AreRoles p roles = (j : ℕ) → role_at roles j ≡ role_of p j

-- the weight of a window of a cron job that takes no lock, else 0
abbrev pub free_weight : List Role → Window → ℕ
free_weight roles w = if (role_at roles w.job).is_cron && not (takes (role_at roles w.job).mode)
    then (role_at roles w.job).weight else 0

-- of one that takes the lock of group g for itself
abbrev pub alone_weight : List Role → ℕ → Window → ℕ
alone_weight roles g w = if (takes (role_at roles w.job).mode
    && is_group g (role_at roles w.job).group) && not (shares_in (role_at roles w.job).mode)
    then (role_at roles w.job).weight else 0

-- of one that shares it
abbrev pub shared_weight : List Role → ℕ → Window → ℕ
shared_weight roles g w = if (takes (role_at roles w.job).mode
    && is_group g (role_at roles w.job).group) && shares_in (role_at roles w.job).mode
    then (role_at roles w.job).weight else 0

-- of a catch-up window
abbrev pub catch_weight : List Role → Window → ℕ
catch_weight roles w = if not (role_at roles w.job).is_cron then (role_at roles w.job).weight else 0

abbrev pub group_weight : List Role → List Window → ℕ → ℕ
group_weight roles ws g =
    max (greatest (alone_weight roles g) ws) (total (shared_weight roles g) ws)

abbrev pub load_by : List Role → ℕ → List Window → ℕ
load_by roles groups ws = total (free_weight roles) ws + total (group_weight roles ws)
    (below groups) + greatest (catch_weight roles) ws

abbrev pub share_group : Role → Role → Bool
share_group one other = elim one.group [ None ↦ false | Some g ↦ is_group g other.group ]

-- whether their windows may not hold one minute: of one exclusive group, one is cron's, and not
-- both take its lock
abbrev pub roles_clash : Role → Role → Bool
roles_clash one other = (one.is_exclusive && share_group one other)
    && ((one.is_cron || other.is_cron) && not (takes one.mode && takes other.mode))

pub record PlanRoles : Type 0 where
  pub jobs : List Role
  pub groups : ℕ
  pub capacity : ℕ

pub record IsOf (p : Plan) (r : PlanRoles) : Type 0 where
  pub jobs : AreRoles p r.jobs
  pub groups : p.groups ≡ r.groups
  pub capacity : p.capacity ≡ r.capacity
