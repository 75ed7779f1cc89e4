-- The faults of the windows of one stretch, by the roles of jobs.
use Rattle.std.specs.Prelude.{ℕ, Bool, not, ◌&&◌, ◌==◌, List, Option, find, nat_le, option_map}
use Rattle.cs_history.specs.Lists.{below}
use Rattle.cs_history.specs.Plan.{is_group, takes, is_skip}
use Rattle.cs_windows.specs.declared.window.Window.{Window}
use Rattle.cs_windows.specs.Entries.{lists}
use Rattle.cs_windows.specs.Tree.{Tree, entries_at}
use Rattle.cs_windows.specs.Windows.{day_minutes}
use Rattle.cs_theorem.specs.Faults.{first_of, first_pair, unless}
use Rattle.cs_theorem.specs.Windows.{holders, same_window}
use Rattle.cs_overlap.specs.declared.role.Role.{Role}
use Rattle.cs_overlap.specs.Roles.{role_at, share_group, roles_clash, load_by}

-- whether two windows, the first of this group, may not hold one minute
abbrev pub clash_in : List Role → ℕ → Window → Window → Bool
clash_in roles g v w = is_group g (role_at roles v.job).group
    && roles_clash (role_at roles v.job) (role_at roles w.job)

abbrev pub collision_of : List Role → ℕ → List Window → ℕ → Option (ℕ × Window × Window)
collision_of roles m held g = option_map (λ q. (m, q.0, q.1)) (first_pair (clash_in roles g) held)

abbrev pub collision_at : List Role → ℕ → List Window → ℕ → Option (ℕ × Window × Window)
collision_at roles groups ws m = first_of (collision_of roles m (holders m ws)) (below groups)

abbrev pub collision_by : List Role → ℕ → List Window → Option (ℕ × Window × Window)
collision_by roles groups ws = first_of (collision_at roles groups ws) day_minutes

abbrev pub overload_at : List Role → ℕ → ℕ → List Window → ℕ → Option (ℕ × ℕ)
overload_at roles groups capacity ws m = unless (nat_le
    (load_by roles groups (holders m ws)) capacity) (m, load_by roles groups (holders m ws))

abbrev pub overload_by : List Role → ℕ → ℕ → List Window → Option (ℕ × ℕ)
overload_by roles groups capacity ws = first_of (overload_at roles groups capacity ws) day_minutes

-- w keeps the lock from the skip job whose window v begins at this minute of the day
abbrev pub role_blocks : List Role → ℕ → Window → Window → Bool
role_blocks roles m v w = (is_skip (role_at roles v.job).mode
    && ((v.day_back == 0) && (v.from == m)))
    && (not (same_window v w)
    && (takes (role_at roles w.job).mode
    && share_group (role_at roles v.job) (role_at roles w.job)))

abbrev pub blocked_of : List Role → ℕ → List Window → Window → Option (ℕ × Window × Window)
blocked_of roles m held v = option_map (λ w. (m, v, w)) (find (role_blocks roles m v) held)

abbrev pub blocked_at : List Role → List Window → ℕ → Option (ℕ × Window × Window)
blocked_at roles ws m = first_of (blocked_of roles m (holders m ws)) (holders m ws)

abbrev pub blocked_by : List Role → List Window → Option (ℕ × Window × Window)
blocked_by roles ws = first_of (blocked_at roles ws) day_minutes

abbrev pub missing_at : Tree → List Window → ℕ → Option (ℕ × Window)
missing_at tree ws m =
    option_map (λ w. (m, w)) (find (λ w. not (lists (entries_at tree m) w)) (holders m ws))
