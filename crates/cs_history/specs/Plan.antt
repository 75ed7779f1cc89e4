-- A plan as histories and safety see it: the jobs of both tables, and the operator's declarations.
use Rattle.std.specs.Prelude.{◌≡◌, ℕ, ◌%◌, ◌<◌, ◌≤◌, Bool, true, false, not, ◌&&◌, List, Option, Some, None, if◌then◌else◌, nat_lt, ◌==◌, filter, zero, suc, []}
use Rattle.cs_civil.specs.Calendar.{first_minute, last_minute}
use Rattle.cs_history.specs.Lists.{below, placed}
use Rattle.cs_history.specs.declared.mode.Mode.{Mode}
use Rattle.cs_history.specs.declared.mode.Mode.TheVariants.{Plain, Skip, Try, Wait, Shared}

pub record Plan : Type 0 where
  -- cron jobs are the numbers below `crons`, anacron jobs those from there on below `jobs`
  pub crons : ℕ
  pub jobs : ℕ
  -- a job's declared time: a run that starts in minute s has ended before minute s + limit begins
  pub limit : ℕ → ℕ
  pub weight : ℕ → ℕ
  pub group : ℕ → Option ℕ
  pub mode : ℕ → Mode
  -- whether a cron job is due at a minute (crontab(5))
  pub due : ℕ → ℕ → Bool
  -- whether an anacron job with this stamp is due on a day (anacron(8))
  pub owed : ℕ → Option ℕ → ℕ → Bool
  -- how many minutes after the start of a pass an anacron job may start (anacrontab(5))
  pub delay : ℕ → ℕ
  pub groups : ℕ
  pub exclusive : ℕ → Bool
  pub capacity : ℕ
  -- the catch-up hours are the minutes of the day from `from` on, below `to`
  pub from : ℕ
  pub to : ℕ
  -- the minute of the day at which a pass begins; without one, passes begin only at a coming up
  pub pass_minute : Option ℕ

-- whether a job of the mode takes its group's lock: Skip and Try are flock(1) -n, Wait is flock
-- alone, Shared is -s
abbrev pub takes : Mode → Bool
takes Plain = false
takes Skip = true
takes Try = true
takes Wait = true
takes Shared = true

abbrev pub waits_in : Mode → Bool
waits_in Plain = false
waits_in Skip = false
waits_in Try = false
waits_in Wait = true
waits_in Shared = true

abbrev pub shares_in : Mode → Bool
shares_in Plain = false
shares_in Skip = false
shares_in Try = false
shares_in Wait = false
shares_in Shared = true

-- whether a run of the mode breaks the plan if it is skipped because the lock is held (flock(1) -n)
abbrev pub is_skip : Mode → Bool
is_skip Plain = false
is_skip Skip = true
is_skip Try = false
is_skip Wait = false
is_skip Shared = false

abbrev pub is_cron : Plan → ℕ → Bool
is_cron p j = nat_lt j p.crons

abbrev pub takes_lock : Plan → ℕ → Bool
takes_lock p j = takes (p.mode j)

abbrev pub waits : Plan → ℕ → Bool
waits p j = waits_in (p.mode j)

abbrev pub shares : Plan → ℕ → Bool
shares p j = shares_in (p.mode j)

abbrev pub is_group : ℕ → Option ℕ → Bool
is_group g None = false
is_group g (Some k) = g == k

abbrev pub belongs : Plan → ℕ → ℕ → Bool
belongs p g j = is_group g (p.group j)

-- the job takes the lock of group g
abbrev pub locks : Plan → ℕ → ℕ → Bool
locks p g j = takes_lock p j && belongs p g j

abbrev pub in_group_of : Plan → Option ℕ → ℕ → Bool
in_group_of p None j = false
in_group_of p (Some g) j = belongs p g j

abbrev pub same_group : Plan → ℕ → ℕ → Bool
same_group p i j = in_group_of p (p.group i) j

abbrev pub both_share : Plan → ℕ → ℕ → Bool
both_share p i j = shares p i && shares p j

-- a running run of j keeps i's lock from it (flock(1)): both take one lock, and not both share it
abbrev pub in_the_way : Plan → ℕ → ℕ → Bool
in_the_way p i j =
    (takes_lock p i && takes_lock p j) && (same_group p i j && not (both_share p i j))

abbrev pub exclusive_group : Plan → Option ℕ → Bool
exclusive_group p None = false
exclusive_group p (Some g) = p.exclusive g

-- both belong to one exclusive group
abbrev pub rivals : Plan → ℕ → ℕ → Bool
rivals p i j = exclusive_group p (p.group i) && same_group p i j

-- the cron jobs due at a minute, in order of line
abbrev pub due_at : Plan → ℕ → List ℕ
due_at p t = filter (λ j. p.due j t) (below p.crons)

abbrev pub is_pass_minute : Plan → ℕ → Bool
is_pass_minute p t = elim p.pass_minute [ None ↦ false | Some m ↦ t % 1440 == m ]

abbrev pub is_sooner : Plan → ℕ → ℕ → Bool
is_sooner p i j = nat_lt (p.delay i) (p.delay j)

-- the anacron jobs below n, by delay
abbrev pub placed_below : Plan → ℕ → List ℕ
placed_below p zero = []
placed_below p (suc n) = if nat_lt n p.crons then [] else placed (is_sooner p) n (placed_below p n)

-- the anacron jobs by delay, those of one delay in order of line
abbrev pub by_delay : Plan → List ℕ
by_delay p = placed_below p p.jobs

-- a minute that an event may name, from 1970-01-02 00:00 to 9999-12-31 23:59
pub record IsCivil (t : ℕ) : Type 0 where
  pub first : first_minute ≤ t
  pub last : t ≤ last_minute

-- 1970-01-04 00:00, the first minute at which a history may start, after three whole days
abbrev pub first_start : ℕ
first_start = 4320

-- a minute that a history may reach
pub record IsReached (t : ℕ) : Type 0 where
  pub first : first_start ≤ t
  pub last : t ≤ last_minute

-- what tables and declarations give: numbers in range, names resolved, no locks for anacron jobs
pub record IsPlan (p : Plan) : Type 0 where
  pub crons : p.crons ≤ p.jobs
  pub limits : (j : ℕ) → 0 < p.limit j
  pub weights : (j : ℕ) → 0 < p.weight j
  pub groups : (j g : ℕ) → p.group j ≡ Some g → g < p.groups
  pub lock_has_group : (j : ℕ) → takes_lock p j ≡ true → (g : ℕ) × (p.group j ≡ Some g)
  pub anacron_plain : (j : ℕ) → is_cron p j ≡ false → takes_lock p j ≡ false
  pub hours : (p.from < p.to) × (p.to ≤ 1440)
