-- What is read from a store of stamps and written to it.
use Rattle.std.specs.Prelude.{◌≡◌, ◌⊎◌, ℕ, ◌==◌, List, [], ◌∷◌, length, map, set, slice_index_or, Bool, if◌then◌else◌, Option, Some, None}
use Rattle.std.specs.List.{fold, flat_map}
use Rattle.cs_anacrontab.specs.Anacrontab.{JobLine}
use Rattle.cs_plan.specs.Plan.{Declared, as_plan, no_line}
use Rattle.cs_history.specs.History.{History, IsLegal, stamps as stamps_after}
use Rattle.cs_history.specs.Lists.{below}
use Rattle.cs_device.specs.declared.store.Stamp.{Stamp}
use Rattle.cs_device.specs.declared.store.Stamp.TheVariants.{On, Absent, Failed}
use Rattle.cs_daemon.specs.InTurn.{InTurn}

-- the day of a job's stamp; none past the last one
abbrev pub stamp_at : List (Option ℕ) → ℕ → Option ℕ
stamp_at stamps job = slice_index_or stamps job None

abbrev pub identifier_at : List JobLine → ℕ → List ℕ
identifier_at lines job = (slice_index_or lines job no_line).identifier

-- ---- reading

-- one that can't be read counts as none
abbrev pub day_in : Stamp → Option ℕ
day_in (On day) = Some day
day_in Absent = None
day_in Failed = None

module _ {S : Type 0} (reads : S → List ℕ → Stamp → S → Type 0) where
  -- each job's stamp is read once, in order, under its identifier; these are known then
  pub record AreRead (lines : List JobLine) (old : S) (known : List (Option ℕ)) (new : S)
      : Type 0 where
    pub answers : List (List ℕ × Stamp)
    pub identifiers : map (λ r. r.0) answers ≡ map (λ line. line.identifier) lines
    pub read : InTurn (λ (s : S) (r : List ℕ × Stamp) (t : S). reads s r.0 r.1 t) answers old new
    pub said : known ≡ map (λ r. day_in r.1) answers

  -- nothing is done to a store, or each job's stamp is read once
  abbrev pub IsOnlyRead : List JobLine → S → S → Type 0
  IsOnlyRead lines old new = (new ≡ old) ⊎ ((known : List (Option ℕ)) × AreRead lines old known new)

-- ---- writing

-- a stamp that was to be written, and whether it was
pub record Written : Type 0 where
  pub job : ℕ
  pub day : ℕ
  pub done : Bool

-- a stamp that isn't the known one
abbrev pub lacked : Option ℕ → Option ℕ → Option ℕ
lacked known None = None
lacked None (Some day) = Some day
lacked (Some before) (Some day) = if before == day then None else Some day

abbrev pub lacks : ℕ → Option ℕ → List (ℕ × ℕ)
lacks job None = []
lacks job (Some day) = (job, day) ∷ []

-- those of these jobs that have a stamp which isn't the known one, with it
abbrev pub lacking : List ℕ → List (Option ℕ) → List (Option ℕ) → List (ℕ × ℕ)
lacking jobs known stamps =
    flat_map (λ job. lacks job (lacked (stamp_at known job) (stamp_at stamps job))) jobs

-- a legal history of the plan leaves these stamps
pub record AreLeft (d : Declared) (stamps : List (Option ℕ)) : Type 0 where
  pub by : History
  pub legal : IsLegal (as_plan d) by
  pub same : stamps ≡ stamps_after (as_plan d) by

-- what is known after a write
abbrev pub with_written : List (Option ℕ) → Written → List (Option ℕ)
with_written known w = if w.done then set known w.job (Some w.day) else known

module _ {S : Type 0} (writes : S → List ℕ → ℕ → Bool → S → Type 0) where
  -- a stamp is written under its job's identifier
  abbrev pub WritesOne : List JobLine → S → Written → S → Type 0
  WritesOne lines old w new = writes old (identifier_at lines w.job) w.day w.done new

  -- of these stamps, those that aren't known are written, each once, in order, and no others; what
  -- is written is known then
  pub record AreWritten (lines : List JobLine) (stamps known : List (Option ℕ)) (old : S)
      (known_then : List (Option ℕ)) (new : S) : Type 0 where
    pub log : List Written
    pub which : map (λ w. (w.job, w.day)) log ≡ lacking (below (length lines)) known stamps
    pub written : InTurn (WritesOne lines) log old new
    pub noted : known_then ≡ fold with_written known log

  -- the same for stamps that a legal history of the plan leaves
  abbrev pub WritesNext : Declared → List (Option ℕ) × S → List (Option ℕ) → List (Option ℕ) × S
      → Type 0
  WritesNext d old stamps new =
      AreLeft d stamps × AreWritten d.anacrontab.lines stamps old.0 old.1 new.0 new.1

  -- such lists of stamps came one after the other, and those of each that weren't known were
  -- written
  pub record HaveBeenWritten (d : Declared) (known : List (Option ℕ)) (old : S)
      (known_then : List (Option ℕ)) (new : S) : Type 0 where
    pub lists : List (List (Option ℕ))
    pub written : InTurn (WritesNext d) lists (known, old) (known_then, new)

-- all that is done to a store for a keep of the plan: each stamp is read once; then stamps are
-- written in turn; at the end those of the keep that the store isn't known to have
pub record AreKept {S : Type 0} (reads : S → List ℕ → Stamp → S → Type 0)
    (writes : S → List ℕ → ℕ → Bool → S → Type 0) (d : Declared)
    (stamps : List (Option ℕ)) (old new : S) : Type 0 where
  pub read : List (Option ℕ)
  pub known : List (Option ℕ)
  pub known_then : List (Option ℕ)
  pub begun : S
  pub late : S
  pub first : AreRead reads d.anacrontab.lines old read begun
  pub between : HaveBeenWritten writes d read begun known late
  pub last : AreWritten writes d.anacrontab.lines stamps known late known_then new
