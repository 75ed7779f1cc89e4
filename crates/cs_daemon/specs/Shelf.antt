-- A store of stamps that does what it is asked.
use Rattle.std.specs.Prelude.{◌≡◌, ◌≢◌, ◌<◌, ℕ, List, length, Bool, true, Option, Some}
use Rattle.cs_anacrontab.specs.Anacrontab.{JobLine}
use Rattle.cs_device.specs.declared.store.Stamp.{Stamp}
use Rattle.cs_daemon.specs.Stamps.{day_in, identifier_at, stamp_at}

-- the day that is held under each identifier, if there is one
abbrev pub Shelf : Type 0
Shelf = List ℕ → Option ℕ

-- a stamp is read as it is held
abbrev pub Reads : Shelf → List ℕ → Stamp → Shelf → Type 0
Reads old identifier answer new = (new ≡ old) × (day_in answer ≡ old identifier)

-- a stamp is written, and all others stay
abbrev pub Writes : Shelf → List ℕ → ℕ → Bool → Shelf → Type 0
Writes old identifier day done new =
    (done ≡ true) × (new identifier ≡ Some day)
    × ((other : List ℕ) → other ≢ identifier → new other ≡ old other)

-- no two jobs have one identifier
abbrev pub HaveNames : List JobLine → Type 0
HaveNames lines = (i j : ℕ) → i < length lines → j < length lines
    → identifier_at lines i ≡ identifier_at lines j → i ≡ j

-- each stamp is held under its job's identifier
abbrev pub Holds : List JobLine → List (Option ℕ) → Shelf → Type 0
Holds lines stamps shelf = (job day : ℕ) → job < length lines
    → stamp_at stamps job ≡ Some day → shelf (identifier_at lines job) ≡ Some day
