-- The tables below a root folder, folder by folder.
use Rattle.std.specs.Prelude.{◌≡◌, ◌++◌, ℕ, true, Contains, List, Option, Some, None, codes}
use Rattle.std.specs.Prelude.{string_bytes}
use Rattle.cs_args.specs.Asked.{Text}
use Rattle.cs_io.specs.Files.{AreReadInTurn, Failed, Reads}
use Rattle.cs_io.specs.Folders.{Tree}
use Rattle.cs_place.specs.Places.{is_part_name}
use Rattle.cs_files.specs.Trouble.{IsUnread, Trouble, Unread}
use Rattle.cs_gather.specs.Tables.{Given, IsFileAt, IsIn, IsUserName, found_table}
use Rattle.cs_gather.specs.declared.below.Shelf.{Shelf}
use Rattle.cs_gather.specs.declared.below.Shelf.TheVariants.{CronD, Crontabs}
use Rattle.cs_gather.specs.declared.below.Unlisted.{Unlisted}
use Rattle.cs_gather.specs.declared.below.Unlisted.TheVariants.{CannotRead, OutOfMemory}

-- the path of a folder of tables below the root folder
abbrev pub place_of : Shelf → Text
place_of CronD = codes "/etc/cron.d/"
place_of Crontabs = codes "/var/spool/cron/crontabs/"

-- the name may be that of a table in the folder
abbrev pub HasName : Shelf → Text → Type 0
HasName CronD name = is_part_name name ≡ true
HasName Crontabs name = IsUserName name

abbrev pub given_in : Shelf → Text → Text → Given
given_in CronD path name = found_table path (place_of CronD ++ name) None
given_in Crontabs path name = found_table path (place_of Crontabs ++ name) (Some name)

-- if a file in the folder has such a name, the table is found
abbrev pub FindsNamed : Tree → Text → Shelf → List Given → Text → Type 0
FindsNamed tree folder shelf found name = HasName shelf name → IsFileAt tree (folder ++ name)
    → Contains found (given_in shelf (folder ++ name) name)

-- all such files in the folder are found
abbrev pub FindsAllOn : Tree → Text → Shelf → List Given → Type 0
FindsAllOn tree front shelf found = (name : Text) → IsIn tree (front ++ place_of shelf) name
    → FindsNamed tree (front ++ place_of shelf) shelf found name

abbrev pub AreAmong : List Given → List Given → Type 0
AreAmong some all = (given : Given) → Contains some given → Contains all given

-- the path can't be read
abbrev pub IsUnlisted : Failed → Reads → Unlisted → Type 0
IsUnlisted failed reads (CannotRead path reason) = IsUnread (string_bytes path) failed reads
IsUnlisted failed reads OutOfMemory = Unit {0}

-- none where memory ran out
abbrev pub unlisted_trouble : Unlisted → Option Trouble
unlisted_trouble (CannotRead path reason) = Some (Unread (string_bytes path) reason)
unlisted_trouble OutOfMemory = None

-- no file was read: neither their content nor what is left of it has changed
abbrev pub NoneRead : {A : Type 0} → (A → List ℕ → Option (List ℕ))
    → (A → List ℕ → Option (List ℕ)) → (A → Reads) → A → A → Type 0
NoneRead whole left reads old new =
    (whole new ≡ whole old) × (left new ≡ left old) × (reads new ≡ reads old)

-- some paths were read in turn
abbrev pub AreSomeRead : Reads → Reads → Type 0
AreSomeRead old new = (paths : List Text) × AreReadInTurn paths old new
