-- The tables that `gather` has to read.
use Rattle.std.specs.Prelude.{◌≡◌, ◌⊎◌, ◌==◌, All, Contains, true, false, List, [], ◌∷◌, ◌++◌, Option, Some, None, codes, map, nat_eq, unwrap_or, ⊤}
use Rattle.std.specs.List.{AllZip, list_any, starts_with}
use Rattle.std.specs.Str.{IsUtf8}
use Rattle.cs_args.specs.Asked.{Text}
use Rattle.cs_io.specs.Folders.{Tree}
use Rattle.cs_io.specs.declared.folders.FileKind.{FileKind}
use Rattle.cs_io.specs.declared.folders.FileKind.TheVariants.{Program, Regular}
use Rattle.cs_place.specs.Places.{is_part_name}
use Rattle.cs_args.specs.Asked.{AskedGather}

-- a table: its path, its path below the root folder, if found there, and its user, unless its lines
-- name users
pub record Given : Type 0 where
  pub path : Text
  pub below : Option Text
  pub user : Option Text

-- the name in comments: the path, without that of the root folder
abbrev pub name_of : Given → Text
name_of given = unwrap_or given.below given.path

-- ---- the tables that the words name

abbrev pub system_table : Text → Given
system_table path = record { path = path; below = None; user = None }

abbrev pub user_table : Text → Text → Given
user_table path user = record { path = path; below = None; user = Some user }

-- what follows the last slash of a path, or all of it
abbrev pub IsLastPart : Text → Text → Type 0
IsLastPart path part = (list_any (λ byte. byte == 47) part ≡ false)
    × ((path ≡ part) ⊎ ((before : Text) × (path ≡ before ++ (47 ∷ part))))

-- the last part of the path is the user
abbrev pub IsUserFile : Text → Given → Type 0
IsUserFile path given = (user : Text) × IsLastPart path user × (given ≡ user_table path user)

-- system tables, and then users' tables
abbrev pub AreNamed : AskedGather → List Given → Type 0
AreNamed a named = (users : List Given) × AllZip IsUserFile a.user users
    × (named ≡ map system_table a.system ++ users)

-- ---- the tables below a root folder

abbrev pub found_table : Text → Text → Option Text → Given
found_table path below user = record { path = path; below = Some below; user = user }

-- Paths below the root begin with its path, without a slash at its end. A root named `-` is `./-`,
-- not standard input.
abbrev pub IsFront : Text → Text → Type 0
IsFront root front = (root ≡ front ++ (47 ∷ [])) ⊎ ((root ≡ front)
    ⊎ ((root ≡ codes "-") × (front ≡ codes "./-")))

-- UTF-8 that doesn't begin with a dot
abbrev pub IsUserName : Text → Type 0
IsUserName name = IsUtf8 name × (starts_with nat_eq name (46 ∷ []) ≡ false)

-- /etc/crontab, a table in /etc/cron.d, or one in /var/spool/cron/crontabs; IsSo holds of the
-- folder and the name
abbrev pub IsTableBelow : Text → (Text → Text → Type 0) → Given → Type 0
IsTableBelow front IsSo given =
    (given ≡ found_table (front ++ codes "/etc/crontab") (codes "/etc/crontab") None)
    ⊎ (((name : Text) × (is_part_name name ≡ true) × IsSo (front ++ codes "/etc/cron.d/") name
    × (given ≡ found_table ((front ++ codes "/etc/cron.d/") ++ name)
    (codes "/etc/cron.d/" ++ name) None))
    ⊎ ((name : Text) × IsUserName name × IsSo (front ++ codes "/var/spool/cron/crontabs/") name
    × (given ≡ found_table ((front ++ codes "/var/spool/cron/crontabs/") ++ name)
    (codes "/var/spool/cron/crontabs/" ++ name) (Some name))))

abbrev pub IsBelow : Text → Given → Type 0
IsBelow front = IsTableBelow front (λ folder name. ⊤)

-- a regular file; an empty one has no table
abbrev pub IsFile : Option FileKind → Type 0
IsFile kind = (kind ≡ Some Regular) ⊎ (kind ≡ Some Program)

abbrev pub IsFileAt : Tree → Text → Type 0
IsFileAt tree path = (kind : Option FileKind) × (tree.kind path ≡ Some kind) × IsFile kind

abbrev pub IsIn : Tree → Text → Text → Type 0
IsIn tree folder name =
    (names : List Text) × (tree.names folder ≡ Some (Some names)) × Contains names name

-- cron(8) reads this table, as far as folders and files are known
abbrev pub IsReadByCron : Tree → Text → Given → Type 0
IsReadByCron tree front given = IsFileAt tree given.path × IsTableBelow front (IsIn tree) given

-- tables below the root, with all that cron(8) reads there; none without a root
abbrev pub AreFound : Tree → Option Text → List Given → Type 0
AreFound tree None found = found ≡ []
AreFound tree (Some root) found = (front : Text) × IsFront root front
    × All (IsBelow front) found
    × ((given : Given) → IsReadByCron tree front given → Contains found given)
