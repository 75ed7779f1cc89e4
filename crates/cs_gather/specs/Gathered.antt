-- A command that is gathered from a table, and the comment with its place.
use Rattle.std.specs.Prelude.{ℕ, ◌==◌, if◌then◌else◌, List, [], ◌∷◌, ◌++◌, map, flat_map, decimal, unwrap_or}
use Rattle.cs_crontab.specs.Crontab.{CommandLine}
use Rattle.cs_system.specs.System.{SystemCommand}
use Rattle.cs_place.specs.Shown.{hex, shown_text}
use Rattle.cs_gather.specs.Tables.{Given, name_of}
use Rattle.cs_gather.specs.declared.line.Gathered.{Gathered}
use Rattle.cs_gather.specs.declared.table.Table.{Table}
use Rattle.cs_gather.specs.declared.table.Table.TheVariants.{System, User}

-- the user is one word of the comment: a blank is `\x20` too
abbrev pub in_word : ℕ → List ℕ
in_word b = if b == 32 then hex b else b ∷ []

abbrev pub user_text : List ℕ → List ℕ
user_text name = flat_map in_word (shown_text name)

-- `NAME:LINE`
abbrev pub place_text : List ℕ → ℕ → List ℕ
place_text name number = shown_text name ++ 58 ∷ decimal number

abbrev pub of_system : List ℕ → SystemCommand → Gathered
of_system name line = record {
  number = line.number;
  origin = place_text name line.number;
  user = user_text line.user;
  when = line.when;
  command = line.command;
}

abbrev pub of_user : List ℕ → List ℕ → CommandLine → Gathered
of_user name user line = record {
  number = line.number;
  origin = place_text name line.number;
  user = user_text user;
  when = line.when;
  command = line.command;
}

abbrev pub commands_of : Given → Table → List Gathered
commands_of given (System table) = map (of_system (name_of given)) table.lines
commands_of given (User table) =
    map (of_user (name_of given) (unwrap_or given.user [])) table.lines
