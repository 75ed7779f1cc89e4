-- The shape of declarations, member by member: what a JSON value declares, or BadShape.
use Rattle.std.specs.Prelude.{List, [], ◌∷◌, ℕ, pos, Option, None, Some, option_and_then, is_some, if◌then◌else◌, Bool, false, not, ◌&&◌, ◌||◌, bytes_eq, codes, Result, Ok, ⊤}
use Rattle.serde_json.specs.Data.{Data}
use Rattle.serde_json.specs.Find.{as_str, get}
use Rattle.cs_json.specs.Gives.{◌>>=◌}
use Rattle.cs_json.specs.Shape.{or_bad_shape, check, whole_number, text, flag, list_as, pair_as, member_as, member_or_default, member_or_none, object_with, is_among}
use Rattle.cs_json.specs.declared.fault.JsonFault.{JsonFault}
use Rattle.cs_history.specs.declared.mode.Mode.{Mode}
use Rattle.cs_history.specs.declared.mode.Mode.TheVariants.{Plain, Skip, Try, Wait, Shared}
use Rattle.cs_decl.specs.declared.entries.LineName.{LineName}
use Rattle.cs_decl.specs.declared.entries.GroupEntry.{GroupEntry}
use Rattle.cs_decl.specs.declared.entries.CronEntry.{CronEntry}
use Rattle.cs_decl.specs.declared.entries.PartEntry.{PartEntry}
use Rattle.cs_decl.specs.declared.entries.AnacronEntry.{AnacronEntry}
use Rattle.cs_decl.specs.declared.entries.DefaultEntry.{DefaultEntry}
use Rattle.cs_decl.specs.declared.entries.Entries.{Entries}
use Rattle.cs_decl.specs.declared.reading.Terms.{Terms}
use Rattle.cs_decl.specs.When.{when_named}
use Rattle.cs_crontab.specs.declared.table.When.{When}

abbrev pub mode_named : List ℕ → Option Mode
mode_named s =
    if bytes_eq s (codes "none") then Some Plain
    else if bytes_eq s (codes "skip") then Some Skip
    else if bytes_eq s (codes "try") then Some Try
    else if bytes_eq s (codes "wait") then Some Wait
    else if bytes_eq s (codes "shared") then Some Shared
    else None

abbrev pub mode_of : Data → Result Mode JsonFault
mode_of d = or_bad_shape (option_and_then mode_named (as_str d))

abbrev pub when_of : Data → Result When JsonFault
when_of d = or_bad_shape (option_and_then when_named (as_str d))

unfoldable pub is_group_member : List ℕ → Bool
is_group_member = is_among (codes "exclusive" ∷ codes "name" ∷ codes "note" ∷ [])

unfoldable pub is_part_member : List ℕ → Bool
is_part_member = is_among (codes "max" ∷ codes "name" ∷ codes "note" ∷ [])

unfoldable pub is_cron_member : List ℕ → Bool
is_cron_member = is_among
    (codes "command" ∷ codes "group" ∷ codes "guess" ∷ codes "line" ∷ codes "max" ∷ codes "mode"
    ∷ codes "name" ∷ codes "note" ∷ codes "parts" ∷ codes "weight" ∷ codes "when" ∷ [])

unfoldable pub is_anacron_member : List ℕ → Bool
is_anacron_member = is_among
    (codes "group" ∷ codes "guess" ∷ codes "id" ∷ codes "max" ∷ codes "mode" ∷ codes "note"
    ∷ codes "weight" ∷ [])

unfoldable pub is_default_member : List ℕ → Bool
is_default_member = is_among (codes "max" ∷ codes "note" ∷ codes "weight" ∷ [])

unfoldable pub is_left_out_member : List ℕ → Bool
is_left_out_member = is_among
    (codes "command" ∷ codes "line" ∷ codes "note" ∷ codes "when" ∷ [])

unfoldable pub is_member : List ℕ → Bool
is_member = is_among
    (codes "anacron" ∷ codes "capacity" ∷ codes "cron" ∷ codes "default" ∷ codes "groups"
    ∷ codes "hours" ∷ codes "left_out" ∷ codes "note" ∷ codes "offset" ∷ codes "pass"
    ∷ codes "zone" ∷ [])

-- a note is for people: it has to be a text, and nothing is read from it
abbrev pub note_of : Data → Result ⊤ JsonFault
note_of d = member_or_default (λ note. check (is_some (as_str note))) tt (codes "note") d

-- a line's number, its command or both, and perhaps its schedule
unfoldable pub line_name_of : Data → Result LineName JsonFault
line_name_of d = do
  number ← member_or_none whole_number (codes "line") d
  command ← member_or_none text (codes "command") d
  one ← check (is_some number || is_some command)
  when ← member_or_none when_of (codes "when") d
  Ok (record { number = number; command = command; when = when })

-- name and `exclusive` have to be there
unfoldable pub group_of : Data → Result GroupEntry JsonFault
group_of d = do
  o ← object_with is_group_member d
  note ← note_of d
  name ← member_as text (codes "name") d
  exclusive ← member_as flag (codes "exclusive") d
  Ok (record { name = name; exclusive = exclusive })

-- name and longest time have to be there
unfoldable pub part_of : Data → Result PartEntry JsonFault
part_of d = do
  o ← object_with is_part_member d
  note ← note_of d
  name ← member_as text (codes "name") d
  max ← member_as whole_number (codes "max") d
  Ok (record { name = name; max = max })

-- nothing is a guess unless it says so
abbrev pub guess_of : Data → Result Bool JsonFault
guess_of d = member_or_default flag false (codes "guess") d

-- by default the weight is 1, the mode `none`, and there are no parts
unfoldable pub cron_of : Data → Result CronEntry JsonFault
cron_of d = do
  o ← object_with is_cron_member d
  note ← note_of d
  name ← line_name_of d
  max ← member_as whole_number (codes "max") d
  weight ← member_or_default whole_number (pos 1) (codes "weight") d
  group ← member_or_none text (codes "group") d
  mode ← member_or_default mode_of Plain (codes "mode") d
  parts ← member_or_default (list_as part_of) [] (codes "parts") d
  guess ← guess_of d
  label ← member_or_none text (codes "name") d
  Ok (record {
    name = name;
    max = max;
    weight = weight;
    group = group;
    mode = mode;
    parts = parts;
    guess = guess;
    label = label;
  })

-- an anacron job may have no mode: only whether there is one is read
unfoldable pub anacron_of : Data → Result AnacronEntry JsonFault
anacron_of d = do
  o ← object_with is_anacron_member d
  note ← note_of d
  identifier ← member_as text (codes "id") d
  max ← member_as whole_number (codes "max") d
  weight ← member_or_default whole_number (pos 1) (codes "weight") d
  group ← member_or_none text (codes "group") d
  guess ← guess_of d
  Ok (record {
    identifier = identifier;
    max = max;
    weight = weight;
    group = group;
    has_mode = is_some (get (codes "mode") d);
    guess = guess;
  })

-- the weight is 1 by default
unfoldable pub default_of : Data → Result DefaultEntry JsonFault
default_of d = do
  o ← object_with is_default_member d
  note ← note_of d
  max ← member_as whole_number (codes "max") d
  weight ← member_or_default whole_number (pos 1) (codes "weight") d
  Ok (record { max = max; weight = weight })

unfoldable pub left_out_of : Data → Result LineName JsonFault
left_out_of d = do
  o ← object_with is_left_out_member d
  note ← note_of d
  line_name_of d

-- only the capacity has to be there; by default the offset is 0, and all hours are catch-up hours;
-- there may be an offset or a zone
unfoldable pub terms_of : Data → Result Terms JsonFault
terms_of d = do
  one ← check (not (is_some (get (codes "zone") d) && is_some (get (codes "offset") d)))
  capacity ← member_as whole_number (codes "capacity") d
  offset ← member_or_default whole_number (pos 0) (codes "offset") d
  zone ← member_or_none text (codes "zone") d
  hours ← member_or_default (pair_as whole_number whole_number) (pos 0, pos 1440) (codes "hours") d
  pass ← member_or_none whole_number (codes "pass") d
  default ← member_or_none default_of (codes "default") d
  Ok (record {
    capacity = capacity;
    offset = offset;
    zone = zone;
    hours = hours;
    pass = pass;
    default = default;
  })

-- all members; of those that stand twice in the text, the value has the last
unfoldable pub entries_of : Data → Result Entries JsonFault
entries_of d = do
  o ← object_with is_member d
  note ← note_of d
  terms ← terms_of d
  groups ← member_or_default (list_as group_of) [] (codes "groups") d
  cron ← member_or_default (list_as cron_of) [] (codes "cron") d
  anacron ← member_or_default (list_as anacron_of) [] (codes "anacron") d
  left_out ← member_or_default (list_as left_out_of) [] (codes "left_out") d
  Ok (record {
    capacity = terms.capacity;
    offset = terms.offset;
    zone = terms.zone;
    hours = terms.hours;
    pass = terms.pass;
    default = terms.default;
    groups = groups;
    cron = cron;
    anacron = anacron;
    left_out = left_out;
    doubled = None;
  })
