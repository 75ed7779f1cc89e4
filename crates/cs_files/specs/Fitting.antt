-- The plan of a gathered table, whose comments say which parts a command has.
use Rattle.std.specs.Prelude.{ℕ, Bool, false, not, ◌&&◌, ◌==◌, List, Option, None, Some, Result, bytes_eq, length, position}
use Rattle.std.specs.List.{list_all, list_any}
use Rattle.cs_crontab.specs.Crontab.{CommandLine, Table}
use Rattle.cs_anacrontab.specs.Anacrontab.{Table as JobTable}
use Rattle.cs_place.specs.Places.{place_of}
use Rattle.cs_place.specs.declared.places.Place.{Place}
use Rattle.cs_decl.specs.Faults.{at_cron}
use Rattle.cs_plan.specs.Answers.{Fault}
use Rattle.cs_decl.specs.Join.{is_named, joined}
use Rattle.cs_plan.specs.Answers.{◌>>=◌, unless}
use Rattle.cs_plan.specs.Plan.{Declared}
use Rattle.cs_decl.specs.declared.entries.CronEntry.{CronEntry}
use Rattle.cs_decl.specs.declared.entries.Entries.{Entries}
use Rattle.cs_decl.specs.declared.entries.PartEntry.{PartEntry}
use Rattle.cs_plan.specs.declared.fault.DeclFault.TheVariants as faults

-- the parts, no two of which have one name, have these names in any order
abbrev pub have_names : List PartEntry → List (List ℕ) → Bool
have_names parts names = length parts == length names
    && list_all (λ part. list_any (bytes_eq part.name) names) parts

-- the place has parts, and others than these
abbrev pub tells_others : List PartEntry → Option Place → Bool
tells_others parts None = false
tells_others parts (Some place) =
    not (length place.parts == 0) && not (have_names parts place.parts)

-- the entry has parts, and the place of its line has others
abbrev pub has_other_parts : List Place → List CommandLine → CronEntry → Bool
has_other_parts places lines e = not (length e.parts == 0) && list_any (λ line.
    is_named e.name line && tells_others e.parts (place_of places line.number)) lines

-- the plan of tables with these places and declarations, or their first fault: that an entry has
-- other parts comes after all others
abbrev pub fitting : List Place → Table × JobTable → Entries → Result Declared Fault
fitting places tables d = joined tables.0 tables.1 d >>= λ plan. unless plan
    (at_cron faults.OtherParts (position (has_other_parts places tables.0.lines) d.cron))
