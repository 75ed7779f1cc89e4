-- What people call the jobs of a plan.
use Rattle.std.specs.Prelude.{ℕ, List, Option, option_and_then}
use Rattle.std.specs.List.{find}
use Rattle.cs_crontab.specs.Crontab.{CommandLine}
use Rattle.cs_decl.specs.Join.{is_named}
use Rattle.cs_decl.specs.declared.entries.CronEntry.{CronEntry}

-- the name that the first entry for the line gives
abbrev pub label_of : List CronEntry → CommandLine → Option (List ℕ)
label_of entries line = option_and_then (λ e. e.label) (find (λ e. is_named e.name line) entries)
