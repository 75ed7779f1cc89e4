-- The table of the subcommands, as contracts see it.
use Rattle.std.specs.Prelude.{◌≡◌, List, Some, false, true}
use Rattle.clap.specs.Words.{Row, Rule, Text, found_of, new_rule, rows_of}
use Rattle.clap.specs.declared.builder.action.ArgAction.TheVariants.{Append, SetTrue}
use Rattle.clap.specs.declared.builder.command.Command.{Command}
use Rattle.clap.specs.declared.builder.command.Command.TheViews.{out-Command as fields_of}
use Rattle.cs_args.specs.declared.command_line.Given.{Given}
use Rattle.cs_args.specs.declared.table.Argument.{Argument}
use Rattle.cs_args.specs.declared.table.Takes.{Takes}
use Rattle.cs_args.specs.declared.table.Takes.TheVariants as takes

-- no argument of the command counts for its subcommands too
abbrev pub IsLocal : Command → Type 0
IsLocal c = (fields_of c).has_globals ≡ false

abbrev pub rule_taking : Takes → Text → Rule
rule_taking takes.OptionalWord id = new_rule id
rule_taking takes.Word id = record (new_rule id) { required = true }
rule_taking takes.Words id = record (new_rule id) { required = true; action = Some Append }
rule_taking takes.Flag id = record (new_rule id) { long = Some id; action = Some SetTrue }
rule_taking (takes.Value name) id = record (new_rule id) { long = Some id; value_names = 1 }
rule_taking (takes.Values name) id =
    record (new_rule id) { long = Some id; value_names = 1; action = Some Append }
rule_taking takes.Pair id = record (new_rule id) { long = Some id; value_names = 2 }

abbrev pub rule_in : Argument → Rule
rule_in a = rule_taking a.1 a.0.now

abbrev pub words_given : Given → List Row
words_given given = rows_of (found_of given.matches.now)
