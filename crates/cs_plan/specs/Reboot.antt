-- Lines that start a command at startup.
use Rattle.std.specs.Prelude.{List, Option, Some, option_map, Bool, true, false}
use Rattle.std.specs.List.{find}
use Rattle.cs_crontab.specs.Crontab.{CommandLine}
use Rattle.cs_crontab.specs.declared.table.When.{When}
use Rattle.cs_crontab.specs.declared.table.When.TheVariants.{At, Reboot}
use Rattle.cs_plan.specs.declared.fault.DeclFault.{DeclFault}
use Rattle.cs_plan.specs.declared.fault.Place.TheVariants.{Line}
use Rattle.cs_plan.specs.Answers.{Fault}
use Rattle.cs_plan.specs.declared.fault.DeclFault.TheVariants as faults

abbrev pub is_reboot : When → Bool
is_reboot (At schedule) = false
is_reboot Reboot = true

abbrev pub at_line : DeclFault → Option CommandLine → Option Fault
at_line fault line = option_map (λ l. (fault, Some (Line l.number))) line

-- the first `@reboot`
abbrev pub reboot_fault : List CommandLine → Option Fault
reboot_fault lines = at_line faults.RebootLine (find (λ line. is_reboot line.when) lines)
