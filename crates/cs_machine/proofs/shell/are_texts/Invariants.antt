use Rattle.std.proofs.Common.{◌≡◌, true, take}
use Rattle.std.specs.List.{list_all}
use Rattle.cs_machine.specs.Shell.{is_setting}
use Rattle.cs_machine.proofs.shell.are_texts.Given as goal

abbrev pub invariant-loop-name : goal.invariant-loop-name
invariant-loop-name l = list_all is_setting (take l.name-index l.env) ≡ true
