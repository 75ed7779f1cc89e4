use Rattle.std.proofs.Common.{◌≡◌, drop, fold, Some}
use Rattle.cs_machine.specs.Shell.{value_with}
use Rattle.cs_machine.proofs.shell.value_after.Given as goal

abbrev pub invariant-loop-set_name : goal.invariant-loop-set_name
invariant-loop-set_name l = fold (value_with l.name) (Some l.last) (drop l.set_name-index l.env) ≡ fold (value_with l.name) (Some l.initial.last) l.env
