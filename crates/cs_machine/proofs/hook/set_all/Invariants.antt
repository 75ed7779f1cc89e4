use Rattle.std.proofs.Common.{◌≡◌, ℕ, List, take, Some, option_map}
use Rattle.std.specs.Process.{command_var, clears_env, SameProgramAndArgs, SameDir}
use Rattle.cs_machine.specs.Hook.{hook_value}
use Rattle.cs_machine.proofs.hook.set_all.Given as goal

abbrev pub invariant-loop-name : goal.invariant-loop-name
invariant-loop-name l =
    SameProgramAndArgs l.fn.shell l.shell
    × (clears_env l.shell ≡ clears_env l.fn.shell)
    × SameDir l.fn.shell l.shell
    × ((name : List ℕ) → command_var l.shell name ≡ option_map Some (hook_value (take l.name-index l.variables) name))
