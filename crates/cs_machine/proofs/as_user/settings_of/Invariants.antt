use Rattle.std.proofs.Common.{◌≡◌, ◌∷◌, ◌++◌, Some, take}
use Rattle.cs_machine.specs.Shell.{usual_settings}
use Rattle.cs_machine.specs.User.{settings_text, usual_path}
use Rattle.cs_machine.proofs.as_user.settings_of.Given as goal

abbrev pub invariant-loop-name : goal.invariant-loop-name
invariant-loop-name l =
    l.text.items ≡ settings_text (usual_path ∷ (usual_settings (Some l.home) ++ take l.name-index l.env))
