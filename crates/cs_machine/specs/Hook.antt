-- A command that is called when something has happened.
use Rattle.std.specs.Prelude.{ℕ, List, [], ◌∷◌, Option, None, Some, codes}
use Rattle.std.specs.Borrow.{Bor}
use Rattle.std.specs.List.{fold}
use Rattle.std.specs.Str.Lossy.{utf8_lossy}
use Rattle.cs_machine.specs.Shell.{value_with}

-- a shell starts the command in the background, with this file for its input or without one, and
-- ends
abbrev pub hook_words : List ℕ → Option (List ℕ) → List (List ℕ)
hook_words command None =
    codes "-c" ∷ codes "(eval \"$1\") </dev/null &" ∷ codes "sh" ∷ command ∷ []
hook_words command (Some path) =
    codes "-c" ∷ codes "(eval \"$1\") <\"$2\" &" ∷ codes "sh" ∷ command ∷ path ∷ []

abbrev pub HookVariable : Type 0
HookVariable = Bor (List ℕ) × Bor (List ℕ)

-- a text, with U+FFFD for what isn't UTF-8
unfoldable pub readable : List ℕ → List ℕ
readable text = utf8_lossy text

abbrev pub hook_value_with : List ℕ → Option (List ℕ) → HookVariable → Option (List ℕ)
hook_value_with name before v = value_with name before (v.0.now, readable v.1.now)

-- the last one of a name counts
abbrev pub hook_value : List HookVariable → List ℕ → Option (List ℕ)
hook_value variables name = fold (hook_value_with name) None variables
