-- A command's shell, words, variables and folder (crontab(5)).
use Rattle.std.specs.Prelude.{ℕ, List, [], ◌∷◌, Bool, true, ◌&&◌, Option, Some, None, codes, if◌then◌else◌}
use Rattle.std.specs.List.{fold, list_all}
use Rattle.std.specs.Str.{bytes_eq, is_utf8}
use Rattle.cs_machine.specs.declared.home.Home.{Home}

abbrev pub Variable : Type 0
Variable = List ℕ × List ℕ

abbrev pub is_setting : Variable → Bool
is_setting v = is_utf8 v.0 && is_utf8 v.1

abbrev pub is_text_home : Option Home → Bool
is_text_home None = true
is_text_home (Some home) = is_utf8 home.user && is_utf8 home.folder

abbrev pub are_texts : List ℕ → List Variable → Option Home → Bool
are_texts command env home = is_utf8 command && (list_all is_setting env && is_text_home home)

abbrev pub shell_name : List ℕ
shell_name = codes "SHELL"

abbrev pub usual_shell : List ℕ
usual_shell = codes "/bin/sh"

abbrev pub with_shell : List Variable → List Variable
with_shell env = (shell_name, usual_shell) ∷ env

abbrev pub home_name : List ℕ
home_name = codes "HOME"

abbrev pub user_settings : Option Home → List Variable
user_settings None = []
user_settings (Some home) =
    (home_name, home.folder) ∷ (codes "LOGNAME", home.user) ∷ (codes "USER", home.user) ∷ []

-- what is set before all settings
abbrev pub usual_settings : Option Home → List Variable
usual_settings home = (shell_name, usual_shell) ∷ user_settings home

abbrev pub value_with : List ℕ → Option (List ℕ) → Variable → Option (List ℕ)
value_with name before setting = if bytes_eq setting.0 name then Some setting.1 else before

-- the last setting of a name counts
abbrev pub value_of : List Variable → List ℕ → Option (List ℕ)
value_of env name = fold (value_with name) None env

abbrev pub value_after : List Variable → List Variable → List ℕ → Option (List ℕ)
value_after before env name = fold (value_with name) (value_of before name) env

-- if the user is known, what HOME is
abbrev pub folder_of : List Variable → Option Home → Option (List ℕ)
folder_of env None = None
folder_of env (Some home) = value_after (usual_settings (Some home)) env home_name

abbrev pub shell_words : List ℕ → List (List ℕ)
shell_words command = codes "-c" ∷ command ∷ []
