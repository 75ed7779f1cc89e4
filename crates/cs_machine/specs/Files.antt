-- The files of a folder of stamps.
use Rattle.std.specs.Prelude.{◌≡◌, ◌≢◌, ℕ, List, [], ◌++◌, Bool, false, ◌||◌, ◌==◌, codes}
use Rattle.std.specs.List.{list_any}

-- a slash, a space or a tab
abbrev pub is_kept_out : ℕ → Bool
is_kept_out b = b == 47 || b == 32 || b == 9

-- a file's name without blanks, as an identifier is
pub record IsFileName (name : List ℕ) : Type 0 where
  pub some : name ≢ []
  pub no_dot : name ≢ codes "."
  pub no_dots : name ≢ codes ".."
  pub clean : list_any is_kept_out name ≡ false

abbrev pub file_of : List ℕ → List ℕ → List ℕ
file_of folder identifier = folder ++ codes "/" ++ identifier

-- where it is written first
abbrev pub new_file_of : List ℕ → List ℕ → List ℕ
new_file_of folder identifier = file_of folder identifier ++ codes " new"

abbrev pub state_file_of : List ℕ → List ℕ
state_file_of folder = file_of folder (codes "cronsafe state")

abbrev pub runs_file_of : List ℕ → List ℕ
runs_file_of folder = file_of folder (codes "cronsafe runs")

abbrev pub answer_file_of : List ℕ → List ℕ
answer_file_of folder = file_of folder (codes "cronsafe answer")

-- the files that were accepted last
abbrev pub accepted_file_of : List ℕ → List ℕ
accepted_file_of folder = file_of folder (codes "cronsafe accepted")

abbrev pub lock_file_of : List ℕ → List ℕ
lock_file_of folder = file_of folder (codes "cronsafe lock")

abbrev pub stop_file_of : List ℕ → List ℕ
stop_file_of folder = file_of folder (codes "cronsafe stop")

abbrev pub reload_file_of : List ℕ → List ℕ
reload_file_of folder = file_of folder (codes "cronsafe reload")

-- beside the request to reload: nothing more starts before
abbrev pub drain_file_of : List ℕ → List ℕ
drain_file_of folder = file_of folder (codes "cronsafe drain")
