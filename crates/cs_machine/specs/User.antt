-- A command that is run as another user (passwd(5), shadow(5), runuser(1)).
use Rattle.std.specs.Prelude.{◌≡◌, ◌≤◌, ℕ, Bool, true, false, List, [], ◌∷◌, ◌++◌, codes, flat_map, ◌==◌, Option, Some, option_and_then, option_map}
use Rattle.std.specs.List.{find, list_any}
use Rattle.std.specs.Str.Parse.{IsNumeral, digits_value, without_leading_plus}
use Rattle.std.specs.Process.{command_program, command_args, command_var, command_dir, clears_env}
use Rattle.std.specs.declared.process.command.Command.{Command}
use Rattle.cs_machine.specs.Home.{field, home_on, is_entry, lines_of}
use Rattle.cs_machine.specs.Limit.{limited}
use Rattle.cs_machine.specs.Shell.{Variable, folder_of, shell_name, usual_settings, value_of, with_shell}
use Rattle.cs_machine.specs.declared.home.Home.{Home}
use Rattle.cs_machine.specs.declared.user.UserFault.{UserFault}
use Rattle.cs_machine.specs.declared.user.UserFault.TheVariants.{Expired, Unknown, Unread}

-- ---- the user

-- the first entry of that name counts
abbrev pub home_named : List ℕ → List ℕ → Option Home
home_named name text = option_and_then home_on (find (is_entry 7 0 name) (lines_of text))

-- the day from which on an account has expired: the eighth of nine fields
abbrev pub expiry_in : List ℕ → List ℕ → Option (List ℕ)
expiry_in name text =
    option_and_then (λ line. field line 7) (find (is_entry 9 0 name) (lines_of text))

-- decimal digits, after a `+` or not, of at most that number
abbrev pub IsUpTo : ℕ → List ℕ → Type 0
IsUpTo most text = IsNumeral 10 (without_leading_plus text)
    × (digits_value 10 (without_leading_plus text) ≤ most)

-- days count from 1970-01-01; an empty field is no day
abbrev pub HasExpired : List ℕ → List ℕ → ℕ → Type 0
HasExpired name text today =
    (day : List ℕ) × (expiry_in name text ≡ Some day) × IsUpTo today day

abbrev pub why_not : UserFault → List ℕ
why_not Unknown = codes "it isn't in /etc/passwd"
why_not Expired = codes "the account has expired"
why_not Unread = codes "can't read its account"

-- ---- what runuser(1) is given

-- in a session of its own, without the terminal in which root's shell reads
abbrev pub setsid : List ℕ
setsid = codes "/usr/bin/setsid"

abbrev pub runuser : List ℕ
runuser = codes "/sbin/runuser"

-- The user's own shell goes to the folder, or stays where it is if it may not. Then env(1) sets the
-- lines of CRONSAFE_SETTINGS, nothing else, and becomes the words that follow.
abbrev pub change : List ℕ
change = codes "cd -- \"$CRONSAFE_FOLDER\"; set -f; IFS='\n'; exec env -i $CRONSAFE_SETTINGS \"$@\""

abbrev pub user_words : List ℕ → List ℕ → List ℕ → List (List ℕ)
user_words user shell text = runuser ∷ codes "-u" ∷ user ∷ codes "--" ∷ codes "/bin/sh"
    ∷ codes "-c" ∷ change ∷ codes "sh" ∷ shell ∷ codes "-c" ∷ text ∷ []

-- env(1) would take such a shell for a variable
abbrev pub has_equals : List ℕ → Bool
has_equals shell = list_any (λ b. b == 61) shell

abbrev pub usual_path : Variable
usual_path = (codes "PATH", codes "/usr/bin:/bin")

abbrev pub setting_line : Variable → List ℕ
setting_line v = v.0 ++ codes "=" ++ v.1 ++ codes "\n"

abbrev pub settings_text : List Variable → List ℕ
settings_text settings = flat_map setting_line settings

-- what runs as root sees this: no setting of the user's is a variable of its own
abbrev pub handed : List Variable → Home → List ℕ → List Variable
handed env home folder = usual_path
    ∷ (codes "CRONSAFE_SETTINGS", settings_text (usual_path ∷ (usual_settings (Some home) ++ env)))
    ∷ (codes "CRONSAFE_FOLDER", folder) ∷ []

-- timeout(1) runs in the new session: from outside, its signals wouldn't reach all in there
pub record IsAsUser {A : Type 0} (left : Option ℕ) (command : List ℕ) (env : List Variable)
    (home : Home) (started : Command A)
    : Type 0 where
  pub program : command_program started ≡ setsid
  pub words : (shell : List ℕ) × (value_of (with_shell env) shell_name ≡ Some shell)
      × (has_equals shell ≡ false)
      × (command_args started ≡ limited left ++ user_words home.user shell command)
  pub clears : clears_env started ≡ true
  pub variables : (folder : List ℕ) × (folder_of env (Some home) ≡ Some folder)
      × ((name : List ℕ)
      → command_var started name ≡ option_map Some (value_of (handed env home folder) name))
  pub folder : command_dir started ≡ Some (codes "/")
