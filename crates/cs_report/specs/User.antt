-- Commands that seem to follow a user, as in tables with a user column (this profile).
use Rattle.std.specs.Prelude.{ℕ, ◌==◌, nat_le, not, Bool, false, ◌&&◌, ◌||◌, List, [], ◌∷◌, codes}
use Rattle.std.specs.Char.{is_ascii_lowercase}
use Rattle.std.specs.List.{list_all, list_any, slice_split}
use Rattle.std.specs.Str.{bytes_eq}
use Rattle.cs_crontab.specs.Crontab.{CommandLine}
use Rattle.cs_report.specs.declared.user.TheConstants.{SYSTEM_USERS, USUAL_WORDS}
use Rattle.cs_table.specs.Text.{after, front, is_blank, is_digit, is_solid}

-- users that systems and their packages have, and words with which commands usually begin: the
-- lists are the program's own
unfoldable pub system_users : List ℕ
system_users = SYSTEM_USERS.now

unfoldable pub usual_words : List ℕ
usual_words = USUAL_WORDS.now

-- The word is one of those in the list, which have a space between them.
abbrev pub is_one_of : List ℕ → List ℕ → Bool
is_one_of list word = list_any (λ known. bytes_eq known word) (slice_split (λ b. b == 32) list)

-- Commands usually begin with the word, and no user of a system has it as its name.
abbrev pub is_no_user : List ℕ → Bool
is_no_user word = is_one_of usual_words word
    && (not (is_one_of system_users word) && not (bytes_eq word (codes "mail")))

abbrev pub is_name_byte : ℕ → Bool
is_name_byte b = is_ascii_lowercase b || is_digit b || b == 45 || b == 46 || b == 95

-- a name: a lower-case letter, and then such letters, digits, `-`, `.` and `_`
abbrev pub is_name : List ℕ → Bool
is_name [] = false
is_name (b ∷ bs) = is_ascii_lowercase b && list_all is_name_byte bs

-- `_` and a name: users of Debian's packages are called so (Debian Policy 9.2.1)
abbrev pub is_package_user : List ℕ → Bool
is_package_user [] = false
is_package_user (b ∷ bs) = b == 95 && is_name bs

-- The word begins with `$`, `(`, `/`, `[`, `{` or `~`.
abbrev pub is_sign : List ℕ → Bool
is_sign [] = false
is_sign (b ∷ bs) = b == 36 || b == 40 || b == 47 || b == 91 || b == 123 || b == 126

-- The word sets a variable: it begins with a capital letter, and has a `=` after it.
abbrev pub is_assignment : List ℕ → Bool
is_assignment [] = false
is_assignment (b ∷ bs) = nat_le 65 b && nat_le b 90 && list_any (λ b. b == 61) bs

-- With such a word a command begins.
unfoldable pub begins_command : List ℕ → Bool
begins_command word = is_sign word || is_assignment word || is_one_of usual_words word

abbrev pub first_word : List ℕ → List ℕ
first_word text = front is_solid text

abbrev pub second_word : List ℕ → List ℕ
second_word text = front is_solid (after is_blank (after is_solid text))

-- a command on another line with the same first word, and a command after it too
abbrev pub is_alike : CommandLine → CommandLine → Bool
is_alike line other = not (other.number == line.number)
    && bytes_eq (first_word other.command) (first_word line.command)
    && begins_command (second_word other.command)

-- The first word is `root`. Or the second one begins a command, and the first is a user of a
-- system, or `_` and a name, or a name and no usual word that stands so on another line too.
unfoldable pub is_behind_user : List CommandLine → CommandLine → Bool
is_behind_user lines line =
    bytes_eq (first_word line.command) (codes "root")
    || (begins_command (second_word line.command)
    && (is_one_of system_users (first_word line.command)
    || is_package_user (first_word line.command)
    || (is_name (first_word line.command)
    && not (is_one_of usual_words (first_word line.command))
    && list_any (is_alike line) lines)))
