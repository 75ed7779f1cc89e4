-- Which lock a command holds while it runs: that of a plain call of flock(1), such as `A=b [ -x
-- /bin/c ] && nice -n 5 flock -n /run/d c --all "e f" >>/var/log/c 2>&1`.
use Rattle.std.specs.Prelude.{ℕ, List, [], ◌∷◌, ◌++◌, drop, codes, Option, None, Some, is_none, Bool, not, ◌&&◌, ◌||◌, ◌==◌, if◌then◌else◌, zero, suc, length, bytes_eq, count_by, is_some, option_map, unwrap_or, true, false, ◌≡◌}
use Rattle.std.specs.List.{slice_split, starts_with}
use Rattle.cs_table.specs.SettingReading.{◌>>=◌}
use Rattle.cs_table.specs.Text.{after, begins_with, is_blank, is_nothing}
use Rattle.cs_crontab.specs.Command.{parts_from, pieces_of}
use Rattle.cs_history.specs.declared.mode.Mode.{Mode}
use Rattle.cs_history.specs.declared.mode.Mode.TheVariants as modes
use Rattle.cs_command.specs.Words.{behind_front, behind_all, behind_one, behind_plain, behind_this, behind_word, count_of, first_word, is_among, is_one_of, names_lock, word_at}
use Rattle.cs_command.specs.declared.named.Kind.TheVariants.{Locks, Leaves}
use Rattle.cs_command.specs.declared.lock.Lock.{Lock}
use Rattle.cs_command.specs.declared.lock.Lock.TheVariants.{Absent, Of, Unread}

-- ---- the path of a lock file: which file it is, and how often it is in a text

abbrev pub is_below : List ℕ → List ℕ → Bool
is_below folder path = starts_with (λ a b. a == b) path folder

-- An absolute path without an empty part, `.` or `..`. Below /proc or /dev each process may have
-- another file.
unfoldable pub is_file : List ℕ → Bool
is_file path = is_below (codes "/") path && (count_by (is_among ([] ∷ codes "." ∷ codes ".." ∷ []))
    (slice_split (λ b. b == 47) path) == 1
    && (not (is_below (codes "/proc/") path) && not (is_below (codes "/dev/") path)))

-- /var/run is /run, and /var/lock is /run/lock
unfoldable pub behind_var : List ℕ → List ℕ
behind_var path = if is_below (codes "/var/run/") path || is_below (codes "/var/lock/") path
    then drop 4 path else path

unfoldable pub real_path : List ℕ → List ℕ
real_path path = if is_below (codes "/var/lock/") path then codes "/run" ++ behind_var path
    else behind_var path

-- the end that all spellings of a path have
unfoldable pub common_path : List ℕ → List ℕ
common_path path = if is_below (codes "/run/lock/") (behind_var path) then drop 4 (behind_var path)
    else behind_var path

-- after the first byte of the first place of a text in another one
unfoldable pub behind_place : List ℕ → List ℕ → Option (List ℕ)
behind_place part [] = None
behind_place part (byte ∷ bytes) =
    if is_below part (byte ∷ bytes) then Some bytes else behind_place part bytes

abbrev pub has_one_place : List ℕ → List ℕ → Bool
has_one_place part text = is_none (behind_place part text >>= behind_place part)

-- ---- options of flock(1)

abbrev pub is_shared : List ℕ → Bool
is_shared word = is_one_of (codes "-s --shared") word

abbrev pub is_exclusive : List ℕ → Bool
is_exclusive word = is_one_of (codes "-x -e --exclusive") word

-- a wait of 0 seconds is none (flock(1))
abbrev pub is_at_once : List ℕ → Bool
is_at_once word = is_one_of (codes "-n -xn -nx -en -ne --nb --nonblock --nonblocking -w0 --wait=0 "
    ++ codes "--timeout=0") word

unfoldable pub behind_option : List ℕ → Option (List ℕ)
behind_option text =
    if is_one_of (codes "-w --wait --timeout") (first_word text)
    then behind_this (codes "0") (behind_word text)
    else if is_shared (first_word text)
    || (is_exclusive (first_word text) || is_at_once (first_word text))
    then Some (behind_word text) else None

-- Whether the lock is shared, and given up at once, with one more option. The last of -s and -x
-- counts.
abbrev pub with_option : Bool × Bool → List ℕ → Bool × Bool
with_option asked option =
    if is_shared option then (true, asked.1)
    else if is_exclusive option then (false, asked.1) else (asked.0, true)

-- with all options, at most so many
unfoldable pub asked_in : ℕ → Bool × Bool → List ℕ → Bool × Bool
asked_in zero asked text = asked
asked_in (suc most) asked text = unwrap_or
    (option_map (asked_in most (with_option asked (first_word text))) (behind_option text)) asked

abbrev pub mode_of : Bool × Bool → Option Mode
mode_of asked = if asked.0 && asked.1 then None
    else Some (if asked.0 then modes.Shared else if asked.1 then modes.Try else modes.Wait)

-- ---- the program

-- after `<`, `>`, `>>`, `2>` or `2>>`; empty without it
unfoldable pub behind_sign : List ℕ → List ℕ
behind_sign text =
    if is_below (codes "2>>") text then drop 3 text
    else if is_below (codes "2>") text || is_below (codes ">>") text then drop 2 text
    else if is_below (codes "<") text || is_below (codes ">") text then drop 1 text
    else []

unfoldable pub behind_redirection : List ℕ → Option (List ℕ)
behind_redirection text =
    if bytes_eq (first_word text) (codes "2>&1") then Some (behind_word text)
    else behind_plain (after is_blank (behind_sign text))

-- a program with words, and redirections at the end
unfoldable pub is_program : List ℕ → Bool
is_program text = not (begins_with 45 text) && (is_some (word_at text)
    && is_nothing (behind_all behind_redirection (behind_all behind_one text)))

-- after `-c`, if it is there
unfoldable pub behind_c : List ℕ → List ℕ
behind_c text =
    if is_one_of (codes "-c --command") (first_word text) then behind_word text else text

-- An absolute path, and a program that keeps the lock to its end: nothing else locks a file or may
-- leave the lock, and the path is nowhere else in the text.
unfoldable pub is_held : List ℕ → List ℕ × List ℕ → Bool
is_held text word = is_file word.0 && (is_program (behind_c word.1) && (count_of Leaves word.1 == 0
    && (count_of Locks text == 1 && has_one_place (common_path word.0) text)))

-- the file and the mode of a call, and what follows the file; the text begins with the options
abbrev pub called : List ℕ → List ℕ → Option ((List ℕ × Mode) × List ℕ)
called text rest = word_at (behind_all behind_option rest) >>= λ word.
    if is_held text word then option_map (λ mode. ((word.0, mode), word.1))
    (mode_of (asked_in (length rest) (false, false) rest)) else None

-- the file and the mode of a plain call, and what follows the file
unfoldable pub call_in : List ℕ → Option ((List ℕ × Mode) × List ℕ)
call_in text = if is_one_of (codes "flock /bin/flock /usr/bin/flock")
    (first_word (behind_all behind_front text))
    then called text (behind_word (behind_all behind_front text)) else None

-- what the shell gets, if the command has no input (crontab(5))
abbrev pub alone : List ℕ × Option (List ℕ) → Option (List ℕ)
alone parts = if is_none parts.1 then Some parts.0 else None

-- the file and the mode of the lock that a command holds while it runs
abbrev pub lock_of : List ℕ → Option (List ℕ × Mode)
lock_of command = option_map (λ call. (real_path call.0.0, call.0.1))
    (alone (parts_from (pieces_of command)) >>= call_in)

-- the command's lock; without one, whether the command names a program that locks files
abbrev pub IsLock : List ℕ → Lock → Type 0
IsLock command Absent = (names_lock command ≡ false) × (lock_of command ≡ None)
IsLock command (Of file mode) = lock_of command ≡ Some (file, mode)
IsLock command Unread = (names_lock command ≡ true) × (lock_of command ≡ None)
