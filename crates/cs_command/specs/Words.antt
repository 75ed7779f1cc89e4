-- The words of a command that a shell (sh(1)) takes literally; and the programs that a text names,
-- whatever a shell makes of it.
use Rattle.std.specs.Prelude.{ℕ, zero, suc, List, [], ◌∷◌, ◌++◌, length, codes, bytes_eq, count_by, Option, None, Some, option_map, unwrap_or, Bool, false, not, ◌&&◌, ◌||◌, ◌==◌, if◌then◌else◌}
use Rattle.std.specs.Char.{is_ascii_alphanumeric}
use Rattle.std.specs.List.{ends_with, list_all, list_any, slice_split, starts_with}
use Rattle.cs_table.specs.Text.{after, front, is_blank, is_nothing, is_solid, begins_with, is_digit}
use Rattle.cs_table.specs.SettingReading.{◌>>=◌}
use Rattle.cs_command.specs.declared.named.Kind.{Kind}
use Rattle.cs_command.specs.declared.named.Kind.TheVariants.{Locks, Leaves, Limits}
use Rattle.cs_command.specs.declared.words.Class.{Class}
use Rattle.cs_command.specs.declared.words.Class.TheVariants.{Inner, Unsigned, Quoted, Name}

abbrev pub is_of : List ℕ → ℕ → Bool
is_of bytes byte = list_any (λ b. b == byte) bytes

abbrev pub is_among : List (List ℕ) → List ℕ → Bool
is_among words word = list_any (λ w. bytes_eq w word) words

-- the list has a blank between its words
abbrev pub is_one_of : List ℕ → List ℕ → Bool
is_one_of list word = list_any (λ known. bytes_eq known word) (slice_split (λ b. b == 32) list)

-- a shell takes such a byte literally (sh(1)), and a blank in quotes too
unfoldable pub is_plain_byte : ℕ → Bool
is_plain_byte byte = is_ascii_alphanumeric byte || is_of (codes "_./:=@%+,-") byte

abbrev pub is_quoted_byte : ℕ → Bool
is_quoted_byte byte = is_plain_byte byte || is_blank byte

-- these end the words of a program, or redirect its input or output (sh(1))
abbrev pub is_sign : ℕ → Bool
is_sign byte = is_of (codes ";&|()<>") byte

-- a byte in the name of a setting
abbrev pub is_name_byte : ℕ → Bool
is_name_byte byte = is_ascii_alphanumeric byte || byte == 95

abbrev pub holds : Class → ℕ → Bool
holds Inner = λ byte. not (is_blank byte || is_sign byte)
holds Unsigned = λ byte. not (is_sign byte)
holds Quoted = is_quoted_byte
holds Name = is_name_byte

-- blanks end a word
abbrev pub first_word : List ℕ → List ℕ
first_word text = front is_solid text

abbrev pub behind_word : List ℕ → List ℕ
behind_word text = after is_blank (after is_solid text)

-- after a plain word, or after a certain one
unfoldable pub behind_plain : List ℕ → Option (List ℕ)
behind_plain text =
    if is_nothing (first_word text) || not (list_all is_plain_byte (first_word text)) then None
    else Some (behind_word text)

abbrev pub behind_this : List ℕ → List ℕ → Option (List ℕ)
behind_this word text = if bytes_eq (first_word text) word then Some (behind_word text) else None

-- a word in quotes, after the first of them, and what follows
abbrev pub quoted_at : ℕ → List ℕ → Option (List ℕ × List ℕ)
quoted_at quote text =
    if bytes_eq (first_word (after is_quoted_byte text)) (quote ∷ [])
    then Some (front is_quoted_byte text, behind_word (after is_quoted_byte text)) else None

-- a word, plain or in quotes, and what follows
unfoldable pub word_at : List ℕ → Option (List ℕ × List ℕ)
word_at [] = None
word_at (byte ∷ bytes) =
    if is_of (codes "'\"") byte then quoted_at byte bytes
    else option_map (λ rest. (first_word (byte ∷ bytes), rest)) (behind_plain (byte ∷ bytes))

abbrev pub behind_one : List ℕ → Option (List ℕ)
behind_one text = option_map (λ word. word.1) (word_at text)

-- after all that `behind` passes, at most so often
unfoldable pub passed : (List ℕ → Option (List ℕ)) → ℕ → List ℕ → List ℕ
passed behind zero text = text
passed behind (suc most) text = unwrap_or (option_map (passed behind most) (behind text)) text

abbrev pub behind_all : (List ℕ → Option (List ℕ)) → List ℕ → List ℕ
behind_all behind text = passed behind (length text) text

-- ---- what may precede a call of flock(1) or timeout(1): settings, guards, nice(1), ionice(1)

-- `NAME=`
unfoldable pub is_setting : List ℕ → Bool
is_setting [] = false
is_setting (byte ∷ bytes) =
    (is_name_byte byte && not (is_digit byte)) && begins_with 61 (after is_name_byte bytes)

-- after `[ WORDS ] &&`, `test WORDS &&` or `cd WORDS &&`
unfoldable pub behind_guard : List ℕ → Option (List ℕ)
behind_guard text =
    if bytes_eq (first_word text) (codes "[")
    then behind_this (codes "]") (behind_all behind_one (behind_word text))
    >>= behind_this (codes "&&")
    else if is_one_of (codes "test cd") (first_word text)
    then behind_this (codes "&&") (behind_all behind_one (behind_word text)) else None

-- after an option and its value, which may be the next word
unfoldable pub behind_nice_option : List ℕ → Option (List ℕ)
behind_nice_option text =
    if not (begins_with 45 text) then None
    else if is_one_of (codes "-n -c --adjustment --class --classdata") (first_word text)
    then behind_plain (behind_word text) else behind_plain text

unfoldable pub behind_front : List ℕ → Option (List ℕ)
behind_front text =
    if is_setting (first_word text) then behind_plain text
    else if is_one_of
    (codes "nice /bin/nice /usr/bin/nice ionice /bin/ionice /usr/bin/ionice") (first_word text)
    then Some (behind_all behind_nice_option (behind_word text)) else behind_guard text

-- ---- programs that a text names

-- the last part of a path; `name` is what follows the last slash so far
unfoldable pub name_from : List ℕ → List ℕ → List ℕ
name_from name [] = name
name_from name (byte ∷ bytes) = name_from (if byte == 47 then bytes else name) bytes

unfoldable pub is_locker : List ℕ → Bool
is_locker name =
    is_one_of (codes "flock lockfile lockfile-create dotlockfile setlock s6-setlock chpst run-one "
    ++ codes "solo lckdo with-lock-ex sem lockrun") name

-- a program that may give up a lock before it ends, close descriptors, run others, or remove files
unfoldable pub is_leaver : List ℕ → Bool
is_leaver name =
    is_one_of (codes "sudo doas su ssh at batch systemd-run start-stop-daemon screen tmux script "
    ++ codes "docker podman setsid nohup sh bash env xargs rm mv unlink daemonize") name

-- a program that runs a file named in a later word; its name may end in a version
unfoldable pub is_runner : List ℕ → Bool
is_runner name = list_any (λ known. starts_with (λ a b. a == b) name known)
    (slice_split (λ b. b == 32) (codes "run-parts python perl php ruby node java dash ksh zsh"))

-- such a program, or a path to one
unfoldable pub is_kind : Kind → List ℕ → Bool
is_kind Locks word =
    ends_with (λ a b. a == b) word (codes ".flock") || is_locker (name_from word word)
is_kind Leaves word = is_leaver (name_from word word)
is_kind Limits word = bytes_eq (name_from word word) (codes "timeout")

-- an absolute path or a bare name of a program that neither leaves a lock nor runs a named file
unfoldable pub is_own : List ℕ → Bool
is_own word = (begins_with 47 word || bytes_eq (name_from word word) word)
    && (not (is_leaver (name_from word word)) && not (is_runner (name_from word word)))

-- The names and paths of programs have no other bytes: a blank, a quote and the shell's signs
-- separate them.
unfoldable pub is_parting : ℕ → Bool
is_parting byte = not (is_ascii_alphanumeric byte || is_of (codes "/._-+") byte)

abbrev pub count_of : Kind → List ℕ → ℕ
count_of kind text = count_by (is_kind kind) (slice_split is_parting text)

abbrev pub names_lock : List ℕ → Bool
names_lock text = not (count_of Locks text == 0)
