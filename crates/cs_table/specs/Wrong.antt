-- What is wrong with a line, and where: how many bytes the line has from the wrong text on, and how
-- many the wrong text has.
use Rattle.std.specs.Prelude.{◌≡◌, ℕ, ◌+◌, ◌≤◌, true, false, nat_eq, List, [], ◌∷◌, ◌++◌, length, Result, Ok, Err}
use Rattle.std.specs.List.{list_all, list_any}
use Rattle.cs_table.specs.Text.{after, is_blank, StopsAt}
use Rattle.cs_table.specs.SettingReading.{is_other}
use Rattle.cs_table.specs.declared.fault.Wrong.{Wrong}

-- the wrong text is a part of the line
abbrev pub IsWithin : {Fault : Type 0} → List ℕ → Wrong Fault → Type 0
IsWithin line wrong = (wrong.left ≤ length line) × (wrong.length ≤ wrong.left)

-- the line ends too early
abbrev pub at_end : {Fault : Type 0} → Fault → Wrong Fault
at_end fault = record { fault = fault; left = 0; length = 0 }

-- the end of the line is wrong, from a text on
abbrev pub whole : {Fault : Type 0} → Fault → List ℕ → Wrong Fault
whole fault text = record { fault = fault; left = length text; length = length text }

-- a word at the front of a text is wrong
abbrev pub at_front : {Fault : Type 0} → Fault → List ℕ → List ℕ → Wrong Fault
at_front fault text word = record { fault = fault; left = length text; length = length word }

abbrev pub last_byte : {Fault : Type 0} → Fault → Wrong Fault
last_byte fault = record { fault = fault; left = 1; length = 1 }

-- a text is wrong, and this follows it
abbrev pub before : {Fault : Type 0} → List ℕ → Fault → List ℕ → Wrong Fault
before behind fault text =
    record { fault = fault; left = length text + length behind; length = length text }

abbrev pub at_nul : {Fault : Type 0} → Fault → List ℕ → Wrong Fault
at_nul fault line = record { fault = fault; left = length (after (is_other 0) line); length = 1 }

-- the same as a place: no zero byte is before it
abbrev pub IsNul : {Fault : Type 0} → Fault → List ℕ → Wrong Fault → Type 0
IsNul fault line wrong = (clean behind : List ℕ) × (line ≡ clean ++ (0 ∷ behind))
    × (list_any (λ b. nat_eq b 0) clean ≡ false) × (wrong ≡ before behind fault (0 ∷ []))

-- all of the line is wrong except its leading blanks
abbrev pub IsWhole : {Fault : Type 0} → Fault → List ℕ → Wrong Fault → Type 0
IsWhole fault line wrong = (indent text : List ℕ) × (line ≡ indent ++ text)
    × (list_all is_blank indent ≡ true) × StopsAt is_blank text × (wrong ≡ whole fault text)

-- what is wrong with the front of a text, where more bytes follow
abbrev pub farther : {Fault : Type 0} → ℕ → Wrong Fault → Wrong Fault
farther more wrong =
    record { fault = wrong.fault; left = wrong.left + more; length = wrong.length }

-- a reader's fault, with its place
abbrev pub marked : {A Fault : Type 0} → ℕ → ℕ → Result A Fault → Result A (Wrong Fault)
marked left size (Ok x) = Ok x
marked left size (Err fault) = Err (record { fault = fault; left = left; length = size })

-- what a reader gives of the front of a text, where more bytes follow
abbrev pub moved : {A Fault : Type 0} → ℕ → Result A (Wrong Fault) → Result A (Wrong Fault)
moved more (Ok x) = Ok x
moved more (Err wrong) = Err (farther more wrong)

-- ---- one reading after the other

infixl 10 ◌>>=◌
abbrev pub ◌>>=◌ : {A B Fault : Type 0} → Result A Fault → (A → Result B Fault) → Result B Fault
(Ok x) >>= f = f x
(Err e) >>= f = Err e

-- a function's answer, seen through `view`, is what reading gives
abbrev pub Gives : {X Y Fault : Type 0} → (X → Y) → Result X Fault → Result Y Fault → Type 0
Gives view (Ok x) read = read ≡ Ok (view x)
Gives view (Err e) read = read ≡ Err e
