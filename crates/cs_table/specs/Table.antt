-- A table read line by line: what its text denotes, or its first fault and that fault's place. What
-- a line adds, and which faults it has, each kind of table defines.
use Rattle.std.specs.Prelude.{◌≡◌, ℕ, ◌+◌, ◌-◌, ◌<◌, ◌≤◌, ◌⊎◌, nat_lt, if◌then◌else◌, List, [], ◌∷◌, ◌++◌, length, Result, Ok, Err}
use Rattle.cs_table.specs.declared.fault.Wrong.{Wrong}
use Rattle.cs_table.specs.declared.fault.TableFault.{TableFault}
use Rattle.cs_table.specs.declared.fault.TableFault.TheVariants.{At, OutOfMemory}
use Rattle.cs_table.specs.declared.limits.TheConstants.{MAX_TABLE}
use Rattle.cs_table.specs.Text.{lines_of}
use Rattle.cs_table.specs.Wrong.{◌>>=◌}

-- a fault, its line, and the column and the length of the wrong text; lines and columns from 1
pub record Found (Fault : Type 0) : Type 0 where
  pub line : ℕ
  pub column : ℕ
  pub size : ℕ
  pub fault : Fault

-- a table that is too long has its fault at line 0
abbrev pub nowhere : {Fault : Type 0} → Fault → Found Fault
nowhere fault = record { line = 0; column = 0; size = 0; fault = fault }

abbrev pub Meaning : Type 0 → Type 0 → Type 0
Meaning Table Fault = Result Table (Found Fault)

-- ---- what a table is and which fault is its first

-- how each kind of table defines itself: the table without lines, the fault of a text that is too
-- long, what a line with its number adds to the table above it, and what is wrong with it there
pub record Kind (Table Fault : Type 0) : Type 1 where
  pub empty : Table
  pub too_long : Fault
  pub Adds : ℕ → Table → List ℕ → Table → Type 0
  pub Fails : Table → List ℕ → Wrong Fault → Type 0

module _ {Table Fault : Type 0} (kind : Kind Table Fault) where
  -- the lines, of which the first has this number, make one table into the other
  abbrev pub AreAdded : ℕ → Table → List (List ℕ) → Table → Type 0
  AreAdded number table [] whole = whole ≡ table
  AreAdded number table (line ∷ lines) whole = (more : Table) × kind.Adds number table line more
      × AreAdded (number + 1) more lines whole

  -- the text is written as this table
  pub record IsTable (text : List ℕ) (table : Table) : Type 0 where
    pub short : length text ≤ MAX_TABLE
    pub lines : AreAdded 1 kind.empty (lines_of text) table

  -- the first line with a fault: the lines before it make a table, and the wrong text is a part of
  -- the line
  pub record IsFirstFault (text : List ℕ) (found : Found Fault) : Type 0 where
    pub short : length text ≤ MAX_TABLE
    pub before : List (List ℕ)
    pub line : List ℕ
    pub later : List (List ℕ)
    pub parts : lines_of text ≡ before ++ (line ∷ later)
    pub number : found.line ≡ length before + 1
    pub table : Table
    pub fine : AreAdded 1 kind.empty before table
    pub front : List ℕ
    pub wrong : List ℕ
    pub behind : List ℕ
    pub line_parts : line ≡ front ++ (wrong ++ behind)
    pub column : found.column ≡ length front + 1
    pub size : found.size ≡ length wrong
    pub fails : kind.Fails table line
        (record { fault = found.fault; left = length (wrong ++ behind); length = length wrong })

  -- the text's fault; that of its length stands at line 0
  abbrev pub IsFault : List ℕ → Found Fault → Type 0
  IsFault text found = ((MAX_TABLE < length text) × (found ≡ nowhere kind.too_long))
      ⊎ IsFirstFault text found

  -- a text is written as a table, or it has a fault
  abbrev pub Means : List ℕ → Meaning Table Fault → Type 0
  Means text (Ok table) = IsTable text table
  Means text (Err found) = IsFault text found

  -- the fault that a call answered is the text's, unless memory ran out
  abbrev pub IsFaultOf : List ℕ → TableFault Fault → Type 0
  IsFaultOf text OutOfMemory = Unit {0}
  IsFaultOf text (At line column size fault) =
      IsFault text (record { line = line; column = column; size = size; fault = fault })

-- ---- the same, read from the first line to the last

-- what a call answered is what the text means, unless memory ran out
abbrev pub Stops : {Y Fault : Type 0} → TableFault Fault → Meaning Y Fault → Type 0
Stops OutOfMemory meaning = Unit {0}
Stops (At line column size fault) meaning =
    meaning ≡ Err (record { line = line; column = column; size = size; fault = fault })

abbrev pub Denotes : {X Y Fault : Type 0} → (X → Y) → Meaning Y Fault
    → Result X (TableFault Fault) → Type 0
Denotes view meaning (Ok x) = meaning ≡ Ok (view x)
Denotes view meaning (Err e) = Stops e meaning

abbrev pub as_error : {Fault : Type 0} → Found Fault → TableFault Fault
as_error found = At found.line found.column found.size found.fault

-- what is wrong with a line, and the column where it stands
abbrev pub found_at : {Fault : Type 0} → ℕ → List ℕ → Wrong Fault → Found Fault
found_at number line wrong =
    record {
      line = number;
      column = length line - wrong.left + 1;
      size = wrong.length;
      fault = wrong.fault;
    }

abbrev pub at_line : {Y Fault : Type 0} → ℕ → List ℕ → Result Y (Wrong Fault) → Meaning Y Fault
at_line number line (Ok y) = Ok y
at_line number line (Err wrong) = Err (found_at number line wrong)

module _ {Table Fault : Type 0} (added : ℕ → Table → List ℕ → Result Table (Wrong Fault)) where
  -- the table after these lines, the first of which has this number
  unfoldable pub lines_from : ℕ → Table → List (List ℕ) → Meaning Table Fault
  lines_from number table [] = Ok table
  lines_from number table (line ∷ lines) = do
    more ← at_line number line (added number table line)
    lines_from (number + 1) more lines

  unfoldable pub table_of : Table → Fault → List ℕ → Meaning Table Fault
  table_of empty too_long text =
      if nat_lt MAX_TABLE (length text) then Err (nowhere too_long)
      else lines_from 1 empty (lines_of text)
