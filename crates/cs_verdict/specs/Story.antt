use Rattle.std.specs.Prelude.{ℕ, ◌==◌, if◌then◌else◌, List, ◌++◌, codes, map}

-- a byte of a line: a blank in place of a newline
abbrev pub on_one_line : ℕ → ℕ
on_one_line b = if b == 10 then 32 else b

-- a comment of a script, which is one line whatever its words are
unfoldable pub comment : List ℕ → List ℕ
comment words = codes "# " ++ (map on_one_line words ++ codes "\n")
