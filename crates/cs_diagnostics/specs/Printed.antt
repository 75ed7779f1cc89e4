-- Findings are printed one by one, for people and for programs alike.
use Rattle.std.specs.Prelude.{◌≡◌, ◌++◌, ◌-◌, ◌∷◌, ℕ, List, length, map, string_bytes, take}
use Rattle.std.specs.List.{AllZip, concat}
use Rattle.cs_diagnostics.specs.declared.findings.Finding.{Finding}
use Rattle.cs_diagnostics.specs.declared.findings.Findings.{Findings}
use Rattle.cs_diagnostics.specs.declared.findings.TheConstants.{MAX_TOLD}
use Rattle.cs_diagnostics.specs.declared.told.Told.{Told}

-- what is odd and printed: with the faults, at most so many
abbrev pub printed_oddities : Findings → List Finding
printed_oddities f = take (MAX_TOLD - length f.faults.items) f.oddities.items

-- a text has the finding's words at the end of one of its lines
abbrev pub HasWords : Finding → List ℕ → Type 0
HasWords finding text = (front rest : List ℕ)
    × (text ≡ front ++ (string_bytes finding.words ++ 10 ∷ rest))

-- a text for each finding, in their order
abbrev pub ShowsEach : List Finding → List ℕ → Type 0
ShowsEach findings text =
    (blocks : List (List ℕ)) × AllZip HasWords findings blocks × (text ≡ concat blocks)

-- the line of a finding and its words, for people and for programs
abbrev pub words_in : Finding → ℕ × List ℕ
words_in finding = (finding.line, string_bytes finding.words)

abbrev pub words_told : Told → ℕ × List ℕ
words_told told = (told.line, string_bytes told.words)
