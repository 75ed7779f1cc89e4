-- What `advise` prints of changes.
use Rattle.std.specs.Prelude.{◌≡◌, ◌==◌, ◌&&◌, ◌||◌, ℕ, List, ◌++◌, codes, map, nat_lt, not}
use Rattle.std.specs.Prelude.{if◌then◌else◌}
use Rattle.std.specs.List.{AllZip, concat}
use Rattle.cs_check.specs.Checked.{plan_in}
use Rattle.cs_check.specs.declared.checked.Checked.{Checked}
use Rattle.cs_plan.specs.Plan.{Declared}
use Rattle.cs_judge.specs.Judged.{IsJudgement}
use Rattle.cs_judge.specs.declared.judged.Judged.TheVariants.{Safe}
use Rattle.cs_advise.specs.Change.{IsChanged}
use Rattle.cs_advise.specs.declared.change.Change.{Change}
use Rattle.cs_advise.specs.declared.change.Change.TheVariants.{Both, Member}
use Rattle.cs_advise.specs.declared.change.Change.TheVariants.{Start as Alone}
use Rattle.cs_advise.specs.declared.source.Source.{Source}

-- a byte as a terminal may show it: a control byte other than a tab as `?`
abbrev pub seen : ℕ → ℕ
seen b = if (nat_lt b 32 && not (b == 9)) || b == 127 then 63 else b

-- the line is some words and then this
abbrev pub EndsIn : List ℕ → List ℕ → Type 0
EndsIn line part = (words : List ℕ) × (line ≡ words ++ (part ++ codes "\n"))

-- The line of a start ends in that of the table; of two starts each has a line. The line of another
-- value ends in what is to be pasted into declarations.
abbrev pub IsLine : Change → List ℕ → List ℕ → Type 0
IsLine (Alone start) pasted line = EndsIn line (map seen start.line)
IsLine (Both one other) pasted lines = (first : List ℕ) × (last : List ℕ)
    × EndsIn first (map seen one.line) × EndsIn last (map seen other.line)
    × (lines ≡ first ++ last)
IsLine (Member member) pasted line = EndsIn line pasted

-- the plan with the change is judged safe, and the line has what to paste
pub record IsSafeLine (source : Source) (plan : Declared) (change : Change) (line : List ℕ) : Type 0
  where
    pub checked : Checked
    pub pasted : List ℕ
    pub changed : IsChanged source plan change pasted (plan_in checked)
    pub safe : IsJudgement (plan_in checked) (Safe checked)
    pub told : IsLine change pasted line

-- each change alone makes the plan safe, and the text is their lines
pub record IsAdvice (source : Source) (plan : Declared) (changes : List Change) (text : List ℕ)
    : Type 0 where
  pub lines : List (List ℕ)
  pub each : AllZip (IsSafeLine source plan) changes lines
  pub told : text ≡ concat lines
