-- Declarations in which one member has another value, and what is pasted to get them.
use Rattle.std.specs.Prelude.{◌≡◌, ◌⊎◌, ℕ, List, ◌++◌, [], IsSome, codes, map}
use Rattle.std.specs.Prelude.{if◌then◌else◌, nat_lt}
use Rattle.serde_json.specs.Data.{array, item, no_items, number, unsigned}
use Rattle.serde_json.specs.Written.{compact_text}
use Rattle.cs_plan.specs.Plan.{Declared, job_at}
use Rattle.cs_history.specs.declared.mode.Mode.{Mode as LockMode}
use Rattle.cs_history.specs.declared.mode.Mode.TheVariants as modes
use Rattle.cs_json.specs.Bytes.{json_of}
use Rattle.cs_advise.specs.Replaced.{IsReplaced}
use Rattle.cs_advise.specs.declared.change.Member.{Member}
use Rattle.cs_advise.specs.declared.change.Member.TheVariants.{Capacity, Hours, Max, Mode}

-- a member in JSON
abbrev pub member_text : List ℕ → List ℕ → List ℕ
member_text name value = codes "\"" ++ (name ++ (codes "\": " ++ value))

-- one JSON value in the text is replaced, or a member is added; all else stays
abbrev pub HasOther : List ℕ → List ℕ → List ℕ → List ℕ → Type 0
HasOther old name value new =
    ((part : List ℕ) × IsSome (json_of part) × IsReplaced old part value new)
    ⊎ IsReplaced old [] (codes ", " ++ member_text name value) new

-- a control byte as a blank: JSON has none within a word or a text
abbrev pub blank_control : ℕ → ℕ
blank_control b = if nat_lt b 32 then 32 else b

-- An entry gets another value of a member, and is pasted on one line in place of the old entry.
pub record IsEntryPut (declarations name value pasted text : List ℕ) : Type 0 where
  pub old : List ℕ
  pub new : List ℕ
  pub kept : HasOther old name value new
  pub told : pasted ≡ map blank_control new
  pub put : IsReplaced declarations old pasted text

-- a member for all jobs gets another value; it is pasted as an object of its own
abbrev pub IsMemberPut : List ℕ → List ℕ → List ℕ → List ℕ → List ℕ → Type 0
IsMemberPut declarations name value pasted text =
    HasOther declarations name value text
    × (pasted ≡ codes "{" ++ (member_text name value ++ codes "}"))

abbrev pub mode_text : LockMode → List ℕ
mode_text modes.Plain = codes "\"none\""
mode_text modes.Skip = codes "\"skip\""
mode_text modes.Try = codes "\"try\""
mode_text modes.Wait = codes "\"wait\""
mode_text modes.Shared = codes "\"shared\""

-- numbers in JSON
abbrev pub number_text : ℕ → List ℕ
number_text n = compact_text (number (unsigned n))

abbrev pub pair_text : ℕ → ℕ → List ℕ
pair_text a b = compact_text
    (array (item (number (unsigned a)) (item (number (unsigned b)) no_items)))

-- what is pasted, and the declarations with it
abbrev pub IsPut : Member → List ℕ → List ℕ → List ℕ → Type 0
IsPut (Max job max) old pasted text =
    IsEntryPut old (codes "max") (number_text max) pasted text
IsPut (Mode job mode) old pasted text =
    IsEntryPut old (codes "mode") (mode_text mode) pasted text
IsPut (Capacity capacity) old pasted text =
    IsMemberPut old (codes "capacity") (number_text capacity) pasted text
IsPut (Hours hours) old pasted text =
    IsMemberPut old (codes "hours") (pair_text hours.from hours.to) pasted text

abbrev pub HasValue : Declared → Member → Type 0
HasValue d (Max job max) = (job_at d job).max ≡ max
HasValue d (Mode job mode) = (job_at d job).mode ≡ mode
HasValue d (Capacity capacity) = d.capacity ≡ capacity
HasValue d (Hours hours) = d.hours ≡ hours
