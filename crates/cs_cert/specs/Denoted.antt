-- The certificate that bytes denote, or their fault.
use Rattle.std.specs.Prelude.{ℕ, ℤ, pos, Bool, false, not, ◌==◌, ◌||◌, nat_lt, List, [], ◌∷◌, length, Option, Some, None, option_and_then, Result, Ok, Err, codes, if◌then◌else◌}
use Rattle.std.specs.Ordering.{int_eq}
use Rattle.serde_json.specs.Data.{Data}
use Rattle.serde_json.specs.Find.{as_integer, as_number, get}
use Rattle.cs_json.specs.Bytes.{json_of}
use Rattle.cs_json.specs.Gives.{◌>>=◌}
use Rattle.cs_json.specs.Shape.{is_among, list_as, member_as, object_with}
use Rattle.cs_json.specs.declared.fault.JsonFault.{JsonFault}
use Rattle.cs_claims.specs.declared.fault.CertFault.{CertFault}
use Rattle.cs_claims.specs.declared.fault.CertFault.TheVariants.{TooLong, NotJson, BadVersion, BadShape}
use Rattle.cs_claims.specs.Content.{Content, StretchTree}
use Rattle.cs_claims.specs.Rules.{judged}
use Rattle.cs_cert.specs.Said.{carry_class_said, class_said, held, reach_said}
use Rattle.cs_cert.specs.TreeSaid.{day_tree_said, minute_tree_said}

-- `{"of": [classes], "tree": minute tree}`
abbrev pub stretch_said : Data → Result StretchTree JsonFault
stretch_said d = do
  o ← object_with (is_among (codes "of" ∷ codes "tree" ∷ [])) d
  of ← member_as (list_as (held 4294967295)) (codes "of") d
  tree ← member_as minute_tree_said (codes "tree") d
  Ok (record { of = of; tree = tree })

-- version 1 lists its stretches as `pairs`, version 2 as `stretches`
abbrev pub stretches_name : ℕ → List ℕ
stretches_name version = if version == 2 then codes "stretches" else codes "pairs"

-- versions 1 and 2: exactly these members
unfoldable pub listed_said : ℕ → Data → Result Content JsonFault
listed_said version d = do
  o ← object_with
      (is_among (codes "classes" ∷ codes "kinds" ∷ codes "reach" ∷ codes "version"
      ∷ stretches_name version ∷ [])) d
  classes ← member_as (list_as class_said) (codes "classes") d
  kinds ← member_as day_tree_said (codes "kinds") d
  stretches ← member_as (list_as stretch_said) (stretches_name version) d
  reach ← member_as (list_as reach_said) (codes "reach") d
  Ok (record {
    version = version;
    classes = classes;
    kinds = kinds;
    stretches = stretches;
    reach = reach;
  })

-- version 3: exactly these
unfoldable pub carried_said : Data → Result Content JsonFault
carried_said d = do
  o ← object_with
      (is_among (codes "classes" ∷ codes "kinds" ∷ codes "reach" ∷ codes "version" ∷ [])) d
  classes ← member_as (list_as carry_class_said) (codes "classes") d
  kinds ← member_as day_tree_said (codes "kinds") d
  reach ← member_as (list_as reach_said) (codes "reach") d
  Ok (record { version = 3; classes = classes; kinds = kinds; stretches = []; reach = reach })

unfoldable pub content_said : Data → Result Content JsonFault
content_said d = do
  version ← member_as (held 255) (codes "version") d
  if version == 3 then carried_said d else listed_said version d

abbrev pub is_other : Option ℤ → Bool
is_other None = false
is_other (Some z) = not (int_eq z (pos 1) || (int_eq z (pos 2) || int_eq z (pos 3)))

-- the version is a whole number other than 1, 2 and 3
abbrev pub is_other_version : Data → Bool
is_other_version d =
    is_other (option_and_then as_integer (option_and_then as_number (get (codes "version") d)))

abbrev pub or_bad_shape : Result Content JsonFault → Result Content CertFault
or_bad_shape (Ok c) = Ok c
or_bad_shape (Err fault) = Err BadShape

-- another version comes before the shape
abbrev pub content_in : Data → Result Content CertFault
content_in d = if is_other_version d then Err BadVersion else or_bad_shape (content_said d)

abbrev pub or_not_json : Option Data → Result Data CertFault
or_not_json (Some d) = Ok d
or_not_json None = Err NotJson

abbrev pub json_in : List ℕ → Result Data CertFault
json_in bytes = or_not_json (json_of bytes)

-- one step after another: the first fault is the answer
infixl 10 ◌then◌
abbrev pub ◌then◌ : {A B : Type 0} → Result A CertFault → (A → Result B CertFault)
    → Result B CertFault
(Ok x) then f = f x
(Err fault) then f = Err fault

-- the text's length, its JSON, its version, its shape, and then the rules by number
unfoldable pub certificate_by : List ℕ → Result Content CertFault
certificate_by bytes = if nat_lt 16_777_216 (length bytes) then Err TooLong
    else (json_in bytes) then (λ d. (content_in d) then judged)
