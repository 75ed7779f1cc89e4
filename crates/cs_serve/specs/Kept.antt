-- The files that were accepted last, and the text that holds them.
use Rattle.std.specs.Prelude.{ℕ, List, [], ◌++◌, codes, decimal, length, unwrap_or, option_copied, IfSome, Option, Some, None}
use Rattle.cs_anacrontab.specs.Faults.{IsAnacrontab}
use Rattle.cs_check.specs.Checked.{plan_in}
use Rattle.cs_ruling.specs.Check.{AreOfTexts}
use Rattle.cs_ruling.specs.declared.answer.Order.{Order}
use Rattle.cs_serve.specs.declared.kept_text.Texts.{Texts}

-- the length of a file, or a dash where there is none
abbrev pub length_line : Option (List ℕ) → List ℕ
length_line None = codes "-\n"
length_line (Some bytes) = decimal (length bytes) ++ codes "\n"

abbrev pub lengths_of : Texts → List ℕ
lengths_of t =
    length_line (Some t.table.now) ++ length_line (Some t.declarations.now)
    ++ length_line (Some t.certificate.now) ++ length_line (option_copied t.anacrontab)

abbrev pub bytes_of : Texts → List ℕ
bytes_of t = t.table.now ++ t.declarations.now ++ t.certificate.now
    ++ unwrap_or (option_copied t.anacrontab) []

-- the lengths of the files, and then their bytes
abbrev pub accepted_text : Texts → List ℕ
accepted_text t = codes "cronsafe accepted 1\n" ++ lengths_of t ++ bytes_of t

-- they are those of the order: of each the SHA-256 is known, but of the anacrontab what it denotes
pub record AreAccepted (order : Order) (t : Texts) : Type 0 where
  pub digests : AreOfTexts order.digests t.table.now t.declarations.now t.certificate.now
  pub anacrontab : IfSome (option_copied t.anacrontab)
      (λ text. IsAnacrontab text (plan_in order.checked).anacrontab)
