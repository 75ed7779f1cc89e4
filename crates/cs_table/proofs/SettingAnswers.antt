-- What a call answered of a setting.
use Rattle.std.proofs.Common.{◌≡◌, ℕ, List, Option, Some, None, sym, ◌∙◌}
use Rattle.std.specs.Prelude.{IfSome, IsNone}
use Rattle.std.specs.Option.{option_map}
use Rattle.std.specs.Borrow.{Bor}
use Rattle.cs_table.specs.Setting.{IsSetting}
use Rattle.cs_table.specs.SettingReading.{setting_of}
use Rattle.cs_table.proofs.Settings.{setting_takes, setting_again}

abbrev Lent : Type 0
Lent = Bor (List ℕ)

pub setting_written : (text : List ℕ) (answer : Option (Lent × Lent)) → option_map (λ x. (x.0.now, x.1.now)) answer ≡ setting_of text → IfSome answer (λ x. IsSetting text x.0.now x.1.now)
setting_written text None is = tt
setting_written text (Some x) is = setting_takes text x.0.now x.1.now (sym is)

none_some : (x : List ℕ × List ℕ) → ◌≡◌ {A = Option (List ℕ × List ℕ)} None (Some x) → ⊥
none_some x e = cc

pub setting_none : (text : List ℕ) (answer : Option (Lent × Lent)) → option_map (λ x. (x.0.now, x.1.now)) answer ≡ setting_of text → IsNone answer → (name value : List ℕ) → IsSetting text name value → ⊥
setting_none text None is none name value written = none_some (name, value) (is ∙ setting_again text name value written)
setting_none text (Some x) is none name value written = absurd cc
