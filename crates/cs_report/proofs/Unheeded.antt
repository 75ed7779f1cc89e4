-- One setting more of a table.
use Rattle.std.proofs.Common.{◌≡◌, ℕ, suc, ◌+◌, ◌<◌, ◌≤◌, true, false, List, ◌∷◌, ◌++◌, length, get_or, drop, refl, sym, ap, ◌∙◌, append_assoc, arith}
use Rattle.std.proofs.lemmas.List.{append-nil}
use Rattle.std.proofs.Math.Seq.{drop-cons}
use Rattle.std.proofs.Math.ListN.{drop_of_length-le}
use Rattle.cs_table.specs.Setting.{SettingLine}
use Rattle.cs_report.specs.Warning.{is_unheeded, warning, warnings_of}

of_heeded : (table : List ℕ) (setting : SettingLine) (others : List SettingLine) → is_unheeded setting ≡ false → warnings_of table (setting ∷ others) ≡ warnings_of table others
unfolding warnings_of
of_heeded table setting others is = rw is refl

of_unheeded : (table : List ℕ) (setting : SettingLine) (others : List SettingLine) → is_unheeded setting ≡ true → warnings_of table (setting ∷ others) ≡ warning table setting ++ warnings_of table others
unfolding warnings_of
of_unheeded table setting others is = rw is refl

pub of_nothing : (table : List ℕ) (settings : List SettingLine) (i : ℕ) (text : List ℕ) → length settings ≤ i → text ++ warnings_of table (drop i settings) ≡ text
unfolding warnings_of
of_nothing table settings i text past = ap (λ (l : List SettingLine). text ++ warnings_of table l) (drop_of_length-le settings past) ∙ append-nil text

module _ (table : List ℕ) (settings : List SettingLine) (i : ℕ) (setting : SettingLine) (below : i < length settings) (is : setting ≡ get_or settings i setting) where
  here : drop i settings ≡ setting ∷ drop (i + 1) settings
  here =
      let e : suc i ≡ i + 1 = omega arith in
      drop-cons settings i setting below ∙ ap (λ n. get_or settings i setting ∷ drop n settings) e ∙ ap (λ (s : SettingLine). s ∷ drop (i + 1) settings) (sym is)

  pub heeded : (text : List ℕ) → is_unheeded setting ≡ false → text ++ warnings_of table (drop (i + 1) settings) ≡ text ++ warnings_of table (drop i settings)
  heeded text no-warning = ap (λ (l : List ℕ). text ++ l) (sym (of_heeded table setting (drop (i + 1) settings) no-warning) ∙ ap (warnings_of table) (sym here))

  pub unheeded : (text : List ℕ) → is_unheeded setting ≡ true → (text ++ warning table setting) ++ warnings_of table (drop (i + 1) settings) ≡ text ++ warnings_of table (drop i settings)
  unheeded text warned =
      append_assoc text (warning table setting) (warnings_of table (drop (i + 1) settings))
      ∙ ap (λ (l : List ℕ). text ++ l) (sym (of_unheeded table setting (drop (i + 1) settings) warned) ∙ ap (warnings_of table) (sym here))
