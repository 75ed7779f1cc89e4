-- The setting by which a gathered table is known.
use Rattle.std.specs.Prelude.{ℕ, ◌-◌, Bool, codes, bytes_eq, List}
use Rattle.std.specs.List.{list_any}
use Rattle.cs_table.specs.Setting.{SettingLine}

-- `run` recognizes a gathered table by a setting of this name (this profile)
abbrev pub mark_name : List ℕ
mark_name = codes "CRONSAFE_TABLE"

-- on line 1, `CRONSAFE_TABLE=gathered`
abbrev pub mark : SettingLine
mark = record { number = 1; name = mark_name; value = codes "gathered" }

abbrev pub is_gathered : List SettingLine → Bool
is_gathered settings = list_any (λ setting. bytes_eq setting.name mark_name) settings
