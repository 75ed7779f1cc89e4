-- What a daemon leaves in the file of its lock.
use Rattle.std.specs.Prelude.{ℕ, nat_eq, if◌then◌else◌, List, drop, codes}
use Rattle.std.specs.List.{starts_with}
use Rattle.cs_table.specs.SettingReading.{trimmed}
use Rattle.cs_machine.specs.declared.last_word.StampsLeft.{StampsLeft}
use Rattle.cs_machine.specs.declared.last_word.StampsLeft.TheVariants.{AllWritten, Unknown, Unwritten}

-- unknown where a daemon hasn't ended by itself; blanks at the end don't count
unfoldable pub left_in : List ℕ → StampsLeft
left_in text =
    if starts_with nat_eq text (codes "a daemon goes on") then Unknown
    else if starts_with nat_eq text (codes "stamps not written: ")
    then Unwritten (trimmed (drop 20 text))
    else AllWritten
