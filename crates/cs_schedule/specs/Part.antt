-- The ranges of the five time and date fields (crontab(5)).
use Rattle.std.specs.Prelude.{ℕ}
use Rattle.cs_schedule.specs.declared.part.Part.{Part}
use Rattle.cs_schedule.specs.declared.part.Part.TheVariants.{Minute, Hour, Dom, Month, Dow}

abbrev pub first_of : Part → ℕ
first_of Minute = 0
first_of Hour = 0
first_of Dom = 1
first_of Month = 1
first_of Dow = 0

-- 0 and 7 are both Sunday
abbrev pub last_of : Part → ℕ
last_of Minute = 59
last_of Hour = 23
last_of Dom = 31
last_of Month = 12
last_of Dow = 7
