-- A line as the code holds it, wherever it lies in memory.
use Rattle.cs_crontab.specs.declared.line.Entry.{Entry as Held}
use Rattle.cs_crontab.specs.declared.line.Entry.TheVariants as held
use Rattle.cs_crontab.specs.Crontab.{Entry, Nothing, Setting, Command}

abbrev pub entry_seen : Held → Entry
entry_seen held.Nothing = Nothing
entry_seen (held.Setting name value) = Setting name.now value.now
entry_seen (held.Command when command) = Command when command.now
