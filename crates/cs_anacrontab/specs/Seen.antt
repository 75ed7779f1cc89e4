-- A line as the code holds it, wherever it lies in memory.
use Rattle.cs_anacrontab.specs.declared.line.Entry.{Entry as Held}
use Rattle.cs_anacrontab.specs.declared.line.Entry.TheVariants as held
use Rattle.cs_anacrontab.specs.Anacrontab.{Entry, Nothing, Setting, Job}

abbrev pub entry_seen : Held → Entry
entry_seen held.Nothing = Nothing
entry_seen (held.Setting name value) = Setting name.now value.now
entry_seen (held.Job period delay identifier command) = Job period delay identifier.now command.now
