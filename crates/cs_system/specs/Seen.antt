use Rattle.cs_system.specs.declared.line.SystemEntry.{SystemEntry}
use Rattle.cs_system.specs.declared.line.SystemEntry.TheVariants as held
use Rattle.cs_system.specs.System.{Entry, Nothing, Setting, Command}

abbrev pub entry_seen : SystemEntry → Entry
entry_seen held.Nothing = Nothing
entry_seen (held.Setting name value) = Setting name.now value.now
entry_seen (held.Command when user command) = Command when user.now command.now
