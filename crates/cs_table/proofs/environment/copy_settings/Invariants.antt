use Rattle.std.proofs.Common.{◌≡◌, take}
use Rattle.cs_table.proofs.environment.copy_settings.Given as goal

abbrev pub invariant-loop-setting : goal.invariant-loop-setting
invariant-loop-setting l = l.copies ≡ take l.setting-index l.settings
