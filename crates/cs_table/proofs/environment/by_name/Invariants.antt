use Rattle.std.proofs.Common.{◌≡◌, drop, map, []}
use Rattle.cs_table.specs.Environment.{put_all, shown}
use Rattle.cs_table.proofs.environment.by_name.Given as goal

abbrev pub invariant-loop-setting : goal.invariant-loop-setting
invariant-loop-setting l = put_all l.line (map shown l.variables.entries) (drop l.setting-index l.settings) ≡ put_all l.line [] l.settings
