use Rattle.std.proofs.Common.{◌≡◌, ◌++◌, drop}
use Rattle.cs_report.specs.Warning.{warnings_of}
use Rattle.cs_report.proofs.warning.push_warnings.Given as goal

abbrev pub invariant-loop-setting : goal.invariant-loop-setting
invariant-loop-setting l = l.text.items ++ warnings_of l.table (drop l.setting-index l.settings) ≡ l.fn.text.items ++ warnings_of l.table l.settings
