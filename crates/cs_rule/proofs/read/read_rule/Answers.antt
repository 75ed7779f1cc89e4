use Rattle.std.proofs.Common.{rules}
use Rattle.jiff_tz.specs.PosixReader.{read_whole}
use Rattle.cs_rule.specs.Clocks.{clock_in}
use Rattle.cs_rule.proofs.Usable.{none_if_fault}
use Rattle.cs_rule.proofs.read.read_rule.Goals as goal

-- A rule that has a fault means no clock.
pub returns-in-Some-clause-none : goal.returns-in-Some-clause-none
unfolding clock_in
returns-in-Some-clause-none c = none_if_fault c.with_summer.result (read_whole c.args.text.now) (search rules)
