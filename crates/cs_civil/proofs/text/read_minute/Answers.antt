use Rattle.std.proofs.Common.{◌∙◌}
use Rattle.cs_civil.proofs.Texts.{one_minute}
use Rattle.cs_civil.proofs.text.read_minute.Goals as goal

pub returns-in-Some-later_minute-clause-only : goal.returns-in-Some-later_minute-clause-only
returns-in-Some-later_minute-clause-only c = λ t h. one_minute c.args.text.now t c.in-Some-later_minute.minute (c.in-Some.ensures.value.2 ∙ c.in-Some-later_minute.ensures.value.2) h
