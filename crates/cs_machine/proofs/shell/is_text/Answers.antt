use Rattle.std.proofs.Common.{◌∙◌}
use Rattle.cs_machine.proofs.Texts.{utf8_ok}
use Rattle.cs_machine.proofs.shell.is_text.Goals as goal

pub returns : goal.returns
returns c = c.is_ok.ensures.value ∙ utf8_ok c.args.bytes.now _ _ c.from_utf8.result c.from_utf8.ensures.cases
