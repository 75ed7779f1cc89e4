use Rattle.std.proofs.Common.{◌+◌, ◌∙◌, codes, length}
use Rattle.std.proofs.lemmas.List.{take_rest}
use Rattle.cs_machine.specs.HookCall.{EndsBy}
use Rattle.cs_machine.proofs.Ends.{behind_name}
use Rattle.cs_machine.proofs.hook_call.signalled_run.Goals as goal

pub returns-clause-some : goal.returns-clause-some
returns-clause-some c =
    let ends : EndsBy c.args.words.now c.in_ok-run.run'.now (codes " signal") c.in_ok-run.field-0-1.now = c.in_ok-run.ensures.some in (
      c.in_ok-run.field-0-1.now,
      ends,
      take_rest c.args.words.now (6 + length c.in_ok-run.run'.now + 1) ∙ behind_name c.args.words.now c.in_ok-run.run'.now c.in_ok-run.field-0-1.now ends,
    )
