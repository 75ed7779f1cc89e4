use Rattle.std.proofs.Common.{true≢false, sym}
use Rattle.std.proofs.lemmas.Str.{IsUtf8-from_ascii}
use Rattle.cs_machine.proofs.Users.{number_ascii}
use Rattle.cs_machine.proofs.user.is_up_to.Goals as goal

pub returns-in_default : goal.returns-in_default
returns-in_default c = (
  λ yes. absurd (true≢false (sym yes)),
  λ up. absurd (c.in_default.ensures.cases.0 (IsUtf8-from_ascii c.args.text.now (number_ascii c.args.text.now up.0))),
)
