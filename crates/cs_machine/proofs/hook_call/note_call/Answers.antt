use Rattle.std.proofs.Common.{rules, inl, inr, refl}
use Rattle.cs_machine.proofs.hook_call.note_call.Goals as goal

pub returns-in_default : goal.returns-in_default
returns-in_default c = inl (search rules, inr (c.in_ok-call.ensures.none (search rules), refl))
