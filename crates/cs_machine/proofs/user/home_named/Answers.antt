use Rattle.std.proofs.lemmas.Result.{IfOk-weaker}
use Rattle.cs_machine.proofs.Users.{is_named}
use Rattle.cs_machine.proofs.user.home_named.Goals as goal

pub returns-in-Some-clause-user : goal.returns-in-Some-clause-user
returns-in-Some-clause-user c = IfOk-weaker c.home_on.result _ _ (λ home is. is_named c.args.name.now c.args.text.now c.in-Some.line.now home c.in-Some.ensures is) c.home_on.ensures
