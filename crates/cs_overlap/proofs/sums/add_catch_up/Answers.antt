use Rattle.std.proofs.Common.{List, subst}
use Rattle.cs_windows.specs.declared.window.Window.{Window}
use Rattle.cs_overlap.specs.declared.table.Amount.TheVariants.{CatchWeight}
use Rattle.cs_overlap.specs.Sums.{IsGreatest, amount_in}
use Rattle.cs_overlap.proofs.SumLemmas.{caught_from}
use Rattle.cs_overlap.proofs.sums.add_catch_up.Goals as goal

pub returns-clause-each : goal.returns-clause-each
returns-clause-each c =
    let roles = c.args.roles.now in
    let catch = c.greatest-catch_up.result in
    let among = subst (λ (ws : List Window). IsGreatest (amount_in roles CatchWeight) ws catch) c.requires.others c.greatest-catch_up.ensures.each in
    caught_from roles c.args.windows.now c.args.table.now catch c.add_greater.new.load among c.add_greater.ensures.each
