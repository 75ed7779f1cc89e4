use Rattle.std.proofs.Common.{◌++◌, Bor, List, ap, option_map, subst, ℕ}
use Rattle.cs_serve.specs.Hooks.{Hook, seen}
use Rattle.cs_serve.proofs.Calls.{one_hook}
use Rattle.cs_serve.proofs.hooks.start_by.Goals as goal

pub returns : goal.returns
returns g c = λ before asked.
    let facts = c.args.facts in
    let input = option_map (λ (path : Bor (List ℕ)). path.now) c.args.input in
    let command = option_map (λ (text : Bor (List ℕ)). text.now) in
    let is = one_hook facts.call.now (seen facts.job) facts.seconds.now facts.table.now input c.args.ask.0.now c.in-Some.command.now (command c.args.ask.1) _ (ap command c.in-Some.is) c.variables_of.ensures in
    subst (λ (hooks : List Hook). g.S.Starter.asked c.start-started.new.self (before ++ hooks)) is (c.start-started.ensures before asked)
