use Rattle.std.proofs.Common.{rules, ◌≡◌, All, [], ◌∷◌, ◌++◌, sym, subst}
use Rattle.std.proofs.lemmas.List.Elements.{All-push}
use Rattle.cs_machine.specs.Runners.{IsMadeBy}
use Rattle.cs_machine.proofs.runners.runners_by.Goals as goal

pub loop-preserved : goal.loop-preserved
loop-preserved g c =
    let items : c.push.new.self.items ≡ c.loop.runners.items ++ c.in_ok-runner_by.field-0 ∷ [] = search rules in
    let made : All (IsMadeBy (goal.F-post g c.args.new_runner.now) c.args.words) (c.loop.runners.items ++ c.in_ok-runner_by.field-0 ∷ []) =
    All-push (IsMadeBy (goal.F-post g c.args.new_runner.now) c.args.words) c.loop.runners.items c.in_ok-runner_by.field-0 c.loop.invariant.1 c.in_ok-runner_by.ensures in
    (search rules, subst (λ xs. All (IsMadeBy (goal.F-post g c.args.new_runner.now) c.args.words) xs) (sym items) made)
