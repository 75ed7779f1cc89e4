use Rattle.std.proofs.Common.{◌∙◌, ℕ, List, Bor, ap, option_map, sym}
use Rattle.cs_command.specs.Locks.{behind_option, with_option}
use Rattle.cs_command.proofs.Found.{next_asked}
use Rattle.cs_command.proofs.Passed.{next_passed}
use Rattle.cs_command.proofs.flock.options.Goals as goal

pub loop-preserved : goal.loop-preserved
loop-preserved c =
    let is = sym c.behind_option.ensures ∙ ap (option_map (λ (rest : Bor (List ℕ)). rest.now)) c.in-Some.is in
    record {
      asked = next_asked _ c.loop.counter c.loop.asked _ c.loop.rest.now c.in-Some.behind.now _ c.loop-test.true is (c.with_option-asked.ensures ∙ ap (with_option c.loop.asked) c.first_word.ensures) c.loop.invariant.asked;
      behind = next_passed behind_option _ c.loop.counter c.loop.rest.now c.in-Some.behind.now _ c.loop-test.true is c.loop.invariant.behind;
    }
