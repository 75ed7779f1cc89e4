use Rattle.std.proofs.Common.{◌∙◌, sym, arith}
use Rattle.cs_machine.proofs.Shapes.{shaped, unshaped}
use Rattle.cs_machine.proofs.output.is_moment.Goals as goal

pub returns-then-zeroed-at : goal.returns-then-zeroed-at
returns-then-zeroed-at c =
    sym (unshaped c.args.text.now c.loop-at.at (omega (arith, c.loop-at-test.true, c.if-text.false)) (λ fits. c.if-zeroed-at.true (c.zeroed.ensures ∙ fits)))

pub returns : goal.returns
returns c = sym (shaped c.args.text.now c.if-text.false (λ k low. c.loop-at.invariant k (omega (arith, low, c.loop-at-test.false))))
