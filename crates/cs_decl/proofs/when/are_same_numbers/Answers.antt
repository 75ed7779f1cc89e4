use Rattle.std.proofs.Common.{◌≡◌, ◌<◌, ◌∙◌, ℕ, Bool, true, arith, refl, sym}
use Rattle.cs_schedule.specs.Numbers.{has}
use Rattle.cs_decl.specs.When.{agree, same_numbers}
use Rattle.cs_decl.proofs.Agreements.{passes_here}
use Rattle.cs_decl.proofs.when.are_same_numbers.Goals as goal

pub loop-number-init : goal.loop-number-init
unfolding same_numbers
loop-number-init c = refl

pub loop-number-preserved : goal.loop-number-preserved
loop-number-preserved c =
    let p : ℕ → Bool = λ n. agree (has c.args.one.now n) (has c.args.other.now n) in
    let below : c.loop-number.number < 64 = omega (arith, c.loop-number-test.true) in
    let both : p c.loop-number.number ≡ true = sym (rw (c.has.ensures, c.has-in-loop-number.ensures) at c.agree.ensures) ∙ c.if-not-agree.false in
    sym (passes_here p c.loop-number.number 64 below both) ∙ c.loop-number.invariant
