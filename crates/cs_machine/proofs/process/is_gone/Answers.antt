use Rattle.std.proofs.Common.{◌≡◌, ◌∙◌, ◌||◌, Bool, true, false, not, ap, sym, rules}
use Rattle.std.specs.Prelude.{bytes_eq}
use Rattle.cs_machine.specs.Runs.{is_over}
use Rattle.cs_machine.proofs.process.is_gone.Goals as goal

pub returns-then-is_over : goal.returns-then-is_over
returns-then-is_over c = λ _.
    let state = c.in-Some.state.now in
    let began = c.in-Some.began.now in
    let over : is_over state ≡ true = sym c.is_over.ensures ∙ c.if-is_over.true in
    (state, began, c.in-Some.ensures, ap (λ (b : Bool). b || not (bytes_eq began c.args.start.now)) over)

pub returns-else-is_over : goal.returns-else-is_over
returns-else-is_over c = λ yes.
    let state = c.in-Some.state.now in
    let began = c.in-Some.began.now in
    let over : is_over state ≡ false = sym c.is_over.ensures ∙ c.if-is_over.false in
    let other : not (bytes_eq began c.args.start.now) ≡ true = search rules in
    (state, began, c.in-Some.ensures, ap (λ (b : Bool). b || not (bytes_eq began c.args.start.now)) over ∙ other)
