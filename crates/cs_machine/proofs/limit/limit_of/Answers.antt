use Rattle.std.proofs.Common.{◌≡◌, ℕ, ℤ, pos, SFits, Some, None, ap, refl, rules, subst, to_z-of_z, w16}
use Rattle.cs_machine.specs.Limit.{limit_at, seconds_left}
use Rattle.cs_machine.specs.Passing.{IsMoved}
use Rattle.cs_machine.specs.declared.limit.Limit.{Limit}
use Rattle.cs_machine.proofs.limit.limit_of.Goals as goal

abbrev made : ℕ → ℕ → Limit
made second left = record { begun = second; left = left }

made_at : (second minute left : ℕ) → left ≡ seconds_left minute second → Some (made second left) ≡ Some (limit_at second minute)
made_at second minute left is = ap (λ n. Some (made second n)) is

pub returns : goal.returns
returns c =
    let fits : SFits w16 c.args.offset = search rules in
    (Some c.in_ok-minute.minute, subst (λ (n : ℤ). IsMoved n c.args.until (pos 0) (Some c.in_ok-minute.minute)) (to_z-of_z fits) c.in_ok-minute.ensures, made_at c.args.second c.in_ok-minute.minute c.seconds_left.result c.seconds_left.ensures)

pub returns-in_err-minute : goal.returns-in_err-minute
returns-in_err-minute c =
    let fits : SFits w16 c.args.offset = search rules in
    rw c.from_residual.ensures (None, subst (λ (n : ℤ). IsMoved n c.args.until (pos 0) None) (to_z-of_z fits) c.in_err-minute.ensures, refl)
