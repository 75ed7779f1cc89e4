use Rattle.std.proofs.Common.{ℤ, SFits, rules, subst, to_z-of_z, w16}
use Rattle.cs_machine.specs.Limit.{IsLimitOf}
use Rattle.cs_machine.proofs.shell_runner.ShellRunner.limit_now.Goals as goal

pub returns : goal.returns
returns g c =
    let fits : SFits w16 c.in_ok-offset.offset = search rules in
    rw c.in_ok-offset.was (c.unwrap_or-second.result, subst (λ (n : ℤ). IsLimitOf n c.args.until c.unwrap_or-second.result c.limit_of.result) (to_z-of_z fits) c.limit_of.ensures)
