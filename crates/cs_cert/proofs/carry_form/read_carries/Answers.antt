use Rattle.std.proofs.Common.{rules}
use Rattle.std.proofs.lemmas.Result.{err_from_is_err_and}
use Rattle.cs_json.proofs.Items.{Reads-start, Reads-more, Reads-fails, Reads-end}
use Rattle.cs_cert.specs.Said.{carry_said}
use Rattle.cs_cert.proofs.carry_form.read_carries.Goals as goal

pub loop-value-init : goal.loop-value-init
loop-value-init c = rw c.in_ok-found.ensures.items (Reads-start carry_said c.args.list.now.items)

pub loop-value-preserved : goal.loop-value-preserved
loop-value-preserved c =
    rw c.in_ok-push.ensures.items
    (Reads-more carry_said _ _ _ _ _ (search rules) (search rules) c.in_ok-read_carry.ensures c.loop-value.invariant)

pub returns-in_err-read_carry : goal.returns-in_err-read_carry
returns-in_err-read_carry c =
    let p = err_from_is_err_and c.from_residual-in_err-read_carry.result c.from_residual-in_err-read_carry.ensures.1 in
    rw (p.1, p.2) (Reads-fails carry_said _ _ _ _ _ (search rules) (search rules) c.in_err-read_carry.ensures c.loop-value.invariant)

pub returns : goal.returns
returns c = Reads-end carry_said _ _ _ (search rules) c.loop-value.invariant
