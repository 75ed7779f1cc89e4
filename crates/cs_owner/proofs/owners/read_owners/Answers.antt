use Rattle.std.proofs.Common.{rules, ◌≡◌, Contains, arith, true}
use Rattle.std.proofs.lemmas.Result.{err_from_is_err_and}
use Rattle.cs_place.specs.Mark.{is_gathered}
use Rattle.cs_owner.specs.Owners.{IsOwner}
use Rattle.cs_owner.proofs.Zip.{zip_next}
use Rattle.cs_owner.proofs.owners.read_owners.Goals as goal

pub returns-in_err-push-clause-unowned : goal.returns-in_err-push-clause-unowned
returns-in_err-push-clause-unowned c =
    let p = err_from_is_err_and c.from_residual-in_err-push.result c.from_residual-in_err-push.ensures.1 in
    let gathered : is_gathered c.args.table.now.settings ≡ true = search rules in
    let there : Contains c.args.table.now.lines c.line-item.result = search rules in
    rw (p.1, p.2) (gathered, (c.line-item.result, there, tt))

pub loop-line-preserved : goal.loop-line-preserved
loop-line-preserved c =
    zip_next (IsOwner c.args.bytes.now c.args.places.now) c.lines-line-items.result.now c.loop-line.owners c.push.new.self c.loop-line.line-index c.line-item.result c.in_ok-owner_of.field-0
    (omega arith) c.line-item.is c.in_ok-push.ensures.ok c.loop-line.invariant c.in_ok-owner_of.ensures.owner
