use Rattle.std.proofs.Common.{rules, ◌≡◌, ℕ, Some, subst}
use Rattle.std.proofs.lemmas.Result.{err_from_is_err_and}
use Rattle.cs_place.specs.Places.{place_of}
use Rattle.cs_owner.specs.Owners.{IsFrom, LacksOwner}
use Rattle.cs_owner.proofs.Tables.{lacks, not_from}
use Rattle.cs_owner.proofs.owners.owner_of.Goals as goal

pub returns-in_default-table_in-clause-lacks : goal.returns-in_default-table_in-clause-lacks
returns-in_default-table_in-clause-lacks c =
    let here : Some c.in-Some.place.now ≡ place_of c.args.places.now c.args.line.now.number = search rules in
    (c.number-number.ensures, not_from c.args.places.now c.args.line.now.number c.in-Some.place.now here c.in_default-table_in.ensures)

pub returns-in_err-settings-clause-lacks : goal.returns-in_err-settings-clause-lacks
returns-in_err-settings-clause-lacks c =
    let p = err_from_is_err_and c.from_residual.result c.from_residual.ensures.1 in
    let from : IsFrom c.args.places.now c.number-number.result c.in-Some.place.now c.in-Some-table_in.table.now = search rules in
    rw (p.1, p.2)
    (subst (λ (n : ℕ). LacksOwner c.args.text.now c.args.places.now n c.in_err-settings.field-0.0) c.number-number.ensures
    (lacks c.args.places.now c.number-number.result c.in-Some.place.now c.args.text.now c.in-Some-table_in.table.now c.in_err-settings.field-0.0 from c.in_err-settings.ensures.unfit))
