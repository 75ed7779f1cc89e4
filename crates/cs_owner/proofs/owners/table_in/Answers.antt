use Rattle.std.proofs.Common.{rules, ◌∙◌, List, ℕ, sym}
use Rattle.cs_owner.specs.Owners.{IsIn}
use Rattle.cs_owner.proofs.Tables.{at_last, not_there}
use Rattle.cs_owner.proofs.owners.table_in.Goals as goal

pub returns-in_err-at : goal.returns-in_err-at
returns-in_err-at c =
    let out : (table : List ℕ) → ¬ (IsIn table c.args.place.now) = λ table is. not_there c.as_slice-origin.result.now c.in_err-at.ensures table is.0 (c.as_slice-origin.ensures ∙ is.1) in
    search rules

pub returns : goal.returns
returns c =
    let last = at_last c.as_slice-origin.result.now c.in_ok-at.at c.in_ok-at.ensures in
    (last.0, sym c.as_slice-origin.ensures ∙ last.1, last.2)
