use Rattle.std.proofs.Common.{All}
use Rattle.cs_draft.specs.Draft.{AreUpdates, IsUpdatedLine, left_behind}
use Rattle.cs_draft.proofs.Joins.{fitting}
use Rattle.cs_draft.proofs.confirm.are_updates.Goals as goal

pub returns : goal.returns
returns c =
    let terms = c.are_terms.ensures in
    let are-terms = c.if-not-are_terms.false in
    let jobs = rw c.lines.ensures.value at (c.are_updated_jobs.ensures c.if-not-are_updated_jobs.false) in
    let are : All (IsUpdatedLine c.lines-2.result.now c.args.places.now c.args.old.now (left_behind c.lines-2.result.now c.args.old.now) c.args.max c.args.given.now c.args.new.now) c.lines-2.result.now → AreUpdates c.args.table.now c.args.jobs.now c.args.places.now c.args.old.now c.args.max c.args.given.now c.args.new.now =
    λ held. record { lines = rw c.lines-2.ensures.value at held; jobs = jobs; capacity = terms.capacity are-terms; offset = terms.offset are-terms; zone = terms.zone are-terms; hours = terms.hours are-terms; pass = terms.pass are-terms; default = terms.default are-terms; groups = terms.groups are-terms; new_groups = c.are_new_groups.ensures c.if-not-are_new_groups.false } in
    fitting c.are_updated_lines.result are c.are_updated_lines.ensures
