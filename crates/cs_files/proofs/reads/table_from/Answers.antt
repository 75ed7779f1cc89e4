use Rattle.std.proofs.Common.{◌≡◌, List, ℕ, Result, Ok, Err, subst}
use Rattle.std.proofs.lemmas.Result.{err_from_is_err_and}
use Rattle.cs_table.specs.declared.limits.TheConstants.{MAX_TABLE}
use Rattle.cs_crontab.specs.Faults.{IsCrontab}
use Rattle.cs_files.specs.Reads.{MeansIt, MeansTable}
use Rattle.cs_files.specs.Trouble.{InCrontab}
use Rattle.cs_files.proofs.TroubleLemmas.{came_read, same_table, texted}
use Rattle.cs_files.proofs.reads.table_from.Goals as goal

pub returns-clause-text : goal.returns-clause-text
returns-clause-text g c = λ fresh.
    let is = subst (λ (b : List ℕ). IsCrontab b c.in_ok-table.table) c.as_slice.ensures.value c.in_ok-table.ensures.value in
    texted (g.I.Inputs.whole c.args.inputs.now) (g.I.Inputs.left c.args.inputs.now) c.args.path.now c.in_ok-text.text.items c.in_ok-table.table fresh c.in_ok-text.ensures.bytes is

pub returns-clause-step : goal.returns-clause-step
returns-clause-step g c = λ fresh.
    let bytes = c.in_ok-text.text.items in
    let tells = subst (λ (b : List ℕ). MeansIt MeansTable InCrontab b (Ok c.in_ok-table.table)) c.as_slice.ensures.value c.in_ok-table.ensures.value in
    came_read MAX_TABLE MeansTable InCrontab (g.I.Inputs.whole c.args.inputs.now) (g.I.Inputs.left c.args.inputs.now) c.args.path.now bytes (g.I.Inputs.failed c.args.inputs.now) (g.I.Inputs.failed c.bytes_at.new.inputs)
    (Ok c.in_ok-table.table) (λ m text up is. same_table bytes m text up is) c.in_ok-text.ensures.works fresh c.in_ok-text.ensures.bytes tells

pub returns-in_err-table-clause-step : goal.returns-in_err-table-clause-step
returns-in_err-table-clause-step g c = λ fresh.
    let p = err_from_is_err_and c.from_residual-in_err-table.result c.from_residual-in_err-table.ensures.1 in
    let bytes = c.in_ok-text.text.items in
    let fault = c.in_err-table.field-0.0 in
    let tells = subst (λ (b : List ℕ). MeansIt MeansTable InCrontab b (Err fault)) c.as_slice.ensures.value c.in_err-table.ensures.value in
    rw (p.1, p.2) (came_read MAX_TABLE MeansTable InCrontab (g.I.Inputs.whole c.args.inputs.now) (g.I.Inputs.left c.args.inputs.now) c.args.path.now bytes (g.I.Inputs.failed c.args.inputs.now) (g.I.Inputs.failed c.bytes_at.new.inputs)
    (Err fault) (λ m text up is. same_table bytes m text up is) c.in_ok-text.ensures.works fresh c.in_ok-text.ensures.bytes tells)
