use Rattle.std.proofs.Common.{OnOk, Result, Ok, Err}
use Rattle.cs_crontab.specs.Crontab.{CommandLine}
use Rattle.cs_report.proofs.BackNames.{command_told}
use Rattle.cs_report.proofs.writing.push_command.Goals as goal

always : {T E P : Type 0} (result : Result T E) → P → OnOk result P
always (Ok x) p = p
always (Err e) p = tt

pub returns-clause-tells : goal.returns-clause-tells
returns-clause-tells c =
    let line : CommandLine = c.index-lines-from.result in
    let at = rw (c.lines.ensures.value, c.crontab.ensures.value, c.from.ensures) at c.index-lines-from.is in
    always c.push_number.result (command_told c.args.plan.now c.args.job line (rw c.crontab.ensures.value at c.lines.ensures.rising) c.requires at (rw c.number-number.ensures at c.number-number.type_inv))
