use Rattle.std.proofs.Common.{◌≡◌, false, Ok, Err, Result, refl, sym, ap, subst, ◌∙◌}
use Rattle.cs_anacrontab.specs.Anacrontab.{Table as JobTable}
use Rattle.cs_anacrontab.specs.declared.fault.JobFault.{JobFault}
use Rattle.cs_table.specs.Table.{Denotes, Stops}
use Rattle.cs_table.specs.declared.fault.TableFault.{TableFault}
use Rattle.cs_files.specs.Reads.{are_named}
use Rattle.cs_files.proofs.TroubleLemmas.{ok_is, ok_no_err}
use Rattle.cs_files.proofs.reads.are_jobs.Goals as goal

pub returns-in-Err-At : goal.returns-in-Err-At
returns-in-Err-At c = λ other means.
    let stops = subst (λ (r : Result JobTable (TableFault JobFault)). Denotes (λ table. table) (Ok other) r) c.in-Err-At.is (c.read_anacrontab.ensures.only (Ok other) means) in
    ok_no_err (Ok other) other _ refl (subst (λ (f : TableFault JobFault). Stops f (Ok other)) c.in-Err-At.field-0-is stops)

pub returns-in-Ok-2 : goal.returns-in-Ok-2
returns-in-Ok-2 c = λ other means.
    ap (λ (t : JobTable). are_named t.lines) (ok_is (Ok other) other c.in-Ok.jobs refl (c.in-Ok.ensures.only (Ok other) means))
    ∙ ap are_named (sym c.lines.ensures.value) ∙ sym c.are_named.ensures ∙ c.if-are_named.false
