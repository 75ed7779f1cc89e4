use Rattle.std.proofs.Common.{◌≡◌, Ok, subst, sym}
use Rattle.cs_table.specs.Text.{lines_of}
use Rattle.cs_table.specs.Table.{table_of}
use Rattle.cs_table.proofs.Tables.{table_takes}
use Rattle.cs_crontab.specs.Crontab.{Table, IsOrdered}
use Rattle.cs_crontab.specs.Faults.{crontab}
use Rattle.cs_crontab.specs.Table.{added}
use Rattle.cs_crontab.specs.declared.fault.LineFault.TheVariants.{TooLong}
use Rattle.cs_crontab.proofs.Tables.{agrees, ordered}
use Rattle.cs_crontab.proofs.reader.read_bytes.Goals as goal

pub new-requires-2 : goal.new-requires-2
new-requires-2 c =
    let text = c.args.bytes.now in
    let read = subst (λ (t : Table). table_of added t TooLong text ≡ Ok c.in_ok-draft.draft) c.new.ensures c.in_ok-draft.ensures in
    subst IsOrdered (sym c.draft.view_is) (ordered (lines_of text) c.in_ok-draft.draft (table_takes crontab added agrees text c.in_ok-draft.draft read).lines)
