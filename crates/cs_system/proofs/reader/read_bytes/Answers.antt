use Rattle.std.proofs.Common.{◌≡◌, Ok, subst, sym}
use Rattle.cs_table.specs.Text.{lines_of}
use Rattle.cs_table.specs.Table.{table_of}
use Rattle.cs_table.proofs.Tables.{table_takes}
use Rattle.cs_system.specs.System.{Table, IsOrdered}
use Rattle.cs_system.specs.Faults.{too_long, system}
use Rattle.cs_system.specs.Table.{added}
use Rattle.cs_system.proofs.Tables.{agrees, ordered}
use Rattle.cs_system.proofs.reader.read_bytes.Goals as goal

pub new-requires-2 : goal.new-requires-2
new-requires-2 c =
    let text = c.args.bytes.now in
    let read = subst (λ (t : Table). table_of added t too_long text ≡ Ok c.in_ok-draft.draft) c.new.ensures c.in_ok-draft.ensures in
    subst IsOrdered (sym c.draft.view_is) (ordered (lines_of text) c.in_ok-draft.draft (table_takes system added agrees text c.in_ok-draft.draft read).lines)
