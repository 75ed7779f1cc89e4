use Rattle.std.proofs.Common.{◌≡◌, ◌<◌, ◌+◌, length, get_or, sym, subst, arith}
use Rattle.cs_table.specs.declared.fault.TableFault.{TableFault}
use Rattle.cs_system.specs.declared.fault.SystemFault.{SystemFault}
use Rattle.cs_gather.specs.Gather.{IsOverflow}
use Rattle.cs_gather.proofs.Walk.{go_on, too_long, too_many}
use Rattle.cs_gather.proofs.writing.push_lines.Goals as goal

pub returns-then-index-room : goal.returns-then-index-room
returns-then-index-room c =
    let line = c.first_line in
    let get = c.in-Some.ensures.lookup in
    let command = c.in-Some.command.now in
    let at : command ≡ get_or c.args.commands.now c.args.room command = rw c.if-index-room.true at get.1 in
    let below : c.args.room < length c.args.commands.now = omega (arith, get.3.0, c.if-index-room.true) in
    let same : command.number ≡ c.loop-rest.number + 1 = omega arith in
    subst (λ (f : TableFault SystemFault). IsOverflow c.args.bytes.now c.args.room c.args.commands.now f) (sym c.overflow.ensures)
    (too_many c.args.bytes.now c.loop-rest.rest.now line.result.0.now line.result.1.now c.loop-rest.number c.loop-rest.invariant.walked line.ensures.line c.args.room c.args.commands.now command below at same)

pub returns-then-not-is_short : goal.returns-then-not-is_short
returns-then-not-is_short c =
    let line = c.first_line in
    subst (λ (f : TableFault SystemFault). IsOverflow c.args.bytes.now c.args.room c.args.commands.now f) (sym c.overflow-then-not-is_short.ensures)
    (too_long c.args.bytes.now c.loop-rest.rest.now line.result.0.now line.result.1.now c.loop-rest.number c.loop-rest.invariant.walked line.ensures.line c.args.room c.args.commands.now)

pub loop-rest-preserved : goal.loop-rest-preserved
loop-rest-preserved c =
    let line = c.first_line in
    record {
      within = omega (arith, line.ensures.shorter);
      walked = go_on c.args.bytes.now c.loop-rest.rest.now line.result.0.now line.result.1.now c.loop-rest.number c.loop-rest.invariant.walked line.ensures.line;
    }
