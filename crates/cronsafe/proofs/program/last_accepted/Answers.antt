use Rattle.std.proofs.Common.{rules, ◌≡◌, subst}
use Rattle.cs_files.specs.Ending.{Tries, sink}
use Rattle.cronsafe.specs.Run.{replaced_text}
use Rattle.cronsafe.proofs.program.last_accepted.Goals as goal

pub returns-clause-replaced : goal.returns-clause-replaced
returns-clause-replaced g c =
    let err-old = sink (g.E.Output.contents c.args.err.now) (g.E.Output.failed c.args.err.now) in
    let err-new = sink (g.E.Output.contents c.tell.new.err) (g.E.Output.failed c.tell.new.err) in
    let ending = c.in_ok-ending.ending in
    let same : c.as_slice.result.now ≡ replaced_text ending = search rules in
    let told : Tries (replaced_text ending) err-old err-new = subst (λ t. Tries t err-old err-new) same c.tell.ensures in
    (ending, c.in_ok-ending.ensures, told)
