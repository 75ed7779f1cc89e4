use Rattle.std.proofs.Common.{rules, ◌≡◌, [], ◌∷◌, ◌++◌}
use Rattle.cs_serve.specs.Notes.{IsNote}
use Rattle.cs_serve.proofs.Peers.{one_more_note}
use Rattle.cs_serve.proofs.notes.notes_by.Goals as goal

pub loop-number-preserved : goal.loop-number-preserved
loop-number-preserved c =
    let pushed : c.push.new.self.items ≡ c.loop-number.notes.items ++ c.in_ok-note.field-0 ∷ [] = search rules in
    one_more_note (IsNote c.args.plan.now c.args.owners.now) c.loop-number.number c.loop-number.notes.items c.push.new.self.items c.in_ok-note.field-0 pushed c.loop-number.invariant c.in_ok-note.ensures
