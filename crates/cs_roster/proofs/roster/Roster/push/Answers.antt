use Rattle.std.proofs.Common.{◌+◌, if◌then◌else◌, ◌++◌, ◌∷◌, [], ap, sym, ◌∙◌, length}
use Rattle.std.specs.Option.{is_some}
use Rattle.cs_roster.specs.Roster.{has, still}
use Rattle.cs_roster.proofs.Marks.{kept_more, kept_without, on_err, room_without, view_more, view_without}
use Rattle.cs_roster.proofs.roster.Roster.push.Goals as goal

pub overflow_sub-self : goal.overflow_sub-self
overflow_sub-self c =
    let absent = ap (λ runs. has runs c.args.going.run) c.self.view_is ∙ c.requires in
    room_without c.args.going.run c.self.inside.entries.entries c.shift_remove.new.self.entries c.len-here.result c.len.result absent c.shift_remove.ensures.entries (c.len-here.ensures.value ∙ sym (ap length c.self.view_is)) c.len.ensures.len

pub invariant_of-self : goal.invariant_of-self
invariant_of-self c =
    let absent = ap (λ runs. has runs c.args.going.run) c.self.view_is ∙ c.requires in
    kept_without c.args.going.run c.self.inside.entries.entries c.shift_remove.new.self.entries c.insert.new.self.entries c.len-here.result c.len.result absent c.shift_remove.ensures.entries c.in_err-insert.ensures.err c.insert.ensures.unique (c.len-here.ensures.value ∙ sym (ap length c.self.view_is)) c.len.ensures.len

pub returns-in_err-insert-clause-same : goal.returns-in_err-insert-clause-same
returns-in_err-insert-clause-same c =
    let absent = ap (λ runs. has runs c.args.going.run) c.self.view_is ∙ c.requires in
    on_err c.from_residual.result (ap still c.in_err-insert.ensures.err ∙ view_without c.args.going.run c.self.inside.entries.entries c.shift_remove.new.self.entries absent c.shift_remove.ensures.entries ∙ c.self.view_is)

pub invariant_of-self-2 : goal.invariant_of-self-2
invariant_of-self-2 c =
    let absent = ap (λ runs. has runs c.args.going.run) c.self.view_is ∙ c.requires in
    kept_more c.args.going.run c.args.going.since c.self.inside.entries.entries c.shift_remove.new.self.entries c.insert.new.self.entries c.len-here.result c.len.result absent c.shift_remove.ensures.entries c.shift_remove.ensures.updates.1 c.in_ok-insert.ensures.entries c.insert.ensures.unique (c.len-here.ensures.value ∙ sym (ap length c.self.view_is)) c.len.ensures.len
    (c.in_ok-insert.ensures.len ∙ ap (λ old. length c.shift_remove.new.self.entries + (if is_some old then 0 else 1)) (c.in_ok-insert.ensures.old ∙ c.shift_remove.ensures.updates.1))

pub returns-clause-more : goal.returns-clause-more
returns-clause-more c =
    let absent = ap (λ runs. has runs c.args.going.run) c.self.view_is ∙ c.requires in
    view_more c.args.going.run c.args.going.since c.self.inside.entries.entries c.shift_remove.new.self.entries c.insert.new.self.entries absent c.shift_remove.ensures.entries c.shift_remove.ensures.updates.1 c.in_ok-insert.ensures.entries
    ∙ ap (λ runs. runs ++ c.args.going ∷ []) c.self.view_is
