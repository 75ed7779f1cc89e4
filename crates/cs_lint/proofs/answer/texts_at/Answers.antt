use Rattle.cs_args.specs.Asked.{asked_lint}
use Rattle.cs_files.specs.Turn.{some_path, table_paths}
use Rattle.cs_files.proofs.TurnLemmas.{some_read, then_read}
use Rattle.std.proofs.Common.{◌++◌, ◌∙◌}
use Rattle.std.proofs.lemmas.Result.{err_from_is_err_and}
use Rattle.cs_lint.proofs.AnswerLemmas.{unread_file, unread_zone}
use Rattle.cs_lint.proofs.answer.texts_at.Goals as goal

pub returns-in_err-table-clause-turn : goal.returns-in_err-table-clause-turn
returns-in_err-table-clause-turn g c =
    let a = asked_lint c.args.request.now in
    some_read (table_paths a.table a.anacrontab ++ some_path a.declarations) (some_path a.zone) (g.I.Inputs.reads c.args.inputs.now) (g.I.Inputs.reads c.tables_at.new.inputs)
    (some_read (table_paths a.table a.anacrontab) (some_path a.declarations) (g.I.Inputs.reads c.args.inputs.now) (g.I.Inputs.reads c.tables_at.new.inputs) c.tables_at.ensures.turn)

pub returns-in_err-declarations-clause-turn : goal.returns-in_err-declarations-clause-turn
returns-in_err-declarations-clause-turn g c =
    let a = asked_lint c.args.request.now in
    some_read (table_paths a.table a.anacrontab ++ some_path a.declarations) (some_path a.zone) (g.I.Inputs.reads c.args.inputs.now) (g.I.Inputs.reads c.declarations_at.new.inputs)
    (then_read (table_paths a.table a.anacrontab) (some_path a.declarations) (g.I.Inputs.reads c.args.inputs.now) (g.I.Inputs.reads c.tables_at.new.inputs) (g.I.Inputs.reads c.declarations_at.new.inputs) c.tables_at.ensures.turn c.declarations_at.ensures.turn)

pub returns-in_err-changes-clause-turn : goal.returns-in_err-changes-clause-turn
returns-in_err-changes-clause-turn g c =
    let a = asked_lint c.args.request.now in
    then_read (table_paths a.table a.anacrontab ++ some_path a.declarations) (some_path a.zone) (g.I.Inputs.reads c.args.inputs.now) (g.I.Inputs.reads c.declarations_at.new.inputs) (g.I.Inputs.reads c.changes_at.new.inputs)
    (then_read (table_paths a.table a.anacrontab) (some_path a.declarations) (g.I.Inputs.reads c.args.inputs.now) (g.I.Inputs.reads c.tables_at.new.inputs) (g.I.Inputs.reads c.declarations_at.new.inputs) c.tables_at.ensures.turn c.declarations_at.ensures.turn)
    c.changes_at.ensures.turn

pub returns-clause-turn : goal.returns-clause-turn
returns-clause-turn g c =
    let a = asked_lint c.args.request.now in
    then_read (table_paths a.table a.anacrontab ++ some_path a.declarations) (some_path a.zone) (g.I.Inputs.reads c.args.inputs.now) (g.I.Inputs.reads c.declarations_at.new.inputs) (g.I.Inputs.reads c.changes_at.new.inputs)
    (then_read (table_paths a.table a.anacrontab) (some_path a.declarations) (g.I.Inputs.reads c.args.inputs.now) (g.I.Inputs.reads c.tables_at.new.inputs) (g.I.Inputs.reads c.declarations_at.new.inputs) c.tables_at.ensures.turn c.declarations_at.ensures.turn)
    c.changes_at.ensures.turn

pub returns-clause-held : goal.returns-clause-held
returns-clause-held g c = λ fresh.
    let whole = c.tables_at.ensures.whole in (
      c.in_ok-table.ensures.held fresh,
      λ short few.
          rw whole at (c.in_ok-declarations.ensures.held (c.in_ok-table.ensures.fresh short few fresh)),
    )

pub returns-in_err-table-clause-told : goal.returns-in_err-table-clause-told
returns-in_err-table-clause-told g c = λ fresh.
    let p = err_from_is_err_and c.from_residual.result c.from_residual.ensures.1 in
    rw (p.1, p.2) (unread_file (asked_lint c.args.request.now) (g.I.Inputs.whole c.args.inputs.now) (g.I.Inputs.failed c.args.inputs.now) (g.I.Inputs.failed c.tables_at.new.inputs) c.in_err-table.field-0.0 c.in_err-table.ensures.told)

pub returns-in_err-declarations-clause-told : goal.returns-in_err-declarations-clause-told
returns-in_err-declarations-clause-told g c = λ fresh.
    let p = err_from_is_err_and c.from_residual-in_err-declarations.result c.from_residual-in_err-declarations.ensures.1 in
    rw (p.1, p.2) (unread_file (asked_lint c.args.request.now) (g.I.Inputs.whole c.args.inputs.now) (g.I.Inputs.failed c.args.inputs.now) (g.I.Inputs.failed c.declarations_at.new.inputs) c.in_err-declarations.field-0.0 c.in_err-declarations.ensures.told)

pub returns-in_err-changes-clause-told : goal.returns-in_err-changes-clause-told
returns-in_err-changes-clause-told g c = λ fresh.
    let p = err_from_is_err_and c.from_residual-in_err-changes.result c.from_residual-in_err-changes.ensures.1 in
    let whole = c.declarations_at.ensures.whole ∙ c.tables_at.ensures.whole in
    let works = c.in_ok-declarations.ensures.works ∙ c.in_ok-table.ensures.works in
    rw (p.1, p.2) (unread_zone (asked_lint c.args.request.now) (g.I.Inputs.whole c.args.inputs.now) (g.I.Inputs.whole c.declarations_at.new.inputs)
    (g.I.Inputs.failed c.args.inputs.now) (g.I.Inputs.failed c.declarations_at.new.inputs) (g.I.Inputs.failed c.changes_at.new.inputs) c.in_ok-table.table.items _ c.in_err-changes.field-0.0
    (c.in_ok-table.ensures.held fresh) whole works c.in_err-changes.ensures.told (λ short few. c.in_err-changes.ensures.none (c.in_ok-declarations.ensures.fresh (c.in_ok-table.ensures.fresh short few fresh))))
