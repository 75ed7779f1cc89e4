use Rattle.std.proofs.Common.{◌∙◌, [], Some, IfSome, Ok, Err, inl, inr, refl, subst}
use Rattle.std.proofs.lemmas.Option.{IfSome_then}
use Rattle.std.proofs.lemmas.Result.{err_from_is_err_and}
use Rattle.cs_args.specs.Asked.{asked_chart}
use Rattle.cs_io.specs.Files.{Failed}
use Rattle.cs_files.specs.Asked.{both_of}
use Rattle.cs_files.specs.Reads.{ReadsDeclared}
use Rattle.cs_files.specs.Trouble.{trouble}
use Rattle.cs_files.specs.Turn.{some_path, table_paths}
use Rattle.cs_files.proofs.TroubleLemmas.{moved}
use Rattle.cs_files.proofs.TurnLemmas.{first_read, some_read, then_read}
use Rattle.cs_chart.proofs.answer.find_drawable.Goals as goal

pub returns-in_err-tables-clause-turn : goal.returns-in_err-tables-clause-turn
returns-in_err-tables-clause-turn g c =
    let a = asked_chart c.args.words.now in
    some_read (table_paths a.day.table a.day.anacrontab) (some_path a.declarations) (g.I.Inputs.reads c.args.inputs.now) (g.I.Inputs.reads c.find_tables.new.inputs) c.find_tables.ensures.turn

pub returns-in_default-clause-turn : goal.returns-in_default-clause-turn
returns-in_default-clause-turn g c =
    let a = asked_chart c.args.words.now in
    some_read (table_paths a.day.table a.day.anacrontab) (some_path a.declarations) (g.I.Inputs.reads c.args.inputs.now) (g.I.Inputs.reads c.find_tables.new.inputs) c.find_tables.ensures.turn

pub returns-in_err-plan-clause-turn : goal.returns-in_err-plan-clause-turn
returns-in_err-plan-clause-turn g c =
    let a = asked_chart c.args.words.now in
    rw (c.in-Some.is) (then_read (table_paths a.day.table a.day.anacrontab) (some_path (Some c.in-Some.path.now)) (g.I.Inputs.reads c.args.inputs.now) (g.I.Inputs.reads c.find_tables.new.inputs) (g.I.Inputs.reads c.declared_plan_from.new.inputs) c.find_tables.ensures.turn (first_read c.in-Some.path.now [] _ _ c.declared_plan_from.ensures.alone))

pub returns-clause-turn : goal.returns-clause-turn
returns-clause-turn g c =
    let a = asked_chart c.args.words.now in
    rw (c.in-Some.is) (then_read (table_paths a.day.table a.day.anacrontab) (some_path (Some c.in-Some.path.now)) (g.I.Inputs.reads c.args.inputs.now) (g.I.Inputs.reads c.find_tables.new.inputs) (g.I.Inputs.reads c.declared_plan_from.new.inputs) c.find_tables.ensures.turn (first_read c.in-Some.path.now [] _ _ c.declared_plan_from.ensures.alone))

pub returns-in_err-tables-clause-value : goal.returns-in_err-tables-clause-value
returns-in_err-tables-clause-value g c = λ fresh.
    let p = err_from_is_err_and c.from_residual.result c.from_residual.ensures.1 in
    let (w, told, (warns, came)) = c.in_err-tables.ensures.value fresh in
    rw (p.1, p.2) (w, told, (warns, IfSome_then (trouble c.in_err-tables.field-0.0) came (λ t is. inl (t, is, refl))))

pub returns-in_default-clause-value : goal.returns-in_default-clause-value
returns-in_default-clause-value g c = λ fresh.
    let (w, told, (warns, came)) = c.in_ok-tables.ensures.value fresh in
    rw (c.in_default.is) (w, told, (warns, inr (c.in_ok-tables.tables, (refl, came.1), (came.0, refl))))

pub returns-in_err-plan-clause-value : goal.returns-in_err-plan-clause-value
returns-in_err-plan-clause-value g c = λ fresh.
    let p = err_from_is_err_and c.from_residual-in_err-plan.result c.from_residual-in_err-plan.ensures.1 in
    let (w, told, (warns, (works, are))) = c.in_ok-tables.ensures.value fresh in
    let tables = c.in_ok-tables.tables in
    let fault = c.in_err-plan.field-0.0 in
    let other = moved (λ v f. IfSome (trouble fault) (λ t. ReadsDeclared v (both_of tables) c.in-Some.path.now f (g.I.Inputs.failed c.declared_plan_from.new.inputs) (Err t))) (g.I.Inputs.whole c.find_tables.new.inputs) (g.I.Inputs.whole c.args.inputs.now) (g.I.Inputs.failed c.find_tables.new.inputs) (g.I.Inputs.failed c.args.inputs.now) c.find_tables.ensures.whole c.in_ok-tables.ensures.works (c.in_err-plan.ensures.step (c.in_ok-tables.ensures.fresh fresh)) in
    rw (c.in-Some.is, p.1, p.2) (w, told, (inr (both_of tables, are.read, are.warned), IfSome_then (trouble fault) other (λ t is. inr (tables, (refl, are), inl (t, is, refl)))))

pub returns-clause-value : goal.returns-clause-value
returns-clause-value g c = λ fresh.
    let (w, told, (warns, (works, are))) = c.in_ok-tables.ensures.value fresh in
    let before = g.I.Inputs.failed c.args.inputs.now in
    let files = g.I.Inputs.whole c.args.inputs.now in
    let tables = c.in_ok-tables.tables in
    let plan = c.in_ok-plan.plan in
    let same = c.in_ok-plan.ensures.works ∙ c.in_ok-tables.ensures.works in
    let step = moved (λ v f. ReadsDeclared v (both_of tables) c.in-Some.path.now f (g.I.Inputs.failed c.declared_plan_from.new.inputs) (Ok plan)) (g.I.Inputs.whole c.find_tables.new.inputs) files (g.I.Inputs.failed c.find_tables.new.inputs) before c.find_tables.ensures.whole c.in_ok-tables.ensures.works (c.in_ok-plan.ensures.step (c.in_ok-tables.ensures.fresh fresh)) in
    rw (c.in-Some.is) (w, told, (inr (both_of tables, are.read, are.warned), inr (tables, (refl, are), inr (plan, subst (λ (f : Failed). ReadsDeclared files (both_of tables) c.in-Some.path.now before f (Ok plan)) same step, (same, refl)))))
