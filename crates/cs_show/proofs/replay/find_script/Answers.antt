use Rattle.std.proofs.Common.{◌≡◌, ◌∙◌, ◌++◌, ℕ, List, Option, Some, None, [], ◌∷◌, IfSome, Ok, Err, inl, inr, subst}
use Rattle.std.proofs.lemmas.Option.{IfSome_then}
use Rattle.std.proofs.lemmas.Result.{err_from_is_err_and}
use Rattle.cs_args.specs.Asked.{asked_replay}
use Rattle.cs_io.specs.Files.{Failed, IsUpTo}
use Rattle.cs_report.specs.declared.script.TheConstants.{MAX_SCRIPT}
use Rattle.cs_files.specs.Asked.{both_of}
use Rattle.cs_files.specs.Trouble.{trouble}
use Rattle.cs_files.specs.Turn.{some_path, table_paths}
use Rattle.cs_files.proofs.TroubleLemmas.{moved}
use Rattle.cs_files.proofs.TurnLemmas.{first_read, some_read, then_read}
use Rattle.cs_show.specs.Replayed.{ReadsPlan}
use Rattle.cs_show.proofs.replay.find_script.Goals as goal

pub returns-in_err-tables-clause-turn : goal.returns-in_err-tables-clause-turn
returns-in_err-tables-clause-turn g c =
    let a = asked_replay c.args.words.now in
    some_read (table_paths a.table a.anacrontab) (some_path a.declarations ++ (a.script ∷ [])) (g.I.Inputs.reads c.args.inputs.now) (g.I.Inputs.reads c.find_tables.new.inputs) c.find_tables.ensures.turn

pub returns-in_err-plan-clause-turn : goal.returns-in_err-plan-clause-turn
returns-in_err-plan-clause-turn g c =
    let a = asked_replay c.args.words.now in
    then_read (table_paths a.table a.anacrontab) (some_path a.declarations ++ (a.script ∷ [])) (g.I.Inputs.reads c.args.inputs.now) (g.I.Inputs.reads c.find_tables.new.inputs) (g.I.Inputs.reads c.plan_from.new.inputs) c.find_tables.ensures.turn
    (some_read (some_path a.declarations) (a.script ∷ []) _ _ c.plan_from.ensures.turn)

pub returns-in_err-bytes-clause-turn : goal.returns-in_err-bytes-clause-turn
returns-in_err-bytes-clause-turn g c =
    let a = asked_replay c.args.words.now in
    then_read (table_paths a.table a.anacrontab) (some_path a.declarations ++ (a.script ∷ [])) (g.I.Inputs.reads c.args.inputs.now) (g.I.Inputs.reads c.find_tables.new.inputs) (g.I.Inputs.reads c.bytes_at.new.inputs) c.find_tables.ensures.turn
    (then_read (some_path a.declarations) (a.script ∷ []) _ (g.I.Inputs.reads c.plan_from.new.inputs) _ c.plan_from.ensures.turn (first_read a.script [] _ _ c.bytes_at.ensures.alone))

pub returns-clause-turn : goal.returns-clause-turn
returns-clause-turn g c =
    let a = asked_replay c.args.words.now in
    then_read (table_paths a.table a.anacrontab) (some_path a.declarations ++ (a.script ∷ [])) (g.I.Inputs.reads c.args.inputs.now) (g.I.Inputs.reads c.find_tables.new.inputs) (g.I.Inputs.reads c.bytes_at.new.inputs) c.find_tables.ensures.turn
    (then_read (some_path a.declarations) (a.script ∷ []) _ (g.I.Inputs.reads c.plan_from.new.inputs) _ c.plan_from.ensures.turn (first_read a.script [] _ _ c.bytes_at.ensures.alone))

pub returns-in_err-tables-clause-value : goal.returns-in_err-tables-clause-value
returns-in_err-tables-clause-value g c = λ fresh.
    let p = err_from_is_err_and c.from_residual.result c.from_residual.ensures.1 in
    let (w, told, (warns, came)) = c.in_err-tables.ensures.value fresh in
    rw (p.1, p.2) (w, told, (warns, IfSome_then (trouble c.in_err-tables.field-0.0) came (λ t is. inl is)))

pub returns-in_err-plan-clause-value : goal.returns-in_err-plan-clause-value
returns-in_err-plan-clause-value g c = λ fresh.
    let p = err_from_is_err_and c.from_residual-in_err-plan.result c.from_residual-in_err-plan.ensures.1 in
    let (w, told, (warns, (works, are))) = c.in_ok-tables.ensures.value fresh in
    let a = asked_replay c.args.words.now in
    let tables = c.in_ok-tables.tables in
    let fault = c.in_err-plan.field-0.0 in
    let other = moved (λ v f. IfSome (trouble fault) (λ t. ReadsPlan v (both_of tables) a.max a.declarations f (g.I.Inputs.failed c.plan_from.new.inputs) (Err t))) (g.I.Inputs.whole c.find_tables.new.inputs) (g.I.Inputs.whole c.args.inputs.now) (g.I.Inputs.failed c.find_tables.new.inputs) (g.I.Inputs.failed c.args.inputs.now) c.find_tables.ensures.whole c.in_ok-tables.ensures.works (c.in_err-plan.ensures.step (c.in_ok-tables.ensures.fresh fresh)) in
    rw (p.1, p.2) (w, told, (inr (both_of tables, are.read, are.warned), IfSome_then (trouble fault) other (λ t is. inr (tables, are, inl is))))

pub returns-in_err-bytes-clause-value : goal.returns-in_err-bytes-clause-value
returns-in_err-bytes-clause-value g c = λ fresh.
    let p = err_from_is_err_and c.from_residual-in_err-bytes.result c.from_residual-in_err-bytes.ensures.1 in
    let (w, told, (warns, (works, are))) = c.in_ok-tables.ensures.value fresh in
    let a = asked_replay c.args.words.now in
    let files = g.I.Inputs.whole c.args.inputs.now in
    let before = g.I.Inputs.failed c.args.inputs.now in
    let tables = c.in_ok-tables.tables in
    let plan = c.in_ok-plan.plan in
    let same = c.in_ok-plan.ensures.works ∙ c.in_ok-tables.ensures.works in
    let step = moved (λ v f. ReadsPlan v (both_of tables) a.max a.declarations f (g.I.Inputs.failed c.plan_from.new.inputs) (Ok plan)) (g.I.Inputs.whole c.find_tables.new.inputs) files (g.I.Inputs.failed c.find_tables.new.inputs) before c.find_tables.ensures.whole c.in_ok-tables.ensures.works (c.in_ok-plan.ensures.step (c.in_ok-tables.ensures.fresh fresh)) in
    let read = subst (λ (f : Failed). ReadsPlan files (both_of tables) a.max a.declarations before f (Ok plan)) same step in
    rw (p.1, p.2) (w, told, (inr (both_of tables, are.read, are.warned), IfSome_then (trouble c.in_err-bytes.field-0.0) c.in_err-bytes.ensures.fails (λ t is. inr (tables, are, inr (plan, read, is.0, is.1)))))

pub returns-in_err-bytes-clause-status : goal.returns-in_err-bytes-clause-status
returns-in_err-bytes-clause-status g c =
    let p = err_from_is_err_and c.from_residual-in_err-bytes.result c.from_residual-in_err-bytes.ensures.1 in
    rw (p.1, p.2) (IfSome_then (trouble c.in_err-bytes.field-0.0) c.in_err-bytes.ensures.fails (λ t is six. ((asked_replay c.args.words.now).script, inl is.0, is.1)))

-- what was left of a path is all of it
up_to : (limit : ℕ) (bytes : List ℕ) (whole left : Option (List ℕ)) → IfSome whole (λ text. left ≡ Some text) → IfSome left (λ text. IsUpTo limit text bytes) → IfSome whole (λ text. IsUpTo limit text bytes)
up_to limit bytes None left fresh read = fresh
up_to limit bytes (Some text) left fresh read = subst (λ (o : Option (List ℕ)). IfSome o (λ t. IsUpTo limit t bytes)) fresh read

pub returns-clause-value : goal.returns-clause-value
returns-clause-value g c = λ fresh.
    let (w, told, (warns, (works, are))) = c.in_ok-tables.ensures.value fresh in
    let a = asked_replay c.args.words.now in
    let files = g.I.Inputs.whole c.args.inputs.now in
    let before = g.I.Inputs.failed c.args.inputs.now in
    let mid = g.I.Inputs.failed c.plan_from.new.inputs in
    let tables = c.in_ok-tables.tables in
    let plan = c.in_ok-plan.plan in
    let bytes = c.in_ok-bytes.bytes.items in
    let on = c.in_ok-tables.ensures.fresh fresh in
    let same = c.in_ok-plan.ensures.works ∙ c.in_ok-tables.ensures.works in
    let step = moved (λ v f. ReadsPlan v (both_of tables) a.max a.declarations f mid (Ok plan)) (g.I.Inputs.whole c.find_tables.new.inputs) files (g.I.Inputs.failed c.find_tables.new.inputs) before c.find_tables.ensures.whole c.in_ok-tables.ensures.works (c.in_ok-plan.ensures.step on) in
    let whole = c.plan_from.ensures.whole ∙ c.find_tables.ensures.whole in
    let held = up_to MAX_SCRIPT bytes (g.I.Inputs.whole c.plan_from.new.inputs a.script) (g.I.Inputs.left c.plan_from.new.inputs a.script) (c.in_ok-plan.ensures.fresh on a.script) c.in_ok-bytes.ensures.bytes in
    let there = subst (λ (v : List ℕ → Option (List ℕ)). IfSome (v a.script) (λ text. IsUpTo MAX_SCRIPT text bytes)) whole held in (
      w,
      told,
      (
        inr (both_of tables, are.read, are.warned),
        (
          c.in_ok-bytes.ensures.works ∙ same,
          record {
            tables = tables;
            read = are;
            plan = subst (λ (f : Failed). ReadsPlan files (both_of tables) a.max a.declarations before f (Ok plan)) same step;
            script = there;
          },
        ),
      ),
    )
