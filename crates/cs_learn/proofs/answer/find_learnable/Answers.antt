use Rattle.std.proofs.Common.{◌≡◌, ◌∙◌, [], ℕ, List, Bor, None, Some, IfSome, Ok, Err, inl, inr, map, refl, rules, subst}
use Rattle.std.proofs.lemmas.Option.{IfSome_then}
use Rattle.std.proofs.lemmas.Result.{err_from_is_err_and}
use Rattle.cs_args.specs.Asked.{asked_learn}
use Rattle.cs_io.specs.Files.{AreReadInTurn}
use Rattle.cs_files.specs.Asked.{both_of}
use Rattle.cs_files.specs.Trouble.{trouble}
use Rattle.cs_files.specs.Turn.{table_paths}
use Rattle.cs_files.proofs.AskedLemmas.{tries_nothing}
use Rattle.cs_files.proofs.TroubleLemmas.{moved}
use Rattle.cs_files.proofs.TurnLemmas.{none_read, some_read, then_read}
use Rattle.cs_learn.specs.Answer.{ReadsLogs, learned_paths}
use Rattle.cs_learn.specs.Max.{factor_in}
use Rattle.cs_learn.proofs.answer.find_learnable.Goals as goal

pub returns-in_default-clause-value : goal.returns-in_default-clause-value
returns-in_default-clause-value g c = λ fresh.
    let a = asked_learn c.args.words.now in
    let is : factor_in a.factor ≡ None = search rules in
    rw is ([], tries_nothing _, (inl (refl, none_read (table_paths a.table a.anacrontab) (g.I.Inputs.reads c.args.inputs.now)), (refl, refl, refl)))

pub returns-in_default-clause-turn : goal.returns-in_default-clause-turn
returns-in_default-clause-turn g c = none_read (learned_paths (asked_learn c.args.words.now)) (g.I.Inputs.reads c.args.inputs.now)

pub returns-in_err-tables-clause-value : goal.returns-in_err-tables-clause-value
returns-in_err-tables-clause-value g c = λ fresh.
    let is : factor_in (asked_learn c.args.words.now).factor ≡ Some c.in-Some.factor = search rules in
    let p = err_from_is_err_and c.from_residual.result c.from_residual.ensures.1 in
    let (w, told, (warns, came)) = c.in_err-tables.ensures.value fresh in
    rw (is, p.1, p.2) (w, told, (warns, IfSome_then (trouble c.in_err-tables.field-0.0) came (λ t no. inl (t, no, refl))))

pub returns-in_err-log-clause-value : goal.returns-in_err-log-clause-value
returns-in_err-log-clause-value g c = λ fresh.
    let a = asked_learn c.args.words.now in
    let is : factor_in a.factor ≡ Some c.in-Some.factor = search rules in
    let p = err_from_is_err_and c.from_residual-in_err-log.result c.from_residual-in_err-log.ensures.1 in
    let (w, told, (warns, (works, are))) = c.in_ok-tables.ensures.value fresh in
    let files = g.I.Inputs.whole c.args.inputs.now in
    let before = g.I.Inputs.failed c.args.inputs.now in
    let mid = g.I.Inputs.failed c.find_tables.new.inputs in
    let after = g.I.Inputs.failed c.logs_at.new.inputs in
    let tables = c.in_ok-tables.tables in
    let fault = c.in_err-log.field-0.0 in
    let unread = moved (λ v f. IfSome (trouble fault) (λ t. ReadsLogs v (map (λ (path : Bor (List ℕ)). path.now) c.as_slice.result.now) f after (Err t))) (g.I.Inputs.whole c.find_tables.new.inputs) files mid before c.find_tables.ensures.whole c.in_ok-tables.ensures.works (c.in_err-log.ensures.step (c.in_ok-tables.ensures.fresh fresh)) in
    let logs = subst (λ (l : List (Bor (List ℕ))). IfSome (trouble fault) (λ t. ReadsLogs files (map (λ (path : Bor (List ℕ)). path.now) l) before after (Err t))) c.as_slice.ensures.value unread in
    rw (is, p.1, p.2) (w, told, (inr (both_of tables, are.read, are.warned), IfSome_then (trouble fault) logs (λ t no. inr (tables, (refl, are), inl (t, no, refl)))))

pub returns-clause-value : goal.returns-clause-value
returns-clause-value g c = λ fresh.
    let a = asked_learn c.args.words.now in
    let is : factor_in a.factor ≡ Some c.in-Some.factor = search rules in
    let (w, told, (warns, (works, are))) = c.in_ok-tables.ensures.value fresh in
    let tables = c.in_ok-tables.tables in
    let same = c.in_ok-log.ensures.works ∙ c.in_ok-tables.ensures.works in
    rw is (w, told, (inr (both_of tables, are.read, are.warned), inr (tables, (refl, are), inr (c.in_ok-log.log, refl, (same, (_, refl, refl))))))

pub returns-in_err-tables-clause-turn : goal.returns-in_err-tables-clause-turn
returns-in_err-tables-clause-turn g c =
    let a = asked_learn c.args.words.now in
    some_read (table_paths a.table a.anacrontab) a.logs (g.I.Inputs.reads c.args.inputs.now) (g.I.Inputs.reads c.find_tables.new.inputs) c.find_tables.ensures.turn

pub returns-in_err-log-clause-turn : goal.returns-in_err-log-clause-turn
returns-in_err-log-clause-turn g c =
    let a = asked_learn c.args.words.now in
    let logs = subst (λ (l : List (Bor (List ℕ))). AreReadInTurn (map (λ (path : Bor (List ℕ)). path.now) l) (g.I.Inputs.reads c.find_tables.new.inputs) (g.I.Inputs.reads c.logs_at.new.inputs)) c.as_slice.ensures.value c.logs_at.ensures.turn in
    then_read (table_paths a.table a.anacrontab) a.logs (g.I.Inputs.reads c.args.inputs.now) (g.I.Inputs.reads c.find_tables.new.inputs) (g.I.Inputs.reads c.logs_at.new.inputs) c.find_tables.ensures.turn logs

pub returns-clause-turn : goal.returns-clause-turn
returns-clause-turn g c =
    let a = asked_learn c.args.words.now in
    let logs = subst (λ (l : List (Bor (List ℕ))). AreReadInTurn (map (λ (path : Bor (List ℕ)). path.now) l) (g.I.Inputs.reads c.find_tables.new.inputs) (g.I.Inputs.reads c.logs_at.new.inputs)) c.as_slice.ensures.value c.logs_at.ensures.turn in
    then_read (table_paths a.table a.anacrontab) a.logs (g.I.Inputs.reads c.args.inputs.now) (g.I.Inputs.reads c.find_tables.new.inputs) (g.I.Inputs.reads c.logs_at.new.inputs) c.find_tables.ensures.turn logs
