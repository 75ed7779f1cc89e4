use Rattle.std.proofs.Common.{ℕ, List, [], None, inl, inr, refl, subst}
use Rattle.std.proofs.lemmas.Option.{IfSome_then}
use Rattle.std.proofs.lemmas.Result.{err_from_is_err_and}
use Rattle.cs_args.specs.Asked.{asked_wall}
use Rattle.cs_files.specs.Trouble.{trouble}
use Rattle.cs_files.specs.Turn.{table_paths}
use Rattle.cs_files.proofs.AskedLemmas.{tries_nothing}
use Rattle.cs_files.proofs.TurnLemmas.{none_read}
use Rattle.cs_show.specs.WallAnswer.{IsBadRule, IsRuleOf}
use Rattle.cronsafe.proofs.Replies.{ends_as}
use Rattle.cronsafe.proofs.responding.find_wall.Goals as goal

pub returns-in_err-question-clause-value : goal.returns-in_err-question-clause-value
returns-in_err-question-clause-value g c = λ fresh.
    let p = err_from_is_err_and c.from_residual.result c.from_residual.ensures.1 in
    let a = asked_wall c.args.words in
    let warns = inl (refl, none_read (table_paths a.day.table None) (g.I.Inputs.reads c.args.inputs.now)) in
    rw (p.1, p.2) ([], tries_nothing _, (warns, λ ending same. inl (c.in_err-question.field-0.0, c.in_err-question.ensures.err, refl, refl, same)))

pub returns-in_err-question-clause-turn : goal.returns-in_err-question-clause-turn
returns-in_err-question-clause-turn g c =
    let a = asked_wall c.args.words in
    none_read (table_paths a.day.table None) (g.I.Inputs.reads c.args.inputs.now)

pub returns-in_err-tables-in-Ok-clause-value : goal.returns-in_err-tables-in-Ok-clause-value
returns-in_err-tables-in-Ok-clause-value g c = λ fresh.
    let p = err_from_is_err_and c.from_residual-in_err-tables-in-Ok.result c.from_residual-in_err-tables-in-Ok.ensures.1 in
    let (w, told, (warns, came)) = c.in_err-tables-in-Ok.ensures.value fresh in
    let rule = subst (λ (text : List ℕ). IsRuleOf text c.in-Ok.clock) c.as_bytes.ensures.value c.in-Ok.ensures.ok in
    rw (p.1, p.2) (w, told, (warns, IfSome_then (trouble c.in_err-tables-in-Ok.field-0.0) came (λ t is ending same. inr (c.in_ok-question.question, c.in_ok-question.ensures.ok, inr (c.in-Ok.clock, rule, inl (t, is, same))))))

pub returns-in_ok-tables-in-Ok-clause-value : goal.returns-in_ok-tables-in-Ok-clause-value
returns-in_ok-tables-in-Ok-clause-value g c = λ fresh.
    let (w, told, (warns, came)) = c.in_ok-tables-in-Ok.ensures.value fresh in
    let rule = subst (λ (text : List ℕ). IsRuleOf text c.in-Ok.clock) c.as_bytes.ensures.value c.in-Ok.ensures.ok in
    (w, told, (warns, ends_as (λ e is. inr (c.in_ok-question.question, c.in_ok-question.ensures.ok, inr (c.in-Ok.clock, rule, inr (c.in_ok-tables-in-Ok.tables, came, is))))))

pub returns-in-Err-clause-value : goal.returns-in-Err-clause-value
returns-in-Err-clause-value g c = λ fresh.
    let a = asked_wall c.args.words in
    let warns = inl (refl, none_read (table_paths a.day.table None) (g.I.Inputs.reads c.args.inputs.now)) in
    let rule = subst (λ (text : List ℕ). IsBadRule text c.in-Err.fault) c.as_bytes.ensures.value c.in-Err.ensures.err in
    ([], tries_nothing _, (warns, ends_as (λ e is. inr (c.in_ok-question.question, c.in_ok-question.ensures.ok, inl (c.in-Err.fault, rule, refl, refl, is)))))

pub returns-in-Err-clause-turn : goal.returns-in-Err-clause-turn
returns-in-Err-clause-turn g c =
    let a = asked_wall c.args.words in
    none_read (table_paths a.day.table None) (g.I.Inputs.reads c.args.inputs.now)
