use Rattle.std.proofs.Common.{◌≡◌, ◌∙◌, ◌++◌, [], Option, IfSome, Ok, Err, false, inl, inr, option_map, refl, rules, subst, true}
use Rattle.std.proofs.lemmas.Option.{IfSome_then}
use Rattle.std.proofs.lemmas.Result.{err_from_is_err_and}
use Rattle.cs_args.specs.Asked.{asked_draft}
use Rattle.cs_decl.specs.declared.entries.Entries.{Entries}
use Rattle.cs_plan.specs.Plain.{is_possible_max}
use Rattle.cs_io.specs.Files.{Failed}
use Rattle.cs_files.specs.Asked.{both_of}
use Rattle.cs_files.specs.Trouble.{trouble}
use Rattle.cs_files.specs.Turn.{draft_paths, some_path, table_paths}
use Rattle.cs_files.proofs.AskedLemmas.{tries_nothing}
use Rattle.cs_files.proofs.TroubleLemmas.{moved}
use Rattle.cs_files.proofs.TurnLemmas.{none_read, some_read, then_read}
use Rattle.cs_draft.specs.Answer.{ReadsOld, ReadsText}
use Rattle.cs_draft.proofs.answer.find_draftable.Goals as goal

pub returns-then-not-is_possible_max-clause-value : goal.returns-then-not-is_possible_max-clause-value
returns-then-not-is_possible_max-clause-value g c = λ fresh.
    let a = asked_draft c.args.words.now in
    let is : is_possible_max a.max ≡ false = search rules in
    rw is ([], tries_nothing _, (inl (refl, none_read (table_paths a.table a.anacrontab) (g.I.Inputs.reads c.args.inputs.now)), (refl, refl, refl)))

pub returns-then-not-is_possible_max-clause-turn : goal.returns-then-not-is_possible_max-clause-turn
returns-then-not-is_possible_max-clause-turn g c = none_read (draft_paths (asked_draft c.args.words.now)) (g.I.Inputs.reads c.args.inputs.now)

pub returns-in_err-tables-clause-turn : goal.returns-in_err-tables-clause-turn
returns-in_err-tables-clause-turn g c =
    let a = asked_draft c.args.words.now in
    some_read (table_paths a.table a.anacrontab) (some_path a.update ++ some_path a.maxes) (g.I.Inputs.reads c.args.inputs.now) (g.I.Inputs.reads c.find_tables.new.inputs) c.find_tables.ensures.turn

pub returns-in_err-old-clause-turn : goal.returns-in_err-old-clause-turn
returns-in_err-old-clause-turn g c =
    let a = asked_draft c.args.words.now in
    then_read (table_paths a.table a.anacrontab) (some_path a.update ++ some_path a.maxes) (g.I.Inputs.reads c.args.inputs.now) (g.I.Inputs.reads c.find_tables.new.inputs) (g.I.Inputs.reads c.find_old.new.inputs) c.find_tables.ensures.turn
    (some_read (some_path a.update) (some_path a.maxes) _ _ c.find_old.ensures.turn)

pub returns-in_err-maxes-clause-turn : goal.returns-in_err-maxes-clause-turn
returns-in_err-maxes-clause-turn g c =
    let a = asked_draft c.args.words.now in
    then_read (table_paths a.table a.anacrontab) (some_path a.update ++ some_path a.maxes) (g.I.Inputs.reads c.args.inputs.now) (g.I.Inputs.reads c.find_tables.new.inputs) (g.I.Inputs.reads c.text_at.new.inputs) c.find_tables.ensures.turn
    (then_read (some_path a.update) (some_path a.maxes) _ (g.I.Inputs.reads c.find_old.new.inputs) _ c.find_old.ensures.turn c.text_at.ensures.turn)

pub returns-clause-turn : goal.returns-clause-turn
returns-clause-turn g c =
    let a = asked_draft c.args.words.now in
    then_read (table_paths a.table a.anacrontab) (some_path a.update ++ some_path a.maxes) (g.I.Inputs.reads c.args.inputs.now) (g.I.Inputs.reads c.find_tables.new.inputs) (g.I.Inputs.reads c.text_at.new.inputs) c.find_tables.ensures.turn
    (then_read (some_path a.update) (some_path a.maxes) _ (g.I.Inputs.reads c.find_old.new.inputs) _ c.find_old.ensures.turn c.text_at.ensures.turn)

pub returns-in_err-tables-clause-value : goal.returns-in_err-tables-clause-value
returns-in_err-tables-clause-value g c = λ fresh.
    let p = err_from_is_err_and c.from_residual.result c.from_residual.ensures.1 in
    let (w, told, (warns, came)) = c.in_err-tables.ensures.value fresh in
    let can : is_possible_max (asked_draft c.args.words.now).max ≡ true = search rules in
    rw (can, p.1, p.2) (w, told, (warns, IfSome_then (trouble c.in_err-tables.field-0.0) came (λ t is. inl (t, is, refl))))

pub returns-in_err-old-clause-value : goal.returns-in_err-old-clause-value
returns-in_err-old-clause-value g c = λ fresh.
    let p = err_from_is_err_and c.from_residual-in_err-old.result c.from_residual-in_err-old.ensures.1 in
    let (w, told, (warns, (works, are))) = c.in_ok-tables.ensures.value fresh in
    let a = asked_draft c.args.words.now in
    let tables = c.in_ok-tables.tables in
    let fault = c.in_err-old.field-0.0 in
    let other = moved (λ v f. IfSome (trouble fault) (λ t. ReadsOld v a.update f (g.I.Inputs.failed c.find_old.new.inputs) (Err t))) (g.I.Inputs.whole c.find_tables.new.inputs) (g.I.Inputs.whole c.args.inputs.now) (g.I.Inputs.failed c.find_tables.new.inputs) (g.I.Inputs.failed c.args.inputs.now) c.find_tables.ensures.whole c.in_ok-tables.ensures.works (c.in_err-old.ensures.step (c.in_ok-tables.ensures.fresh fresh)) in
    let can : is_possible_max (asked_draft c.args.words.now).max ≡ true = search rules in
    rw (can, p.1, p.2) (w, told, (inr (both_of tables, are.read, are.warned), IfSome_then (trouble fault) other (λ t is. inr (tables, (refl, are), inl (t, is, refl)))))

pub returns-in_err-maxes-clause-value : goal.returns-in_err-maxes-clause-value
returns-in_err-maxes-clause-value g c = λ fresh.
    let p = err_from_is_err_and c.from_residual-in_err-maxes.result c.from_residual-in_err-maxes.ensures.1 in
    let (w, told, (warns, (works, are))) = c.in_ok-tables.ensures.value fresh in
    let a = asked_draft c.args.words.now in
    let files = g.I.Inputs.whole c.args.inputs.now in
    let before = g.I.Inputs.failed c.args.inputs.now in
    let mid = g.I.Inputs.failed c.find_old.new.inputs in
    let after = g.I.Inputs.failed c.text_at.new.inputs in
    let tables = c.in_ok-tables.tables in
    let old : Option Entries = option_map (λ p. p.0) c.in_ok-old.old in
    let on = c.in_ok-tables.ensures.fresh fresh in
    let same = c.in_ok-old.ensures.works ∙ c.in_ok-tables.ensures.works in
    let one = moved (λ v f. ReadsOld v a.update f mid (Ok old)) (g.I.Inputs.whole c.find_tables.new.inputs) files (g.I.Inputs.failed c.find_tables.new.inputs) before c.find_tables.ensures.whole c.in_ok-tables.ensures.works (c.in_ok-old.ensures.step on) in
    let fault = c.in_err-maxes.field-0.0 in
    let text = moved (λ v f. IfSome (trouble fault) (λ t. ReadsText v a.maxes f after (Err t))) (g.I.Inputs.whole c.find_old.new.inputs) files mid before (c.find_old.ensures.whole ∙ c.find_tables.ensures.whole) same (c.in_err-maxes.ensures.step (c.in_ok-old.ensures.fresh on)) in
    let can : is_possible_max (asked_draft c.args.words.now).max ≡ true = search rules in
    rw (can, p.1, p.2) (w, told, (inr (both_of tables, are.read, are.warned), IfSome_then (trouble fault) text (λ t is. inr (tables, (refl, are), inr (old, subst (λ (f : Failed). ReadsOld files a.update before f (Ok old)) same one, inl (t, is, refl))))))

pub returns-clause-value : goal.returns-clause-value
returns-clause-value g c = λ fresh.
    let (w, told, (warns, (works, are))) = c.in_ok-tables.ensures.value fresh in
    let a = asked_draft c.args.words.now in
    let files = g.I.Inputs.whole c.args.inputs.now in
    let before = g.I.Inputs.failed c.args.inputs.now in
    let mid = g.I.Inputs.failed c.find_old.new.inputs in
    let after = g.I.Inputs.failed c.text_at.new.inputs in
    let tables = c.in_ok-tables.tables in
    let old : Option Entries = option_map (λ p. p.0) c.in_ok-old.old in
    let maxes = c.in_ok-maxes.maxes in
    let on = c.in_ok-tables.ensures.fresh fresh in
    let same = c.in_ok-old.ensures.works ∙ c.in_ok-tables.ensures.works in
    let still = c.in_ok-maxes.ensures.works ∙ same in
    let one = moved (λ v f. ReadsOld v a.update f mid (Ok old)) (g.I.Inputs.whole c.find_tables.new.inputs) files (g.I.Inputs.failed c.find_tables.new.inputs) before c.find_tables.ensures.whole c.in_ok-tables.ensures.works (c.in_ok-old.ensures.step on) in
    let text = moved (λ v f. ReadsText v a.maxes f after (Ok maxes)) (g.I.Inputs.whole c.find_old.new.inputs) files mid before (c.find_old.ensures.whole ∙ c.find_tables.ensures.whole) same (c.in_ok-maxes.ensures.step (c.in_ok-old.ensures.fresh on)) in
    let can : is_possible_max (asked_draft c.args.words.now).max ≡ true = search rules in
    rw can (w, told, (inr (both_of tables, are.read, are.warned), inr (tables, (refl, are), inr (old, subst (λ (f : Failed). ReadsOld files a.update before f (Ok old)) same one, inr (maxes, subst (λ (f : Failed). ReadsText files a.maxes before f (Ok maxes)) still text, (still, (_, (refl, refl, refl), refl)))))))
