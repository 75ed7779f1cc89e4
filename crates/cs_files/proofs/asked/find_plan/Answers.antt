use Rattle.std.proofs.Common.{◌∙◌, ℕ, List, Option, [], ◌∷◌, IfSome, Ok, Err, inl, inr, refl, subst, sym}
use Rattle.std.proofs.lemmas.Option.{IfSome_then}
use Rattle.std.proofs.lemmas.Result.{err_from_is_err_and}
use Rattle.std.specs.Prelude.{option_map}
use Rattle.cs_io.specs.Files.{Failed}
use Rattle.cs_place.specs.declared.places.Place.{Place}
use Rattle.cs_files.specs.Asked.{IsPlanned, both_of}
use Rattle.cs_files.specs.Reads.{FittingIn, ReadsFitting}
use Rattle.cs_files.specs.Trouble.{trouble}
use Rattle.cs_files.specs.Turn.{table_paths}
use Rattle.cs_files.specs.declared.asked.Planned.{Planned}
use Rattle.cs_files.proofs.TroubleLemmas.{moved}
use Rattle.cs_files.proofs.TurnLemmas.{first_read, some_read, then_read}
use Rattle.cs_files.proofs.asked.find_plan.Goals as goal

pub returns-in_err-tables-clause-turn : goal.returns-in_err-tables-clause-turn
returns-in_err-tables-clause-turn g c =
    some_read (table_paths c.args.table.now (option_map (λ path. path.now) c.args.anacrontab)) (c.args.declarations.now ∷ []) (g.I.Inputs.reads c.args.inputs.now) (g.I.Inputs.reads c.find_tables.new.inputs) c.find_tables.ensures.turn

pub returns-in_err-plan-clause-turn : goal.returns-in_err-plan-clause-turn
returns-in_err-plan-clause-turn g c =
    then_read (table_paths c.args.table.now (option_map (λ path. path.now) c.args.anacrontab)) (c.args.declarations.now ∷ []) (g.I.Inputs.reads c.args.inputs.now) (g.I.Inputs.reads c.find_tables.new.inputs) (g.I.Inputs.reads c.placed_plan_and_text.new.inputs)
    c.find_tables.ensures.turn (first_read c.args.declarations.now [] _ _ c.placed_plan_and_text.ensures.alone)

pub returns-clause-turn : goal.returns-clause-turn
returns-clause-turn g c =
    then_read (table_paths c.args.table.now (option_map (λ path. path.now) c.args.anacrontab)) (c.args.declarations.now ∷ []) (g.I.Inputs.reads c.args.inputs.now) (g.I.Inputs.reads c.find_tables.new.inputs) (g.I.Inputs.reads c.placed_plan_and_text.new.inputs)
    c.find_tables.ensures.turn (first_read c.args.declarations.now [] _ _ c.placed_plan_and_text.ensures.alone)

pub returns-in_err-tables-clause-value : goal.returns-in_err-tables-clause-value
returns-in_err-tables-clause-value g c = λ fresh.
    let p = err_from_is_err_and c.from_residual.result c.from_residual.ensures.1 in
    let (w, told, (warns, came)) = c.in_err-tables.ensures.value fresh in
    rw (p.1, p.2) (w, told, (warns, IfSome_then (trouble c.in_err-tables.field-0.0) came (λ t is. inl is)))

pub returns-in_err-plan-clause-value : goal.returns-in_err-plan-clause-value
returns-in_err-plan-clause-value g c = λ fresh.
    let p = err_from_is_err_and c.from_residual-in_err-plan.result c.from_residual-in_err-plan.ensures.1 in
    let (w, told, (warns, (works, are))) = c.in_ok-tables.ensures.value fresh in
    let files = g.I.Inputs.whole c.args.inputs.now in
    let before = g.I.Inputs.failed c.args.inputs.now in
    let after = g.I.Inputs.failed c.placed_plan_and_text.new.inputs in
    let tables = c.in_ok-tables.tables in
    let fault = c.in_err-plan.field-0.0 in
    let other = moved (λ v f. IfSome (trouble fault) (λ t. ReadsFitting v c.as_slice.result.now (both_of tables) c.args.declarations.now f after (Err t))) (g.I.Inputs.whole c.find_tables.new.inputs) files (g.I.Inputs.failed c.find_tables.new.inputs) before c.find_tables.ensures.whole c.in_ok-tables.ensures.works (c.in_err-plan.ensures.step (c.in_ok-tables.ensures.fresh fresh)) in
    let at = subst (λ (l : List Place). IfSome (trouble fault) (λ t. ReadsFitting files l (both_of tables) c.args.declarations.now before after (Err t))) c.as_slice.ensures other in
    rw (p.1, p.2) (w, told, (inr (both_of tables, are.read, are.warned), IfSome_then (trouble fault) at (λ t is. inr (tables, are, is))))

pub returns-clause-value : goal.returns-clause-value
returns-clause-value g c = λ fresh.
    let (w, told, (warns, (works, are))) = c.in_ok-tables.ensures.value fresh in
    let files = g.I.Inputs.whole c.args.inputs.now in
    let before = g.I.Inputs.failed c.args.inputs.now in
    let after = g.I.Inputs.failed c.placed_plan_and_text.new.inputs in
    let table = c.args.table.now in
    let jobs = option_map (λ path. path.now) c.args.anacrontab in
    let path = c.args.declarations.now in
    let tables = c.in_ok-tables.tables in
    let plan = c.in_ok-plan.plan in
    let on = c.in_ok-tables.ensures.fresh fresh in
    let same = c.in_ok-plan.ensures.works in
    let step = moved (λ v f. ReadsFitting v c.as_slice.result.now (both_of tables) path f after (Ok plan)) (g.I.Inputs.whole c.find_tables.new.inputs) files (g.I.Inputs.failed c.find_tables.new.inputs) before c.find_tables.ensures.whole c.in_ok-tables.ensures.works (c.in_ok-plan.ensures.step on) in
    let one = subst (λ (f : Failed). ReadsFitting files c.as_slice.result.now (both_of tables) path before f (Ok plan)) (same ∙ c.in_ok-tables.ensures.works) step in
    let held = subst (λ (v : List ℕ → Option (List ℕ)). FittingIn v path c.as_slice.result.now (both_of tables) plan c.in_ok-plan.terms.items) c.find_tables.ensures.whole (c.in_ok-plan.ensures.text on) in
    let found : Planned = record { plan = plan; places = tables.places; table = tables.text; declarations = c.from_vec.result } in
    let is : IsPlanned files table jobs path w before found = record {
      tables = tables;
      read = are;
      plan = subst (λ (l : List Place). ReadsFitting files l (both_of tables) path before before (Ok plan)) c.as_slice.ensures one;
      text = subst (λ (b : List ℕ). FittingIn files path tables.places (both_of tables) plan b) (sym c.from_vec.ensures) (subst (λ (l : List Place). FittingIn files path l (both_of tables) plan c.in_ok-plan.terms.items) c.as_slice.ensures held);
      same_places = refl;
      same_table = refl;
    } in
    (w, told, (inr (both_of tables, are.read, are.warned), (same ∙ c.in_ok-tables.ensures.works, is)))
