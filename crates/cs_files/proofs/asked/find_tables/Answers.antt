use Rattle.std.proofs.Common.{◌≡◌, ℕ, List, [], Ok, inl, inr, refl, subst, sym}
use Rattle.std.proofs.lemmas.Option.{IfSome_then}
use Rattle.std.proofs.lemmas.Result.{err_from_is_err_and}
use Rattle.std.specs.Prelude.{option_map}
use Rattle.cs_io.specs.Files.{Failed}
use Rattle.cs_place.specs.Places.{places_of}
use Rattle.cs_files.specs.Asked.{AreTables}
use Rattle.cs_files.specs.Ending.{Tries, sink}
use Rattle.cs_files.specs.Reads.{ReadsTables, TextIn}
use Rattle.cs_files.specs.Trouble.{trouble}
use Rattle.cs_files.specs.declared.asked.Tables.{Tables}
use Rattle.cs_files.proofs.AskedLemmas.{tries_nothing}
use Rattle.cs_files.proofs.asked.find_tables.Goals as goal

pub returns-in_err-tables-clause-value : goal.returns-in_err-tables-clause-value
returns-in_err-tables-clause-value g c = λ fresh.
    let p = err_from_is_err_and c.from_residual.result c.from_residual.ensures.1 in
    rw (p.1, p.2) (
      [],
      tries_nothing _,
      (
        inl (refl, c.read_tables_and_text.ensures.turn),
        IfSome_then (trouble c.in_err-tables.field-0.0) (c.in_err-tables.ensures.step fresh) (λ t is. (refl, is)),
      ),
    )

pub returns-in_err-warnings-clause-value : goal.returns-in_err-warnings-clause-value
returns-in_err-warnings-clause-value g c = λ fresh.
    let p = err_from_is_err_and c.from_residual-in_err-warnings.result c.from_residual-in_err-warnings.ensures.1 in
    rw (p.1, p.2) ([], tries_nothing _, (inl (refl, c.read_tables_and_text.ensures.turn), tt))

pub returns-in_err-places-clause-value : goal.returns-in_err-places-clause-value
returns-in_err-places-clause-value g c = λ fresh.
    let p = err_from_is_err_and c.from_residual-in_err-places.result c.from_residual-in_err-places.ensures.1 in
    let table = c.args.table.now in
    let jobs = option_map (λ path. path.now) c.args.anacrontab in
    let both = c.in_ok-tables.tables in
    let one = subst (λ (f : Failed). ReadsTables (g.I.Inputs.whole c.args.inputs.now) table jobs (g.I.Inputs.failed c.args.inputs.now) f (Ok both)) c.in_ok-tables.ensures.works (c.in_ok-tables.ensures.step fresh) in
    let old = sink (g.E.Output.contents c.args.err.now) (g.E.Output.failed c.args.err.now) in
    let new = sink (g.E.Output.contents c.tell.new.err) (g.E.Output.failed c.tell.new.err) in
    let told = subst (λ (t : List ℕ). Tries t old new) c.as_slice.ensures c.tell.ensures in
    rw (p.1, p.2) (c.in_ok-warnings.warnings, told, (inr (both, one, c.in_ok-warnings.ensures), tt))

pub returns-clause-value : goal.returns-clause-value
returns-clause-value g c = λ fresh.
    let files = g.I.Inputs.whole c.args.inputs.now in
    let before = g.I.Inputs.failed c.args.inputs.now in
    let table = c.args.table.now in
    let jobs = option_map (λ path. path.now) c.args.anacrontab in
    let both = c.in_ok-tables.tables in
    let text = c.in_ok-tables.text.items in
    let w = c.in_ok-warnings.warnings in
    let one = subst (λ (f : Failed). ReadsTables files table jobs before f (Ok both)) c.in_ok-tables.ensures.works (c.in_ok-tables.ensures.step fresh) in
    let old = sink (g.E.Output.contents c.args.err.now) (g.E.Output.failed c.args.err.now) in
    let new = sink (g.E.Output.contents c.tell.new.err) (g.E.Output.failed c.tell.new.err) in
    let told = subst (λ (t : List ℕ). Tries t old new) c.as_slice.ensures c.tell.ensures in
    let listed = subst (λ (b : List ℕ). c.in_ok-places.places ≡ places_of b both.0) c.as_slice-2.ensures.value c.in_ok-places.ensures in
    let found : Tables = record { crontab = both.0; jobs = both.1; text = c.from_vec.result; places = c.in_ok-places.places } in
    let are : AreTables files table jobs w before found = record {
      read = one;
      text = subst (TextIn files table both.0) (sym c.from_vec.ensures) (c.in_ok-tables.ensures.text fresh);
      places = subst (λ (b : List ℕ). c.in_ok-places.places ≡ places_of b both.0) (sym c.from_vec.ensures) listed;
      warned = c.in_ok-warnings.ensures;
    } in
    (w, told, (inr (both, one, c.in_ok-warnings.ensures), (c.in_ok-tables.ensures.works, are)))
