use Rattle.std.proofs.Common.{◌≡◌, ◌+◌, ◌∙◌, ap, subst, sym, arith, length, List, ℕ, [], Err}
use Rattle.std.proofs.lemmas.Bool.{eqb-true}
use Rattle.std.proofs.lemmas.List.{nil_from_length}
use Rattle.cs_table.specs.Text.{lines_of}
use Rattle.cs_table.specs.Wrong.{Gives}
use Rattle.cs_table.specs.Table.{Stops, lines_from}
use Rattle.cs_table.proofs.Lines.{lines_of_nothing}
use Rattle.cs_table.proofs.Loop.{goes_on, ends, is_done}
use Rattle.cs_table.proofs.reader.read_lines.Goals as goal

pub returns-in-Err : goal.returns-in-Err
returns-in-Err g c =
    let added = g.T.Draft.added in
    let n : ℕ = c.loop-rest.number + 1 in
    let table = c.loop-rest.table in
    let line : List ℕ = c.first_line.result.0.now in
    let fails = subst (λ r. Gives (λ _. c.add.new.self) r (added n table line)) c.in-Err.is c.in_ok-add.ensures.gives in
    subst (λ f. Stops f (lines_from added 1 c.args.empty (lines_of c.args.bytes.now))) (sym c.at.ensures)
    (sym c.loop-rest.invariant.so_far ∙ ap (λ (ls : List (List ℕ)). lines_from added n table ls) c.first_line.ensures.line
    ∙ ends added n table c.in-Err.wrong line (lines_of c.first_line.result.1.now) fails)

pub loop-rest-preserved : goal.loop-rest-preserved
loop-rest-preserved g c =
    let added = g.T.Draft.added in
    let n : ℕ = c.loop-rest.number + 1 in
    let table = c.loop-rest.table in
    let line : List ℕ = c.first_line.result.0.now in
    let shorter = c.first_line.ensures.shorter in
    let takes = subst (λ r. Gives (λ _. c.add.new.self) r (added n table line)) c.in-Ok.is c.in_ok-add.ensures.gives in
    record {
      within = omega arith;
      so_far =
          goes_on added n table c.add.new.self line (lines_of c.first_line.result.1.now) takes
          ∙ ap (λ (ls : List (List ℕ)). lines_from added n table ls) (sym c.first_line.ensures.line) ∙ c.loop-rest.invariant.so_far;
    }

pub returns : goal.returns
returns g c =
    let added = g.T.Draft.added in
    let n : ℕ = c.loop-rest.number + 1 in
    let nothing : c.loop-rest.rest.now ≡ [] = nil_from_length c.loop-rest.rest.now (eqb-true (length c.loop-rest.rest.now) 0 (sym c.is_empty.ensures ∙ c.loop-rest-test.false)) in
    sym c.loop-rest.invariant.so_far ∙ ap (λ (ls : List (List ℕ)). lines_from added n c.loop-rest.table ls) (ap lines_of nothing ∙ lines_of_nothing) ∙ is_done added n c.loop-rest.table
