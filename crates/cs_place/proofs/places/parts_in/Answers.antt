use Rattle.std.proofs.Common.{◌≡◌, ◌++◌, ◌∙◌, ◌∷◌, ap, arith, sym, length, List, ℕ, [], None, Some, rules}
use Rattle.std.proofs.lemmas.List.{append-nil, length-append}
use Rattle.cs_table.specs.Text.{lines_of}
use Rattle.cs_table.proofs.Lines.{lines_of_nothing}
use Rattle.cs_table.proofs.Results.{empty_is}
use Rattle.cs_place.specs.Places.{part_in, parts_in}
use Rattle.cs_place.proofs.Noted.{no_lines, no_part, one_part}
use Rattle.cs_place.proofs.places.parts_in.Goals as goal

pub returns-in_default-clause-parts : goal.returns-in_default-clause-parts
returns-in_default-clause-parts c =
    let before : List (List ℕ) = c.loop-rest.parts in
    let none : part_in c.first_line.result.0.now ≡ None = sym c.in_default.ensures in
    sym (append-nil before)
    ∙ ap (λ (l : List (List ℕ)). before ++ l) (sym (ap parts_in c.first_line.ensures.line ∙ no_part c.first_line.result.0.now (lines_of c.first_line.result.1.now) none))
    ∙ c.loop-rest.invariant.told

pub loop-rest-preserved : goal.loop-rest-preserved
loop-rest-preserved c =
    let before : List (List ℕ) = c.loop-rest.parts in
    let line : List ℕ = c.first_line.result.0.now in
    let behind : List ℕ = c.first_line.result.1.now in
    let name : List ℕ = c.in_ok-from_slice.field-0 in
    let some : part_in line ≡ Some name = search rules in
    record {
      within = omega (arith, c.first_line.ensures.shorter, ap length c.in_ok-push.ensures.ok, length-append before (name ∷ []));
      told =
          ap (λ (l : List (List ℕ)). l ++ parts_in (lines_of behind)) c.in_ok-push.ensures.ok
          ∙ one_part line (lines_of behind) before name some
          ∙ ap (λ (l : List (List ℕ)). before ++ parts_in l) (sym c.first_line.ensures.line)
          ∙ c.loop-rest.invariant.told;
    }

pub returns-clause-parts : goal.returns-clause-parts
returns-clause-parts c =
    let before : List (List ℕ) = c.loop-rest.parts in
    let end : c.loop-rest.rest.now ≡ [] = empty_is c.loop-rest.rest.now (sym c.is_empty.ensures ∙ c.loop-rest-test.false) in
    sym (append-nil before)
    ∙ ap (λ (l : List (List ℕ)). before ++ l) (sym (ap (λ (l : List ℕ). parts_in (lines_of l)) end ∙ ap parts_in lines_of_nothing ∙ no_lines))
    ∙ c.loop-rest.invariant.told
