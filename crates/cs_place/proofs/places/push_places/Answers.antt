use Rattle.std.proofs.Common.{◌≡◌, ◌++◌, ◌∙◌, ap, sym, length, List, []}
use Rattle.std.proofs.lemmas.Bool.{eqb-true}
use Rattle.std.proofs.lemmas.List.{nil_from_length, append-nil}
use Rattle.cs_table.specs.Text.{lines_of}
use Rattle.cs_table.proofs.Lines.{lines_of_nothing}
use Rattle.cs_place.specs.Places.{places_from}
use Rattle.cs_place.specs.declared.places.Place.{Place}
use Rattle.cs_place.proofs.places.push_places.Goals as goal

pub returns : goal.returns
unfolding places_from
returns c =
    let nothing : c.loop-rest.rest.now ≡ [] = nil_from_length c.loop-rest.rest.now (eqb-true (length c.loop-rest.rest.now) 0 (sym c.is_empty.ensures ∙ c.loop-rest-test.false)) in
    sym (append-nil c.loop-rest.places.items) ∙ ap (λ (l : List Place). c.loop-rest.places.items ++ l) (sym (ap (places_from c.loop-rest.number) (ap lines_of nothing ∙ lines_of_nothing))) ∙ c.loop-rest.invariant.told
