use Rattle.std.proofs.Common.{◌≡◌, ◌<◌, ℕ, List, Option, Some, length, map, slice_get, subst, sym, ap, ◌∙◌, arith}
use Rattle.std.proofs.lemmas.List.{length-map}
use Rattle.std.proofs.lemmas.Option.{get_or_from_slice_get, slice_get_within}
use Rattle.cs_claims.specs.Certificate.{content}
use Rattle.cs_claims.specs.Content.{StretchTree, stretch_of}
use Rattle.cs_claims.specs.Kept.{IsSound}
use Rattle.cs_claims.specs.declared.stretch.Stretch.{Stretch as ListedStretch}
use Rattle.cs_theorem.specs.Certificate.{Stretch}
use Rattle.cs_theorem.proofs.Stretches.{map_twice}
use Rattle.cs_windows.specs.Tree.{tree_of}
use Rattle.cs_classes.specs.StandsFor.{listed}
use Rattle.cs_classes.specs.WorkedOut.{stretches_by}
use Rattle.cs_classes.specs.declared.working_out.WorkedOut.{WorkedOut}
use Rattle.cs_classes.proofs.Searched.{placed}
use Rattle.cs_classes.proofs.claim.Claim.stretch.Goals as goal

pub returns-in-None-clause-value : goal.returns-in-None-clause-value
returns-in-None-clause-value c =
    let k = content c.args.self.now.certificate.now in
    let n = c.args.number in
    let ss = c.stretches.result.now in
    let x = c.index-stretches-number.result in
    let long = ap (λ (w : Option WorkedOut). length (stretches_by k w)) c.in-None.is ∙ length-map k.stretches listed ∙ sym (ap (λ (l : List StretchTree). length l) c.stretches.ensures.value) ∙ length-map ss stretch_of in
    let lt : n < length ss = omega (arith, c.requires, long) in
    ap (λ (w : Option WorkedOut). slice_get (stretches_by k w) n) c.in-None.is
    ∙ ap (λ (l : List Stretch). slice_get l n) (sym (ap (map listed) c.stretches.ensures.value) ∙ map_twice listed stretch_of ss)
    ∙ placed (λ (s : ListedStretch). listed (stretch_of s)) ss n x lt c.index-stretches-number.is
    ∙ ap (λ (of : List ℕ). Some (record { of = of; tree = Some (tree_of x.tree) })) (sym c.as_slice-in-None.ensures)

pub returns-in-None-clause-splits : goal.returns-in-None-clause-splits
returns-in-None-clause-splits c =
    let k = content c.args.self.now.certificate.now in
    let n = c.args.number in
    let ss = c.stretches.result.now in
    let x = c.index-stretches-number.result in
    let long = ap (λ (w : Option WorkedOut). length (stretches_by k w)) c.in-None.is ∙ length-map k.stretches listed ∙ sym (ap (λ (l : List StretchTree). length l) c.stretches.ensures.value) ∙ length-map ss stretch_of in
    let lt : n < length ss = omega (arith, c.requires, long) in
    let at : slice_get k.stretches n ≡ Some (stretch_of x) = ap (λ (l : List StretchTree). slice_get l n) (sym c.stretches.ensures.value) ∙ placed stretch_of ss n x lt c.index-stretches-number.is in
    let sound = c.stretches.ensures.kept.stretches n (stretch_of x) (slice_get_within k.stretches n (stretch_of x) at) in
    (subst (IsSound k.version (length k.classes)) (get_or_from_slice_get k.stretches n (stretch_of x) (stretch_of x) at) sound).splits
