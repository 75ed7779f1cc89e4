use Rattle.std.proofs.Common.{◌≡◌, ◌++◌, ◌∙◌, All, IfSome, List, Option, ap, arith, refl, subst, take}
use Rattle.std.proofs.lemmas.List.{take_all}
use Rattle.std.proofs.lemmas.List.Elements.{All-contains, All-more, All-nil, All-weaker}
use Rattle.cs_args.specs.Asked.{Text}
use Rattle.cs_gather.specs.Tables.{IsIn}
use Rattle.cs_gather.specs.Listing.{FindsNamed}
use Rattle.cs_gather.proofs.ListingLemmas.{is_listed, none_listed}
use Rattle.cs_gather.proofs.below.push_shelf.Goals as goal

pub loop-name-init : goal.loop-name-init
loop-name-init g c =
    record {
      below = λ all. all;
      keeps = λ given at. at;
      finds = All-nil (FindsNamed g.I.Folders.tree c.as_str-folder.result.now c.args.shelf c.args.found.now.items);
      stays = (refl, refl, refl);
    }

pub loop-name-preserved : goal.loop-name-preserved
loop-name-preserved g c =
    let (whole, left, reads) = c.push_named.ensures.stays in
    let so_far = c.loop-name.invariant in
    let at = c.as_str-folder.ensures.value ∙ c.in_ok-path.ensures ∙ ap (λ (place : Text). c.args.front.now ++ place) c.place.ensures in
    let folder = c.as_str-folder.result.now in
    let names = c.as_slice-name-items.result.now in
    let i = c.loop-name.name-index in
    let old = FindsNamed g.I.Folders.tree folder c.args.shelf c.loop-name.found.items in
    let more = FindsNamed g.I.Folders.tree folder c.args.shelf c.push_named.new.found.items in
    let here = subst more (c.as_slice.ensures ∙ c.name-item.is) c.in_ok-push_named.ensures.finds in
    let before = All-weaker old more (λ name so has file. c.in_ok-push_named.ensures.keeps _ (so has file)) (take i names) so_far.finds in
    record {
      below = λ all. c.in_ok-push_named.ensures.below c.args.front.now at (so_far.below all);
      keeps = λ given is. c.in_ok-push_named.ensures.keeps given (so_far.keeps given is);
      finds = All-more more names i c.name-item.result c.loop-name-test.true before here;
      stays = (whole ∙ so_far.stays.0, left ∙ so_far.stays.1, reads ∙ so_far.stays.2);
    }

pub returns-clause-finds : goal.returns-clause-finds
returns-clause-finds g c =
    let at = c.as_str-folder.ensures.value ∙ c.in_ok-path.ensures ∙ ap (λ (place : Text). c.args.front.now ++ place) c.place.ensures in
    let tree = g.I.Folders.tree in
    let folder = c.as_str-folder.result.now in
    let more = FindsNamed tree folder c.args.shelf c.loop-name.found.items in
    let names = c.in-Some.names in
    let same = subst (λ (o : Option (List Text)). IfSome (tree.names folder) (λ known. o ≡ known)) c.in-Some.is c.in_ok-names.ensures.value in
    let some = subst (All more) (take_all c.loop-name.name-index c.as_slice-name-items.result.now (omega arith)) c.loop-name.invariant.finds in
    let all = subst (λ (ns : List Text). All more ns) c.as_slice-name-items.ensures some in
    subst (λ (f : Text). (name : Text) → IsIn tree f name → FindsNamed tree f c.args.shelf c.loop-name.found.items name) at
    (λ name is. All-contains more names name all (is_listed tree folder name names same is))

pub returns-in_default-clause-finds : goal.returns-in_default-clause-finds
returns-in_default-clause-finds g c =
    let at = c.as_str-folder.ensures.value ∙ c.in_ok-path.ensures ∙ ap (λ (place : Text). c.args.front.now ++ place) c.place.ensures in
    let tree = g.I.Folders.tree in
    let folder = c.as_str-folder.result.now in
    let same = subst (λ (o : Option (List Text)). IfSome (tree.names folder) (λ known. o ≡ known)) c.in_default.is c.in_ok-names.ensures.value in
    subst (λ (f : Text). (name : Text) → IsIn tree f name → FindsNamed tree f c.args.shelf c.args.found.now.items name) at
    (λ name is. absurd (none_listed tree folder name same is))
