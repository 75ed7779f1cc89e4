use Rattle.std.proofs.Common.{◌∙◌, Contains, ap, string_bytes, subst, sym}
use Rattle.cs_args.specs.Asked.{Text}
use Rattle.cs_gather.specs.Tables.{IsBelow}
use Rattle.cs_gather.specs.Listing.{FindsNamed, HasName, given_in}
use Rattle.cs_gather.proofs.ListingLemmas.{is_below, is_file, kept, last_of, maybe_more}
use Rattle.cs_gather.proofs.below.push_named.Goals as goal

pub returns-in-Err-clause-finds : goal.returns-in-Err-clause-finds
returns-in-Err-clause-finds g c = λ has file. absurd (c.in-Err.ensures.refused has)

pub returns-clause-below : goal.returns-clause-below
returns-clause-below g c = λ front at all.
    let name = c.in-Ok.name.now in
    let signs = subst (HasName c.args.shelf) (sym c.in-Ok.ensures.name) c.in-Ok.ensures.signs in
    let is = is_below c.args.shelf front c.args.folder.now name (string_bytes c.in_ok-path.path) c.in_ok-given.given signs at c.in_ok-path.ensures.path c.in_ok-given.ensures in
    maybe_more (IsBelow front) c.args.found.now.items c.push_found.new.found.items c.in_ok-given.given is c.in_ok-push_found.ensures.more all

pub returns-clause-keeps : goal.returns-clause-keeps
returns-clause-keeps g c = kept c.args.found.now.items c.push_found.new.found.items c.in_ok-given.given c.in_ok-push_found.ensures.more

pub returns-clause-finds : goal.returns-clause-finds
returns-clause-finds g c =
    let tree = g.I.Folders.tree in
    let name = c.in-Ok.name.now in
    let more = c.push_found.new.found.items in
    let given = c.in_ok-given.ensures ∙ ap (λ (path : Text). given_in c.args.shelf path name) c.in_ok-path.ensures.path in
    let finds : FindsNamed tree c.args.folder.now c.args.shelf more name = λ has file.
    subst (Contains more) given (last_of c.args.found.now.items more c.in_ok-given.given (c.in_ok-push_found.ensures.file (is_file tree _ c.in_ok-path.kind file c.in_ok-path.ensures.kind))) in
    subst (FindsNamed tree c.args.folder.now c.args.shelf more) c.in-Ok.ensures.name finds
