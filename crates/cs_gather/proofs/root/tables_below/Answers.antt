use Rattle.std.proofs.Common.{All, List, subst, sym}
use Rattle.std.proofs.lemmas.List.Elements.{All-nil}
use Rattle.cs_gather.specs.Tables.{Given, IsBelow}
use Rattle.cs_gather.proofs.ListingLemmas.{all_found}
use Rattle.cs_gather.proofs.root.tables_below.Goals as goal

pub returns-clause-found : goal.returns-clause-found
returns-clause-found g c =
    let front = c.front-front.result.now in
    let P = IsBelow front in
    let none = subst (λ (xs : List Given). All P xs) (sym c.new-found.ensures.items) (All-nil P) in
    let crontab = c.in_ok-push_crontab.ensures in
    let system = c.in_ok-push_shelf.ensures in
    let users = c.in_ok-push_shelf-2.ensures in (
      front,
      c.front-front.ensures,
      users.below (system.below (crontab.below none)),
      all_found g.I.Folders.tree front c.push_shelf-2.new.found.items (λ file. users.keeps _ (system.keeps _ (crontab.finds file)))
          (λ name at signs file. users.keeps _ (system.finds name at signs file)) users.finds,
    )
