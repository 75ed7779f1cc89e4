use Rattle.std.proofs.Common.{◌≡◌, ◌∙◌, ◌++◌, Contains, None, ap, codes, inl, string_bytes, subst}
use Rattle.cs_args.specs.Asked.{Text}
use Rattle.cs_gather.specs.Tables.{Given, IsBelow, found_table}
use Rattle.cs_gather.proofs.ListingLemmas.{is_file, kept, last_of, maybe_more, no_file}
use Rattle.cs_gather.proofs.below.push_crontab.Goals as goal

is_found : (given : Given) (path below front : Text) → given ≡ found_table path below None → below ≡ codes "/etc/crontab" → path ≡ front ++ codes "/etc/crontab"
    → given ≡ found_table (front ++ codes "/etc/crontab") (codes "/etc/crontab") None
is_found given path below front is inner whole =
    is ∙ ap (λ (b : Text). found_table path b None) inner ∙ ap (λ (p : Text). found_table p (codes "/etc/crontab") None) whole

pub returns-in-None-clause-finds : goal.returns-in-None-clause-finds
returns-in-None-clause-finds g c = λ file. absurd (no_file c.in_ok-path.kind c.in-None.is (is_file g.I.Folders.tree _ c.in_ok-path.kind file c.in_ok-path.ensures.kind))

pub returns-in_ok-push_found-in-Some-clause-below : goal.returns-in_ok-push_found-in-Some-clause-below
returns-in_ok-push_found-in-Some-clause-below g c =
    let is = is_found c.found.result (string_bytes c.in_ok-path.path) (string_bytes c.in_ok-below.below) c.args.front.now c.found.ensures c.in_ok-below.ensures.ok c.in_ok-path.ensures.path in
    maybe_more (IsBelow c.args.front.now) c.args.found.now.items c.push_found.new.found.items c.found.result (inl is) c.in_ok-push_found-in-Some.ensures.more

pub returns-in_ok-push_found-in-Some-clause-keeps : goal.returns-in_ok-push_found-in-Some-clause-keeps
returns-in_ok-push_found-in-Some-clause-keeps g c = kept c.args.found.now.items c.push_found.new.found.items c.found.result c.in_ok-push_found-in-Some.ensures.more

pub returns-in_ok-push_found-in-Some-clause-finds : goal.returns-in_ok-push_found-in-Some-clause-finds
returns-in_ok-push_found-in-Some-clause-finds g c = λ file.
    let at = is_file g.I.Folders.tree _ c.in_ok-path.kind file c.in_ok-path.ensures.kind in
    let is = is_found c.found.result (string_bytes c.in_ok-path.path) (string_bytes c.in_ok-below.below) c.args.front.now c.found.ensures c.in_ok-below.ensures.ok c.in_ok-path.ensures.path in
    subst (Contains c.push_found.new.found.items) is (last_of c.args.found.now.items c.push_found.new.found.items c.found.result (c.in_ok-push_found-in-Some.ensures.file at))
