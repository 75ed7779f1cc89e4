use Rattle.std.proofs.Common.{◌≡◌, ◌<◌, Some, None, IfSome, length, sym, ◌∙◌, subst}
use Rattle.json.specs.Strict.{keys}
use Rattle.json.specs.Value.{members_view}
use Rattle.cs_decl.specs.Doubled.{first_repeated}
use Rattle.cs_decl.proofs.Repeats.{repeated_at, none_repeated}
use Rattle.cs_decl.proofs.doubled.repeated.Goals as goal

pub returns-in-Some : goal.returns-in-Some
returns-in-Some c =
    let xs = c.as_slice-members.result.now in
    let within : c.in-Some.i < length xs = subst (λ o. IfSome o (λ i. i < length xs)) c.in-Some.is c.in_ok-i.ensures.within in
    let x = c.index-members-i.result in
    let there : Some x.0.now ≡ first_repeated (keys (members_view xs)) =
    repeated_at xs c.in-Some.i x within c.index-members-i.is (sym c.in-Some.is ∙ c.in_ok-i.ensures.value) in
    subst (λ y. Some y.0.now ≡ first_repeated (keys (members_view c.args.members.now.items))) c.index-members-i.is
    (subst (λ ys. Some x.0.now ≡ first_repeated (keys (members_view ys))) c.as_slice-members.ensures.value there)

pub returns-in-None : goal.returns-in-None
returns-in-None c =
    subst (λ ys. None ≡ first_repeated (keys (members_view ys))) c.as_slice-members.ensures.value
    (none_repeated c.as_slice-members.result.now (sym c.in-None.is ∙ c.in_ok-i.ensures.value))
