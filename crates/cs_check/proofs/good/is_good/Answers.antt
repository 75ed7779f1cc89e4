use Rattle.std.proofs.Common.{rules, ◌≡◌, true, subst, sym, ◌∙◌, ◌&&◌}
use Rattle.std.proofs.lemmas.Bool.{and_parts}
use Rattle.cs_theorem.specs.Accepted.{AreWithin, AreApart, ListsAll, AreFree, windows_of}
use Rattle.cs_classes.specs.Said.{said}
use Rattle.cs_classes.specs.Used.{seen}
use Rattle.cs_classes.specs.Claim.{as_certificate}
use Rattle.cs_plan.specs.Plan.{as_plan}
use Rattle.cs_check.proofs.good.is_good.Goals as goal

pub returns : goal.returns
returns c =
    let p = as_plan c.args.case.now.plan.now in
    let k = said c.args.case.now.claim.now in
    let s = seen c.args.used.now in
    let n = c.args.case.now.days in
    let ws = windows_of p (as_certificate k) s.of in
    let one : c.as_slice.result.now ≡ ws = c.as_slice.ensures.value ∙ c.in_ok-windows.ensures.value in
    let two : c.as_slice-2.result.now ≡ ws = c.as_slice-2.ensures.value ∙ c.in_ok-windows.ensures.value in
    let steps : c.holds.result ≡ true = search rules in
    let reaches : c.holds-2.result ≡ true = search rules in
    let leaves : c.holds-3.result ≡ true = search rules in
    (λ all.
    let by = and_parts c.in_ok-quiet.quiet.is_apart (c.in_ok-quiet.quiet.is_within && c.in_ok-quiet.quiet.is_free) (sym c.by_all.ensures ∙ all) in
    let rest = and_parts c.in_ok-quiet.quiet.is_within c.in_ok-quiet.quiet.is_free by.1 in
    record {
      steps = c.holds.ensures steps;
      reaches = c.holds-2.ensures reaches;
      leaves = subst (ListsAll s.tree) one (c.holds-3.ensures leaves);
      collisions = subst (AreApart p) two (c.in_ok-quiet.ensures.apart by.0 p c.requires.case.roles);
      capacity = subst (AreWithin p n) two (c.in_ok-quiet.ensures.within rest.0 p n c.requires.case.roles);
      skips = subst (AreFree p) two (c.in_ok-quiet.ensures.free rest.1 p c.requires.case.roles);
    })
