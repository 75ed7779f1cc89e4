use Rattle.std.proofs.Common.{◌≡◌, ◌∙◌, Option, option_map, ap, subst, sym, arith}
use Rattle.cs_classes.specs.Said.{said}
use Rattle.cs_classes.specs.Claim.{as_certificate}
use Rattle.cs_classes.specs.Used.{AreInside, seen}
use Rattle.cs_plan.specs.Plan.{as_plan}
use Rattle.cs_theorem.specs.Accepted.{ListsAll, windows_of}
use Rattle.cs_theorem.specs.Faults.{WindowMissing, minute_of, missing_in}
use Rattle.cs_windows.specs.Tree.{Tree}
use Rattle.cs_check.proofs.Covering.{none_seen, tree_seen}
use Rattle.cs_check.proofs.Harmless.{leaves_pass}
use Rattle.cs_check.proofs.Using.{days_range}
use Rattle.cs_check.proofs.leaves.first_fault.Goals as goal

pub returns-then-holds : goal.returns-then-holds
returns-then-holds c =
    let k = c.args.case.now in
    let p = as_plan k.plan.now in
    let a = as_certificate (said k.claim.now) in
    let s = seen c.args.used.now in
    let same : c.as_slice.result.now ≡ windows_of p a s.of = c.as_slice.ensures.value ∙ c.in_ok-windows.ensures.value in
    sym (leaves_pass p c.requires.case.fit.plan a k.days (omega (arith, (days_range k c.requires.case).0)) s (subst (ListsAll s.tree) same (c.holds.ensures c.if-holds.true)))

pub returns-in-None : goal.returns-in-None
returns-in-None c =
    let k = c.args.case.now in
    let p = as_plan k.plan.now in
    let a = as_certificate (said k.claim.now) in
    let s = seen c.args.used.now in
    sym (ap (λ (t : Option Tree). option_map (λ f. WindowMissing f.1 (minute_of a k.days s f.0)) (missing_in t (windows_of p a s.of))) (none_seen c.args.used.now c.in-None.is))

pub missing-requires : goal.missing-requires
missing-requires c = subst AreInside (tree_seen c.args.used.now c.in-Some.tree c.in-Some.is) c.requires.in_use.splits
