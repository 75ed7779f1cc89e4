use Rattle.std.proofs.Common.{◌≡◌, ℕ, ◌<◌, ◌≤◌, List, length, None, ap, sym, ◌∙◌, arith, get_or}
use Rattle.std.proofs.lemmas.List.{length-map}
use Rattle.cs_civil.specs.Calendar.{Kind}
use Rattle.cs_plan.specs.Plan.{Declared, as_plan}
use Rattle.cs_classes.specs.declared.used.UsedStretch.{UsedStretch}
use Rattle.cs_classes.specs.Planned.{due_on, planned}
use Rattle.cs_windows.specs.Windows.{windows_on}
use Rattle.cs_classes.specs.Claim.{Claimed, as_certificate, class_of}
use Rattle.cs_theorem.specs.Accepted.{windows_of}
use Rattle.cs_theorem.specs.Faults.{due_fault}
use Rattle.cs_theorem.proofs.ByKind.{by_kinds}
use Rattle.cs_theorem.proofs.Points.{says_one}
use Rattle.cs_classes.specs.StandsFor.{days_by}
use Rattle.cs_classes.specs.Used.{HaveClasses, IsInUse}
use Rattle.cs_check.specs.Case.{IsFit}
use Rattle.cs_classes.specs.Said.{said}
use Rattle.cs_check.specs.declared.case.Case.{Case}
use Rattle.cs_check.specs.Stretches.{IsCase}
use Rattle.cs_check.proofs.Headline.{length_of}

pub windows_are : (d : Declared) (c : Claimed) (n : ℕ) (kinds : List Kind) (of : List ℕ) → IsFit d c.reach → due_fault (as_plan d) (due_on d) (as_certificate c) ≡ None → HaveClasses c n of kinds → windows_on (planned d c.reach) kinds ≡ windows_of (as_plan d) (as_certificate c) of
windows_are d c n kinds of fit due have =
    by_kinds (as_plan d) (due_on d) (as_certificate c) ((says_one (as_plan d) fit.plan (due_on d) (as_certificate c) (days_by d c.reach) (omega (arith, (length_of d c.reach fit).range.0))).0 due) kinds have.chain
    ∙ ap (windows_of (as_plan d) (as_certificate c)) have.classes

pub long_as_kinds : (c : Claimed) (n : ℕ) (kinds : List Kind) (of : List ℕ) → HaveClasses c n of kinds → length of ≡ n
long_as_kinds c n kinds of have = sym (ap length have.classes) ∙ (length-map kinds (class_of c) ∙ have.long)

pub number_there : (c : Claimed) (n : ℕ) (u : UsedStretch) → IsInUse c n u → (place : ℕ) → place < n → get_or u.of.now place 0 < length c.classes
number_there c n u is place lt = let long = long_as_kinds c n u.kinds.items u.of.now is.kinds in is.there place 0 (omega (arith, long, lt))

pub days_range : (k : Case) → IsCase k → (2 ≤ k.days) × (k.days ≤ 4)
days_range k is = let r = (length_of k.plan.now (said k.claim.now).reach is.fit).range in (omega (arith, is.long, r.0), omega (arith, is.long, r.1))
