use Rattle.std.proofs.Common.{ℕ, ◌≡◌, ◌+◌, ◌-◌, ◌∙◌, Option, true, false, sym, ap, arith}
use Rattle.std.specs.Prelude.{unwrap_or, find}
use Rattle.std.specs.List.{range_with_len}
use Rattle.cs_theorem.specs.Faults.{same_list}
use Rattle.cs_classes.specs.Said.{said}
use Rattle.cs_classes.specs.Days.{classes_on}
use Rattle.cs_classes.proofs.Ending.{ends, first_from, first_is, last_is, passed, found, nowhere}
use Rattle.cs_classes.proofs.last.last_day.Goals as goal

pub loop-last-init : goal.loop-last-init
loop-last-init c =
    let n = c.args.days in
    let t = ends (said c.args.claim.now) n c.args.classes.now in
    let e : n + 10227 - n ≡ 10227 = omega arith in
    let s : n + 10227 - c.from-start.result ≡ n + 10227 - n = omega (arith, c.from-start.ensures) in
    (omega (arith, c.from-start.ensures), ap (λ (m : ℕ). find t (range_with_len m (n + 10227 - c.from-start.result))) c.from-start.ensures ∙ ap (λ (k : ℕ). find t (range_with_len n k)) s ∙ first_is t n (n + 10227 - n) e)

pub returns-then-have_classes : goal.returns-then-have_classes
returns-then-have_classes c =
    let a = said c.args.claim.now in
    let n = c.args.days in
    let s = c.args.classes.now in
    let m = c.loop-last.last in
    let yes : ends a n s m ≡ true = ap (λ (k : ℕ). same_list (classes_on a (m + 1 - k) n) s) (sym c.from-start.ensures) ∙ sym c.have_classes.ensures ∙ c.if-have_classes.true in
    let here = found (ends a n s) m (n + 10227 - m) (first_from (ends a n s) n) (omega (arith, c.from-start.ensures, c.loop-last-test.true)) yes c.loop-last.invariant.1 in
    record { value = sym (last_is a n s ∙ ap (λ (o : Option ℕ). unwrap_or o n) here); within = (c.loop-last.invariant.0, omega (arith, c.from-start.ensures, c.loop-last-test.true)) }

pub loop-last-preserved : goal.loop-last-preserved
loop-last-preserved c =
    let a = said c.args.claim.now in
    let n = c.args.days in
    let s = c.args.classes.now in
    let m = c.loop-last.last in
    let no : ends a n s m ≡ false = ap (λ (k : ℕ). same_list (classes_on a (m + 1 - k) n) s) (sym c.from-start.ensures) ∙ sym c.have_classes.ensures ∙ c.if-have_classes.false in
    (omega (arith, c.loop-last.invariant.0), passed (ends a n s) m (n + 10227 - m) (n + 10227 - (m + 1)) (first_from (ends a n s) n) (omega (arith, c.from-start.ensures, c.loop-last-test.true)) (omega (arith, c.from-start.ensures, c.loop-last-test.true)) no c.loop-last.invariant.1)

pub returns : goal.returns
returns c =
    let a = said c.args.claim.now in
    let n = c.args.days in
    let s = c.args.classes.now in
    let m = c.loop-last.last in
    let none = nowhere (ends a n s) m (n + 10227 - m) (first_from (ends a n s) n) (omega (arith, c.from-start.ensures, c.loop-last-test.false)) c.loop-last.invariant.1 in
    record { value = sym (last_is a n s ∙ ap (λ (o : Option ℕ). unwrap_or o n) none ∙ sym c.from-start.ensures); within = (omega (arith, c.from-start.ensures), omega (arith, c.from-start.ensures)) }
