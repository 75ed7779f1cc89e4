-- A text means the clock of its rule, unless that has a fault.
use Rattle.std.proofs.Common.{◌≡◌, Result, IfErr, ◌∙◌, sym, ap, Option, None, Some, true, ◌-ℤ◌, false, arith, unsigned_abs}
use Rattle.std.proofs.lemmas.Result.{IfErr-weaker}
use Rattle.jiff_tz.specs.PosixText.{TzText}
use Rattle.cs_rule.specs.Clocks.{clock_of, has_fault, summer_clock, usable_clock}
use Rattle.cs_rule.specs.Faults.{is_fault, is_near, is_unfit}
use Rattle.cs_rule.specs.Parts.{IsSound, IsWhole, dst_of, rule_of, side}
use Rattle.cs_rule.specs.declared.parts.East.{East}
use Rattle.cs_rule.specs.declared.parts.Named.{Named}
use Rattle.cs_rule.specs.declared.fault.RuleFault.{RuleFault}
use Rattle.cs_rule.specs.declared.fault.RuleFault.TheVariants.{NoRule, Seconds, Offset, DayForm, Time, March, Near, Saving}
use Rattle.cs_rule.specs.Rule.{Clock, after_march}

-- a text with a fault means no clock
no_clock : (f : RuleFault) (r : Option TzText) → is_fault f r ≡ true → usable_clock r ≡ None
no_clock NoRule r is = grind (arith, is)
no_clock Seconds r is = grind (arith, is)
no_clock Offset r is = grind (arith, is)
no_clock DayForm r is = grind (arith, is)
no_clock Time r is = grind (arith, is)
no_clock March r is = grind (arith, is)
no_clock Near r is = grind (arith, is)
no_clock Saving r is = grind (arith, is)

-- also where the fault is that of an error
pub none_if_fault : {C : Type 0} (result : Result C RuleFault) (r : Option TzText) → IfErr result (λ f. is_fault f r ≡ true) → IfErr result (λ f. usable_clock r ≡ None)
none_if_fault result r has =
    IfErr-weaker result (λ f. is_fault f r ≡ true) (λ f. usable_clock r ≡ None) (λ f is. no_clock f r is) has

-- a rule without fault means its clock
usable : (r : TzText) → has_fault (Some r) ≡ false → usable_clock (Some r) ≡ Some (clock_of r)
usable r fine = grind (arith, fine)

-- a rule whose parts are sound has no fault
is_sound : (std sum : East) (start end : Named) → IsWhole std.seconds → IsWhole sum.seconds → IsSound start → IsSound end
    → is_near (after_march start.month) (after_march end.month) ≡ false → is_unfit (unsigned_abs (std.seconds -ℤ sum.seconds)) ≡ false
    → has_fault (Some (rule_of std (Some (dst_of sum start end)))) ≡ false
is_sound std sum start end w v s e near fit = grind (arith, w.whole, w.near, v.whole, v.near, s.whole, s.inside, s.march, e.whole, e.inside, e.march, near, fit)

-- and so means its clock
pub is_usable : (std sum : East) (start end : Named) (c : Clock) → IsWhole std.seconds → IsWhole sum.seconds → IsSound start → IsSound end
    → is_near (after_march start.month) (after_march end.month) ≡ false → is_unfit (unsigned_abs (std.seconds -ℤ sum.seconds)) ≡ false
    → c ≡ summer_clock (side std) (dst_of sum start end)
    → usable_clock (Some (rule_of std (Some (dst_of sum start end)))) ≡ Some c
is_usable std sum start end c w v s e near fit is =
    usable (rule_of std (Some (dst_of sum start end))) (is_sound std sum start end w v s e near fit) ∙ ap (λ x. Some x) (sym is)
