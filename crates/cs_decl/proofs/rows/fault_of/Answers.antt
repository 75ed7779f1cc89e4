use Rattle.std.proofs.Common.{◌∙◌, sym}
use Rattle.cs_decl.proofs.Order.{first_twice_declared, first_bad_group}
use Rattle.cs_decl.proofs.rows.fault_of.Goals as goal

pub returns-in-Some : goal.returns-in-Some
returns-in-Some c = sym (first_twice_declared _ _ (sym c.has_bad_offset.ensures ∙ c.if-has_bad_offset.false) (sym c.in_ok-found.ensures ∙ c.in-Some.is))

pub returns-in-Some-2 : goal.returns-in-Some-2
returns-in-Some-2 c =
    sym
    (first_bad_group _ _ (sym c.has_bad_offset.ensures ∙ c.if-has_bad_offset.false) (sym c.in_ok-found.ensures ∙ c.in_default.is) (sym c.bad_numbers.ensures ∙ c.in_default-bad_numbers.is)
    (sym c.in_ok-found-2.ensures ∙ c.in-Some-2.is))
