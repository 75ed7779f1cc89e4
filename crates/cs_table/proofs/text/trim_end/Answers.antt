use Rattle.std.proofs.Common.{◌∙◌, sym}
use Rattle.cs_table.proofs.Quotes.{trimmed_at_blank, trimmed_at_solid, trimmed_empty}
use Rattle.cs_table.proofs.text.trim_end.Goals as goal

pub returns-then-not-is_blank : goal.returns-then-not-is_blank
returns-then-not-is_blank c = trimmed_at_solid c.loop-rest.rest.now c.in-len1-up.len_at_least (sym c.is_blank.ensures ∙ c.if-not-is_blank.true) ∙ c.loop-rest.invariant

pub loop-rest-preserved : goal.loop-rest-preserved
loop-rest-preserved c = trimmed_at_blank c.loop-rest.rest.now c.in-len1-up.len_at_least (sym c.is_blank.ensures ∙ c.if-not-is_blank.false) ∙ c.loop-rest.invariant

pub returns : goal.returns
returns c = trimmed_empty c.loop-rest.rest.now c.in_default.len_below ∙ c.loop-rest.invariant
