use Rattle.std.proofs.Common.{sym, ◌∙◌, arith}
use Rattle.cs_overlap.specs.Found.{overload_at}
use Rattle.cs_theorem.proofs.Firsts.{minute-found, minutes-none, first_of-more}
use Rattle.cs_overlap.proofs.FoundLemmas.{overload_none}
use Rattle.cs_overlap.proofs.found.overload.Goals as goal

pub loop-minute-init : goal.loop-minute-init
loop-minute-init c = overload_none c.args.roles.now c.in_ok-kept.kept.within c.args.groups c.args.capacity c.args.windows.now c.in_ok-kept.ensures.within

pub returns-in-Some : goal.returns-in-Some
returns-in-Some c = sym (minute-found (overload_at c.args.roles.now c.args.groups c.args.capacity c.args.windows.now) c.loop-minute.minute c.in-Some.found (omega arith) c.loop-minute.invariant (sym c.in_ok-found.ensures ∙ c.in-Some.is))

pub loop-minute-preserved : goal.loop-minute-preserved
loop-minute-preserved c = first_of-more (overload_at c.args.roles.now c.args.groups c.args.capacity c.args.windows.now) c.loop-minute.minute c.loop-minute.invariant (sym c.in_ok-found.ensures ∙ c.in_default.is)

pub returns : goal.returns
returns c = sym (minutes-none (overload_at c.args.roles.now c.args.groups c.args.capacity c.args.windows.now) c.loop-minute.minute (omega (arith, c.in_ok-kept.ensures.range.1)) c.loop-minute.invariant)
