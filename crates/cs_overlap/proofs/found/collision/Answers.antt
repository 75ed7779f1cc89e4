use Rattle.std.proofs.Common.{sym, ◌∙◌, arith}
use Rattle.cs_overlap.specs.Found.{collision_at}
use Rattle.cs_theorem.proofs.Firsts.{minute-found, minutes-none, first_of-more}
use Rattle.cs_overlap.proofs.FoundLemmas.{collision_none}
use Rattle.cs_overlap.proofs.found.collision.Goals as goal

pub loop-minute-init : goal.loop-minute-init
loop-minute-init c = collision_none c.args.roles.now c.in_ok-kept.kept.apart c.args.groups c.args.windows.now c.in_ok-kept.ensures.apart

pub returns-in-Some : goal.returns-in-Some
returns-in-Some c = sym (minute-found (collision_at c.args.roles.now c.args.groups c.args.windows.now) c.loop-minute.minute c.in-Some.found (omega arith) c.loop-minute.invariant (sym c.in_ok-found.ensures ∙ c.in-Some.is))

pub loop-minute-preserved : goal.loop-minute-preserved
loop-minute-preserved c = first_of-more (collision_at c.args.roles.now c.args.groups c.args.windows.now) c.loop-minute.minute c.loop-minute.invariant (sym c.in_ok-found.ensures ∙ c.in_default.is)

pub returns : goal.returns
returns c = sym (minutes-none (collision_at c.args.roles.now c.args.groups c.args.windows.now) c.loop-minute.minute (omega (arith, c.in_ok-kept.ensures.range.0)) c.loop-minute.invariant)
