use Rattle.std.proofs.Common.{ap, sym, ◌∙◌, ◌≡◌, []}
use Rattle.std.specs.Option.{option_map}
use Rattle.cs_plan.specs.Plan.{as_plan}
use Rattle.cs_keep.proofs.FirstChoice.{got_of, no_head, settle_down, settle_got, settled_none}
use Rattle.cs_keep.proofs.next.next_to_settle.Goals as goal

pub returns-then-not-is_up : goal.returns-then-not-is_up
returns-then-not-is_up c = settle_down (as_plan c.args.core.now.plan) c.args.core.now.state (sym c.is_up.ensures ∙ c.if-not-is_up.true)

pub returns-then-goes_on : goal.returns-then-goes_on
returns-then-goes_on c =
    let p = as_plan c.args.core.now.plan in
    let s = c.args.core.now.state in
    let empty : s.pending ≡ [] = sym c.pending.ensures ∙ no_head c.pending.result.now c.in_default.ensures.value in
    ap (option_map got_of) (sym (settled_none p s (c.goes_on.ensures c.if-goes_on.true))) ∙ settle_got p s empty

pub returns-in-Some-first_to_get : goal.returns-in-Some-first_to_get
returns-in-Some-first_to_get c =
    let p = as_plan c.args.core.now.plan in
    let s = c.args.core.now.state in
    let empty : s.pending ≡ [] = sym c.pending.ensures ∙ no_head c.pending.result.now c.in_default.ensures.value in
    ap (option_map got_of) c.in-Some-first_to_get.ensures ∙ settle_got p s empty

pub returns-in-None : goal.returns-in-None
returns-in-None c =
    let p = as_plan c.args.core.now.plan in
    let s = c.args.core.now.state in
    let empty : s.pending ≡ [] = sym c.pending.ensures ∙ no_head c.pending.result.now c.in_default.ensures.value in
    ap (option_map got_of) c.in-None.ensures ∙ settle_got p s empty
