use Rattle.std.proofs.Common.{rules, ◌≡◌, ◌∷◌, ◌∙◌, [], refl, subst, sym}
use Rattle.cs_decl.proofs.Jumping.{AreSo, done, no_jump, none_yet, not_there, one_more}
use Rattle.cs_decl.proofs.twice_started.starts_after_jumps.Goals as goal

pub returns-then-saving-eq0 : goal.returns-then-saving-eq0
returns-then-saving-eq0 c = λ s. rw c.new-starts.ensures (sym (no_jump c.args.zone s (sym c.saving.ensures.value ∙ c.if-saving-eq0.true)))

pub loop-kind-init : goal.loop-kind-init
loop-kind-init c = λ s. rw (c.new-starts.ensures, c.into_iter-kind-iterator.ensures.into_iter_gives, c.all_kinds-kind-items.ensures.value) (none_yet c.args.zone s)

pub loop-kind-preserved-in-Continue-1 : goal.loop-kind-preserved-in-Continue-1
loop-kind-preserved-in-Continue-1 c =
    let left : c.loop-kind.kind-iterator ≡ c.in-Some.kind ∷ c.next.new.self = c.in-Some.ensures.steps in
    let (low, there) = c.in-Some-forward_on.ensures.some in
    rw c.in_ok-push.ensures.ok (one_more c.args.zone c.loop-kind.starts _ c.next.new.self low there (subst (AreSo c.args.zone c.loop-kind.starts) left c.loop-kind.invariant))

pub loop-kind-preserved : goal.loop-kind-preserved
loop-kind-preserved c =
    let left : c.loop-kind.kind-iterator ≡ c.in-Some.kind ∷ c.next.new.self = c.in-Some.ensures.steps in
    not_there c.args.zone c.loop-kind.starts c.in-Some.kind c.next.new.self (c.in_default.ensures.none refl) (subst (AreSo c.args.zone c.loop-kind.starts) left c.loop-kind.invariant)

pub returns : goal.returns
returns c =
    let left : c.loop-kind.kind-iterator ≡ [] = search rules in
    done c.args.zone c.loop-kind.starts (subst (AreSo c.args.zone c.loop-kind.starts) left c.loop-kind.invariant)
