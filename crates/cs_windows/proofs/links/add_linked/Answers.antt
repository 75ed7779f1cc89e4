use Rattle.std.proofs.Common.{◌≡◌, ◌++◌, ◌∷◌, [], ◌∙◌, List, sym, ap, arith, append_assoc, append-nil, get_or, ◌-◌}
use Rattle.cs_windows.specs.declared.window.Window.{Window}
use Rattle.cs_windows.proofs.Linked.{link_step, linked_same, no_link, within}
use Rattle.cs_windows.proofs.links.add_linked.Goals as goal

pub loop-next-init : goal.loop-next-init
loop-next-init c =
    let links = c.args.links.now in
    let all = c.requires.0 in
    (within links c.args.first all c.requires.1, all, c.requires.1, λ ws h. ap (λ (us : List Window). c.args.windows.now.items ++ us) (linked_same links c.args.first all ws c.requires.1 h))

pub loop-next-smaller : goal.loop-next-smaller
loop-next-smaller c =
    let i = c.loop-next.invariant in
    (link_step c.args.links.now c.loop-next.next i.1 no_link (omega (arith, c.loop-next-test.true)) i.2).3

pub loop-next-preserved : goal.loop-next-preserved
loop-next-preserved c =
    let links = c.args.links.now in
    let i = c.loop-next.invariant in
    let s = link_step links c.loop-next.next i.1 no_link (omega (arith, c.loop-next-test.true)) i.2 in
    let link = get_or links (c.loop-next.next - 1) no_link in
    let now = c.loop-next.windows.items in
    (within links link.next s.0 s.2, s.0, s.2, λ ws h. ap (λ (us : List Window). us ++ s.0) c.in_ok-push.ensures.items ∙ (append_assoc now (link.window ∷ []) s.0 ∙ (ap (λ (us : List Window). now ++ us) (sym s.1) ∙ i.3 ws h)))

pub returns : goal.returns
returns c ws h =
    let i = c.loop-next.invariant in
    let now = c.loop-next.windows.items in
    let last : c.loop-next.next ≡ 0 = omega (arith, c.loop-next-test.false) in
    sym (append-nil now) ∙ (ap (λ (us : List Window). now ++ us) (sym (linked_same c.args.links.now c.loop-next.next i.1 [] i.2 last)) ∙ i.3 ws h)
