use Rattle.std.proofs.Common.{◌∙◌, ◌++◌, List, ℕ, ap, append_assoc, refl}
use Rattle.std.specs.Prelude.{codes}
use Rattle.cs_place.specs.Shown.{shown_text}
use Rattle.cs_machine.proofs.Pushes.{longer, on_ok_by}
use Rattle.cs_machine.proofs.awaited.push_waiting.Goals as goal

pub returns : goal.returns
returns c =
    let t0 = c.args.text.now.items in
    let front = codes "cronsafe: waiting for " in
    let run = shown_text c.args.run.now in
    let behind = codes ", which waits for its lock\n" in
    let e2 = longer t0 _ _ front _ run c.in_ok-extend_from_slice.ensures.items c.in_ok-push_shown.ensures refl in
    on_ok_by c.extend_from_slice-2.result _ _ behind _ c.extend_from_slice-2.ensures.items (λ one. longer t0 _ _ (front ++ run) _ behind e2 one refl ∙ ap (λ (t : List ℕ). t0 ++ t) (append_assoc front run behind))
