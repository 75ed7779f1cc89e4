use Rattle.std.proofs.Common.{◌≡◌, ◌∙◌, ◌++◌, List, ℕ, Option, ap, append_assoc, refl}
use Rattle.std.specs.Prelude.{codes}
use Rattle.cs_place.specs.Shown.{shown_text}
use Rattle.cs_machine.specs.Awaited.{running_text, until_text}
use Rattle.cs_machine.proofs.Pushes.{longer, on_ok_by}
use Rattle.cs_machine.proofs.awaited.push_running.Goals as goal

text_is : (run : List ℕ) (end : Option ℕ) → ((codes "cronsafe: waiting for " ++ shown_text run) ++ until_text end) ++ codes "\n" ≡ running_text run end
text_is run end = simp append_assoc

pub returns : goal.returns
returns c =
    let t0 = c.args.text.now.items in
    let front = codes "cronsafe: waiting for " in
    let run = shown_text c.args.run.now in
    let until = until_text c.args.end in
    let e2 = longer t0 _ _ front _ run c.in_ok-extend_from_slice.ensures.items c.in_ok-push_shown.ensures refl in
    let e3 = longer t0 _ _ (front ++ run) _ until e2 c.in_ok-push_until.ensures refl in
    on_ok_by c.extend_from_slice-2.result _ _ (codes "\n") _ c.extend_from_slice-2.ensures.items (λ one. longer t0 _ _ ((front ++ run) ++ until) _ (codes "\n") e3 one refl ∙ ap (λ (t : List ℕ). t0 ++ t) (text_is c.args.run.now c.args.end))
