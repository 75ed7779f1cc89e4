use Rattle.std.proofs.Common.{◌≡◌, ◌∙◌, ◌++◌, List, ℕ, ap, append_assoc, refl}
use Rattle.std.specs.Prelude.{codes}
use Rattle.cs_machine.specs.Runs.{run_line}
use Rattle.cs_machine.specs.declared.listed_run.ListedRun.{ListedRun}
use Rattle.cs_machine.proofs.Pushes.{longer, on_ok_by}
use Rattle.cs_machine.proofs.listed_run.push_run.Goals as goal

line_is : (run : ListedRun) → ((((((run.process ++ codes "\t") ++ run.start) ++ codes "\t") ++ run.boot) ++ codes "\t") ++ run.name) ++ codes "\n" ≡ run_line run
line_is run = simp append_assoc

pub returns : goal.returns
returns c =
    let t0 = c.args.text.now.items in
    let run = c.args.run.now in
    let tab = codes "\t" in
    let e1 : c.extend_from_slice.new.self.items ≡ t0 ++ run.process = c.in_ok-extend_from_slice.ensures.items ∙ ap (λ (t : List ℕ). t0 ++ t) c.as_slice.ensures in
    let e2 = longer t0 _ _ _ _ tab e1 c.in_ok-extend_from_slice-2.ensures.items refl in
    let e3 = longer t0 _ _ _ _ run.start e2 c.in_ok-extend_from_slice-3.ensures.items c.as_slice-2.ensures in
    let e4 = longer t0 _ _ _ _ tab e3 c.in_ok-extend_from_slice-4.ensures.items refl in
    let e5 = longer t0 _ _ _ _ run.boot e4 c.in_ok-extend_from_slice-5.ensures.items c.as_slice-3.ensures in
    let e6 = longer t0 _ _ _ _ tab e5 c.in_ok-extend_from_slice-6.ensures.items refl in
    let e7 = longer t0 _ _ _ _ run.name e6 c.in_ok-extend_from_slice-7.ensures.items c.as_slice-4.ensures in
    on_ok_by c.extend_from_slice-8.result _ _ (codes "\n") _ c.extend_from_slice-8.ensures.items (λ one. longer t0 _ _ _ _ (codes "\n") e7 one refl ∙ ap (λ (t : List ℕ). t0 ++ t) (line_is run))
