use Rattle.std.proofs.Common.{◌≡◌, ◌≢◌, ◌++◌, ◌∙◌, ℕ, List, sym, ap, codes, append_assoc, None, Some}
use Rattle.std.proofs.lemmas.Bool.Decides.{Decides-eqb}
use Rattle.std.proofs.lemmas.List.{append_cancel_left}
use Rattle.std.proofs.lemmas.Slice.Eq.{strip_prefix_is, strip_suffix_is}
use Rattle.cs_machine.proofs.Ends.{end_parts}
use Rattle.cs_machine.proofs.hook_call.ended_by.Goals as goal

pub returns-in_err-run-clause-none : goal.returns-in_err-run-clause-none
returns-in_err-run-clause-none c =
    let none : (front : List ℕ) → c.in_ok-strip_prefix.field-0.now ≢ front ++ c.args.what.now = strip_suffix_is Decides-eqb c.in_ok-strip_prefix.field-0.now c.args.what.now None c.in_err-run.ensures.cases in
    let behind : c.in_ok-front.front.now ≡ codes "ended " ++ c.in_ok-strip_prefix.field-0.now = strip_prefix_is Decides-eqb c.in_ok-front.front.now (codes "ended ") (Some c.in_ok-strip_prefix.field-0) c.in_ok-strip_prefix.ensures.cases in
    λ _ run word ends.
    let parts = end_parts c.args.words.now run c.args.what.now word c.in_ok-front.front.now c.in_ok-front.word.now ends c.in_ok-front.ensures.parts c.in_ok-front.ensures.word in
    none run (sym (append_cancel_left (codes "ended ") (run ++ c.args.what.now) c.in_ok-strip_prefix.field-0.now (sym (append_assoc (codes "ended ") run c.args.what.now) ∙ parts.0 ∙ behind)))

pub returns-clause-some : goal.returns-clause-some
returns-clause-some c =
    let behind : c.in_ok-front.front.now ≡ codes "ended " ++ c.in_ok-strip_prefix.field-0.now = strip_prefix_is Decides-eqb c.in_ok-front.front.now (codes "ended ") (Some c.in_ok-strip_prefix.field-0) c.in_ok-strip_prefix.ensures.cases in
    let between : c.in_ok-strip_prefix.field-0.now ≡ c.in_ok-run.run'.now ++ c.args.what.now = strip_suffix_is Decides-eqb c.in_ok-strip_prefix.field-0.now c.args.what.now (Some c.in_ok-run.run') c.in_ok-run.ensures.cases in (
      c.in_ok-front.ensures.parts
          ∙ ap (λ (t : List ℕ). t ++ codes " " ++ c.in_ok-front.word.now) (behind ∙ ap (λ (t : List ℕ). codes "ended " ++ t) between ∙ sym (append_assoc (codes "ended ") c.in_ok-run.run'.now c.args.what.now)),
      c.in_ok-front.ensures.word,
    )
