use Rattle.std.proofs.Common.{◌≡◌, ◌∙◌, ◌++◌, ◌∷◌, [], ℕ, List, ap, subst}
use Rattle.std.proofs.lemmas.List.{append_assoc}
use Rattle.std.specs.List.{concat}
use Rattle.cs_diagnostics.specs.Printed.{HasWords}
use Rattle.cs_diagnostics.proofs.Blocks.{joined, one_more}
use Rattle.cs_diagnostics.proofs.render.add_findings.Goals as goal

pub loop-finding-preserved : goal.loop-finding-preserved
loop-finding-preserved c =
    let (blocks, all, text) = c.loop-finding.invariant in
    let block = c.in_ok-block.block.items in
    let longer : c.extend_from_slice.new.self.items ≡ c.loop-finding.text.items ++ block = c.in_ok-extend_from_slice.ensures.items ∙ ap (λ (l : List ℕ). c.loop-finding.text.items ++ l) c.as_slice.ensures.value in (
      blocks ++ block ∷ [],
      one_more HasWords c.args.findings.now c.loop-finding.finding-index _ blocks block c.loop-finding-test.true all (subst (λ f. HasWords f block) c.finding-item.is c.in_ok-block.ensures),
      longer ∙ (rw (text, joined blocks block) (append_assoc c.args.text.now.items (concat blocks) block)),
    )
