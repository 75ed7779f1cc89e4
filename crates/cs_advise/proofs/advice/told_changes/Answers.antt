use Rattle.std.proofs.Common.{◌≡◌, ◌≤◌, ◌∙◌, List, ℕ, ◌∷◌, ◌++◌, [], ap, arith, length, subst, sym}
use Rattle.std.proofs.lemmas.List.{length-append}
use Rattle.cs_advise.specs.Advice.{IsAdvice}
use Rattle.cs_advise.specs.declared.change.Change.{Change}
use Rattle.cs_advise.proofs.Advised.{one_more}
use Rattle.cs_advise.proofs.advice.told_changes.Goals as goal

pub loop-change-preserved-in-Some-2 : goal.loop-change-preserved-in-Some-2
loop-change-preserved-in-Some-2 g c =
    let source = c.args.source.now in
    let plan = c.args.plan.now in
    let told = c.loop-change.told.items in
    let text = c.loop-change.text.items in
    let change = c.in-Some.change in
    let line = c.in-Some-2.line.items in
    let safe = rw c.in-Some-2.is at c.in_ok-line.ensures in
    let changes : c.push.new.self.items ≡ told ++ change ∷ [] = c.in_ok-push.ensures.items in
    let longer : c.extend_from_slice.new.self.items ≡ text ++ line = c.in_ok-extend_from_slice.ensures.items ∙ ap (λ (l : List ℕ). text ++ l) c.as_slice.ensures.value in
    let few : length (told ++ change ∷ []) ≤ c.args.most = omega (arith, length-append told (change ∷ [])) in
    subst (λ (changes : List Change). IsAdvice source plan changes c.extend_from_slice.new.self.items × (length changes ≤ c.args.most)) (sym changes)
    (subst (λ (t : List ℕ). IsAdvice source plan (told ++ change ∷ []) t) (sym longer) (one_more source plan told text change line c.loop-change.invariant.0 safe), few)
