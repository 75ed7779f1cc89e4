use Rattle.std.proofs.Common.{◌≡◌, ◌∙◌, ℕ, List, ◌∷◌, ◌++◌, [], ap, subst, sym}
use Rattle.std.specs.List.{AllZip, concat}
use Rattle.std.proofs.lemmas.List.{append-nil, append_assoc}
use Rattle.cs_check.specs.declared.checked.Checked.{Checked}
use Rattle.cs_plan.specs.Plan.{Declared}
use Rattle.cs_judge.specs.Judged.{IsCheckedFor, IsJudgement}
use Rattle.cs_judge.specs.declared.judged.Judged.TheVariants.{Safe}
use Rattle.cs_advise.specs.Advice.{IsAdvice, IsLine, IsSafeLine}
use Rattle.cs_advise.specs.Change.{IsChanged}
use Rattle.cs_advise.specs.declared.change.Change.{Change}
use Rattle.cs_advise.specs.declared.source.Source.{Source}

pub zipped : {A B : Type 0} (R : A → B → Type 0) (xs : List A) (ys : List B) (x : A) (y : B)
    → AllZip R xs ys → R x y → AllZip R (xs ++ x ∷ []) (ys ++ y ∷ [])
zipped R [] [] x y all r = (r, tt)
zipped R [] (b ∷ ys) x y all r = absurd all
zipped R (a ∷ xs) [] x y all r = absurd all
zipped R (a ∷ xs) (b ∷ ys) x y all r = (all.0, zipped R xs ys x y all.1 r)

pub joined : (lines : List (List ℕ)) (line : List ℕ) → concat (lines ++ line ∷ []) ≡ concat lines ++ line
joined [] line = append-nil line
joined (first ∷ lines) line =
    ap (λ (t : List ℕ). first ++ t) (joined lines line) ∙ sym (append_assoc first (concat lines) line)

-- one more change with its line
pub one_more : (source : Source) (plan : Declared) (changes : List Change) (text : List ℕ) (change : Change) (line : List ℕ)
    → IsAdvice source plan changes text → IsSafeLine source plan change line → IsAdvice source plan (changes ++ change ∷ []) (text ++ line)
one_more source plan changes text change line is safe = record {
  lines = is.lines ++ line ∷ [];
  each = zipped (IsSafeLine source plan) changes is.lines change line is.each safe;
  told = ap (λ (t : List ℕ). t ++ line) is.told ∙ sym (joined is.lines line);
}

-- the checker accepted the plan with the change
pub if_safe : (source : Source) (plan : Declared) (change : Change) (pasted : List ℕ) (changed : Declared)
    → (checked : Checked) (line : List ℕ) → IsChanged source plan change pasted changed
    → IsJudgement changed (Safe checked) → IsLine change pasted line
    → IsSafeLine source plan change line
if_safe source plan change pasted changed checked line is known told =
    let accepted : IsCheckedFor changed checked = known.safe in record {
      checked = checked;
      pasted = pasted;
      changed = subst (λ (d : Declared). IsChanged source plan change pasted d) (sym accepted.same) is;
      safe = subst (λ (d : Declared). IsJudgement d (Safe checked)) (sym accepted.same) known;
      told = told;
    }
