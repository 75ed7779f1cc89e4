use Rattle.std.proofs.Common.{◌≡◌, ◌<◌, ℕ, zero, suc, List, [], ◌∷◌, map, length, Ok, Err, Result, Vec, Global, sym, ap, ◌∙◌, subst, arith, slice_index_or}
use Rattle.std.specs.Prelude.{IfOk, MatchResult, Contains}
use Rattle.std.specs.List.{AllZip}
use Rattle.std.specs.declared.alloc.AllocError.{AllocError}
use Rattle.std.proofs.lemmas.Slice.Zip.{AllZip-long}
use Rattle.cs_claims.specs.declared.class.Class.{Class}
use Rattle.cs_classes.specs.Claim.{Claimed, class_at}
use Rattle.cs_plan.specs.Plan.{Declared}
use Rattle.cs_classes.specs.declared.likeness.Likeness.{Likeness}
use Rattle.cs_classes.specs.Likeness.{AreLikenesses, IsRow}
use Rattle.cs_classes.proofs.Collected.{of_answers}

row_at : (d : Declared) (classes : List Class) (rows : List (List Likeness)) → AllZip (IsRow d) classes rows → (n : ℕ) → n < length classes → IsRow d (class_at classes n) (slice_index_or rows n [])
row_at d [] rows zip n lt = absurd (omega (arith, lt))
row_at d (class ∷ classes) [] zip n lt = absurd zip
row_at d (class ∷ classes) (row ∷ rows) zip zero lt = zip.0
row_at d (class ∷ classes) (row ∷ rows) zip (suc n) lt = row_at d classes rows zip.1 n (omega (arith, lt))

pub rows_of_answers : (d : Declared) (c : Claimed) (answers : List (Result (List Likeness) AllocError)) (r : Result (Vec (List Likeness) Global) AllocError)
    → AllZip (λ class (answer : Result (List Likeness) AllocError). IfOk answer (IsRow d class)) c.classes answers
    → MatchResult r (λ v. (rows : List (List Likeness)) × (answers ≡ map Ok rows) × (v.items ≡ rows)) (λ e. Contains answers (Err e))
    → IfOk r (λ rows. AreLikenesses d c rows.items)
rows_of_answers d c answers (Err e) zip h = tt
rows_of_answers d c answers (Ok v) zip h =
    let rows = h.0 in
    let each = of_answers (IsRow d) c.classes rows (subst (AllZip (λ class (answer : Result (List Likeness) AllocError). IfOk answer (IsRow d class)) c.classes) h.1 zip) in
    record {
      long = ap length h.2 ∙ AllZip-long (IsRow d) c.classes rows each;
      each = λ n lt. subst (λ (items : List (List Likeness)). IsRow d (class_at c.classes n) (slice_index_or items n [])) (sym h.2) (row_at d c.classes rows each n lt);
    }
