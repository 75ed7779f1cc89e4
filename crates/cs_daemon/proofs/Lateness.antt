-- Runs that have used up their declared time.
use Rattle.std.proofs.Common.{◌≡◌, ◌<◌, ◌+◌, ◌⊎◌, ◌++◌, ℕ, ◌↔◌, Bool, true, false, cond, List, [], ◌∷◌, map, filter, refl, sym, ap, ◌∙◌, append_assoc, append-nil, arith, inl, inr, true≢false}
use Rattle.std.proofs.lemmas.Bool.{leb-false, lt-leb}
use Rattle.cs_history.specs.History.{IsWithin}
use Rattle.cs_history.specs.Plan.{Plan}
use Rattle.cs_history.specs.declared.run.Going.{Going}
use Rattle.cs_jobs.specs.declared.lines.LogLine.{LogLine}
use Rattle.cs_jobs.specs.declared.lines.LogLine.TheVariants.{Overrun}
use Rattle.cs_daemon.specs.Late.{becomes_late, is_late, late_lines}

pub within : (p : Plan) (t : ℕ) (r : Going) → (is_late p t r ≡ false) ↔ IsWithin p t r
within p t r = (λ h. leb-false (r.since + p.limit r.run.job) t h, λ h. lt-leb (r.since + p.limit r.run.job) t h)

module _ (p : Plan) (last minute : ℕ) where
  abbrev lines : List Going → List LogLine
  lines rs = late_lines p last minute rs

  late_first : (r : Going) (rs : List Going) → becomes_late p last minute r ≡ true → lines (r ∷ rs) ≡ Overrun r.run ∷ lines rs
  late_first r rs h = go (becomes_late p last minute r) h
    where
      go : (b : Bool) → b ≡ true → map (λ (x : Going). Overrun x.run) (cond b (r ∷ filter (becomes_late p last minute) rs) (filter (becomes_late p last minute) rs)) ≡ Overrun r.run ∷ lines rs
      go true h = refl
      go false h = absurd (true≢false (sym h))

  late_not : (r : Going) (rs : List Going) → becomes_late p last minute r ≡ false → lines (r ∷ rs) ≡ lines rs
  late_not r rs h = go (becomes_late p last minute r) h
    where
      go : (b : Bool) → b ≡ false → map (λ (x : Going). Overrun x.run) (cond b (r ∷ filter (becomes_late p last minute) rs) (filter (becomes_late p last minute) rs)) ≡ lines rs
      go true h = absurd (true≢false h)
      go false h = refl

  pub late_more : (r : Going) (rs all : List Going) (first old new : List LogLine) (lost lost_then : ℕ) → becomes_late p last minute r ≡ true
      → ((new ≡ old ++ Overrun r.run ∷ []) × (lost_then ≡ lost)) ⊎ (0 < lost_then) → all ≡ r ∷ rs
      → (lost ≡ 0 → old ++ late_lines p last minute all ≡ first) → lost_then ≡ 0 → new ++ late_lines p last minute rs ≡ first
  late_more r rs all first old new lost lost_then late (inl added) left so none =
      ap (λ (xs : List LogLine). xs ++ lines rs) added.0 ∙ append_assoc old (Overrun r.run ∷ []) (lines rs)
      ∙ ap (λ (xs : List LogLine). old ++ xs) (sym (late_first r rs late) ∙ ap (λ (xs : List Going). lines xs) (sym left))
      ∙ so (sym added.1 ∙ none)
  late_more r rs all first old new lost lost_then late (inr some) left so none = absurd (omega (arith, some, none))

  pub late_none : (r : Going) (rs all : List Going) (first old : List LogLine) (lost : ℕ) → becomes_late p last minute r ≡ false → all ≡ r ∷ rs
      → (lost ≡ 0 → old ++ late_lines p last minute all ≡ first) → lost ≡ 0 → old ++ late_lines p last minute rs ≡ first
  late_none r rs all first old lost late left so none =
      ap (λ (xs : List LogLine). old ++ xs) (sym (late_not r rs late) ∙ ap (λ (xs : List Going). lines xs) (sym left)) ∙ so none

  pub late_done : (left : List Going) (first xs : List LogLine) (lost : ℕ) → left ≡ [] → (lost ≡ 0 → xs ++ late_lines p last minute left ≡ first) → lost ≡ 0 → xs ≡ first
  late_done left first xs lost done so none = sym (append-nil xs) ∙ ap (λ (rs : List Going). xs ++ lines rs) (sym done) ∙ so none
