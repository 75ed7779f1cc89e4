-- Where faults stand: the first zero byte, a line without its indent, and parts of a line.
use Rattle.std.proofs.Common.{◌≡◌, ℕ, ◌+◌, ◌≤◌, Bool, true, false, cond, not, ◌||◌, nat_eq, List, [], ◌∷◌, ◌++◌, length, refl, sym, ap, ◌∙◌, arith}
use Rattle.std.specs.List.{list_all, list_any}
use Rattle.std.proofs.lemmas.Bool.{eqb-true}
use Rattle.std.proofs.lemmas.List.{length-append}
use Rattle.cs_table.specs.declared.fault.Wrong.{Wrong}
use Rattle.cs_table.specs.Text.{front, after, is_blank, StopsAt}
use Rattle.cs_table.specs.Wrong.{whole, before, at_nul, IsNul, IsWhole, IsWithin}
use Rattle.cs_table.specs.SettingReading.{is_other}
use Rattle.cs_table.proofs.Fronts.{length-parts}
use Rattle.cs_table.proofs.Results.{same_wrong}
use Rattle.cs_table.proofs.Spans.{after_again, parts_joined, front_passes, after_stops}

abbrev has_nul : List ℕ → Bool
has_nul line = list_any (λ b. nat_eq b 0) line

nul_parts : (line : List ℕ) → has_nul line ≡ true → (clean behind : List ℕ) × (line ≡ clean ++ (0 ∷ behind)) × (has_nul clean ≡ false) × (after (is_other 0) line ≡ 0 ∷ behind)
unfolding after
nul_parts [] e = absurd cc
nul_parts (b ∷ bs) e = by_zero (nat_eq b 0) refl e (nul_parts bs)
  where
    by_zero : (t : Bool) → nat_eq b 0 ≡ t → (t || has_nul bs) ≡ true → (has_nul bs ≡ true → (clean behind : List ℕ) × (bs ≡ clean ++ (0 ∷ behind)) × (has_nul clean ≡ false) × (after (is_other 0) bs ≡ 0 ∷ behind))
        → (clean behind : List ℕ) × (b ∷ bs ≡ clean ++ (0 ∷ behind)) × (has_nul clean ≡ false) × (cond (not (nat_eq b 0)) (after (is_other 0) bs) (b ∷ bs) ≡ 0 ∷ behind)
    by_zero true is e more = let here : b ∷ bs ≡ 0 ∷ bs = ap (λ (c : ℕ). c ∷ bs) (eqb-true b 0 is) in ([], bs, here, refl, rw is here)
    by_zero false is e more = let m = more e in (b ∷ m.0, m.1, ap (λ (l : List ℕ). b ∷ l) m.2, rw is m.3, rw is m.4)

nul_found : (clean behind : List ℕ) → has_nul clean ≡ false → (has_nul (clean ++ (0 ∷ behind)) ≡ true) × (after (is_other 0) (clean ++ (0 ∷ behind)) ≡ 0 ∷ behind)
unfolding after
nul_found [] behind none = (refl, refl)
nul_found (b ∷ bs) behind none = by_zero (nat_eq b 0) refl none (nul_found bs behind)
  where
    by_zero : (t : Bool) → nat_eq b 0 ≡ t → (t || has_nul bs) ≡ false → (has_nul bs ≡ false → (has_nul (bs ++ (0 ∷ behind)) ≡ true) × (after (is_other 0) (bs ++ (0 ∷ behind)) ≡ 0 ∷ behind))
        → ((nat_eq b 0 || has_nul (bs ++ (0 ∷ behind))) ≡ true) × (cond (not (nat_eq b 0)) (after (is_other 0) (bs ++ (0 ∷ behind))) (b ∷ (bs ++ (0 ∷ behind))) ≡ 0 ∷ behind)
    by_zero true is none more = absurd cc
    by_zero false is none more = let m = more none in (rw is m.0, rw is m.1)

module _ {F : Type 0} (fault : F) (line : List ℕ) (wrong : Wrong F) where
  pub nul_takes : has_nul line ≡ true → wrong ≡ at_nul fault line → IsNul fault line wrong
  nul_takes e is = let p = nul_parts line e in (p.0, p.1, p.2, p.3, is ∙ same_wrong (at_nul fault line) (before p.1 fault (0 ∷ [])) refl (omega (arith, ap (length {A = ℕ}) p.4)) refl)

  pub nul_again : IsNul fault line wrong → (has_nul line ≡ true) × (wrong ≡ at_nul fault line)
  nul_again (clean, behind, parts, none, is) =
      let f = nul_found clean behind none in
      let left = ap (length {A = ℕ}) (ap (after (is_other 0)) parts ∙ f.1) in
      (ap has_nul parts ∙ f.0, is ∙ same_wrong (before behind fault (0 ∷ [])) (at_nul fault line) refl (omega (arith, left)) refl)

  pub whole_takes : wrong ≡ whole fault (after is_blank line) → IsWhole fault line wrong
  whole_takes is = (front is_blank line, after is_blank line, sym (parts_joined is_blank line), front_passes is_blank line, after_stops is_blank line, is)

  pub whole_again : IsWhole fault line wrong → wrong ≡ whole fault (after is_blank line)
  whole_again (indent, text, parts, blank, stop, is) =
      let trimmed : after is_blank line ≡ text = ap (after is_blank) parts ∙ after_again is_blank indent text blank stop in
      is ∙ ap (whole fault) (sym trimmed)

  pub nul_within : IsNul fault line wrong → IsWithin line wrong
  nul_within (clean, behind, parts, none, is) =
      let size = ap (length {A = ℕ}) parts ∙ length-append clean (0 ∷ behind) in
      (omega (arith, size, ap (λ (w : Wrong F). w.left) is), omega (arith, ap (λ (w : Wrong F). w.left) is, ap (λ (w : Wrong F). w.length) is))

  pub whole_within : (text : List ℕ) → length text ≤ length line → wrong ≡ whole fault text → IsWithin line wrong
  whole_within text short is = (omega (arith, short, ap (λ (w : Wrong F). w.left) is), omega (arith, ap (λ (w : Wrong F). w.left) is, ap (λ (w : Wrong F). w.length) is))

-- a part of the end of a line is a part of the line
pub within_longer : {F : Type 0} (front text line : List ℕ) (wrong : Wrong F) → line ≡ front ++ text → IsWithin text wrong → IsWithin line wrong
within_longer front text line wrong is within = (omega (arith, within.0, ap (length {A = ℕ}) is, length-append front text), within.1)

pub indent_within : (line : List ℕ) → length (after is_blank line) ≤ length line
indent_within line = omega (arith, length-parts is_blank line)
