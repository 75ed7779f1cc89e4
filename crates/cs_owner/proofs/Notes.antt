-- What lines note of a table.
use Rattle.std.proofs.Common.{◌≡◌, ◌≢◌, ◌⊎◌, inl, inr, ℕ, zero, suc, ◌+◌, ◌-◌, ◌<◌, ◌≤◌, Bool, true, cond, nat_eq, List, [], ◌∷◌, ◌++◌, length, take, drop, append_assoc, Option, None, Some, Contains, refl, sym, ap, subst, ◌∙◌, arith}
use Rattle.std.specs.List.{AllZip, starts_with}
use Rattle.std.proofs.lemmas.Bool.{false_from_ne_true}
use Rattle.std.proofs.lemmas.Bool.Decides.{Decides-eqb}
use Rattle.std.proofs.lemmas.List.{append-nil, drop_at}
use Rattle.std.proofs.lemmas.List.Elements.{Contains-append_left, Contains-push}
use Rattle.std.proofs.lemmas.Slice.Eq.{starts_is}
use Rattle.cs_table.specs.Setting.{SettingLine}
use Rattle.cs_table.specs.Text.{after, is_digit, lines_of}
use Rattle.cs_table.proofs.Lines.{lines_of_nothing}
use Rattle.cs_owner.proofs.Zip.{zip_more}
use Rattle.cs_owner.specs.Owners.{IsNoteOf, note_front, noted, notes_above, notes_from, on_line}

module _ (table line : List ℕ) where
  begins : Bool
  begins = starts_with nat_eq line (note_front table)

  told : List ℕ
  told = after is_digit (drop (length (note_front table)) line)

  pub not_noted : ((rest : List ℕ) → line ≢ note_front table ++ rest) → None ≡ noted table line
  unfolding begins told
  not_noted none =
      let begun : begins ≡ true → line ≡ note_front table ++ drop (length (note_front table)) line = (starts_is Decides-eqb line (note_front table) begins refl).0 in
      sym (ap (λ (t : Bool). cond t (Some told) None) (false_from_ne_true begins (λ e. none (drop (length (note_front table)) line) (begun e))))

  pub is_noted : (rest : List ℕ) → line ≡ note_front table ++ rest → Some (after is_digit rest) ≡ noted table line
  unfolding begins told
  is_noted rest is =
      let begun : begins ≡ true = (starts_is Decides-eqb line (note_front table) begins refl).1 rest is in
      let behind : drop (length (note_front table)) line ≡ rest = ap (drop (length (note_front table))) is ∙ drop_at (note_front table) rest (length (note_front table)) refl in
      sym (ap (λ (t : Bool). cond t (Some told) None) begun ∙ ap (λ (l : List ℕ). Some (after is_digit l)) behind)

-- the settings so far are what lines noted before these
pub record AreSoFar (line : ℕ) (table text : List ℕ) (number : ℕ) (rest : List ℕ) (settings : List SettingLine) : Type 0 where
  pub notes : List (ℕ × List ℕ)
  pub whole : notes ++ notes_from table number (take (line - number) (lines_of rest)) ≡ notes_above line table text
  pub each : AllZip IsNoteOf notes settings

no_line : {X : Type 0} (n : ℕ) → ◌≡◌ {A = List X} (take n []) []
no_line zero = refl
no_line (suc n) = refl

module _ (line : ℕ) (table text : List ℕ) where
  pub at_first : AreSoFar line table text 1 text []
  at_first = record { notes = []; whole = refl; each = tt }

  module _ (number : ℕ) (rest : List ℕ) (settings : List SettingLine) (so_far : AreSoFar line table text number rest settings) where
    pub at_end : (rest ≡ []) ⊎ (line ≤ number) → AllZip IsNoteOf (notes_above line table text) settings
    unfolding notes_from
    at_end ends =
        subst (λ (notes : List (ℕ × List ℕ)). AllZip IsNoteOf notes settings)
        (sym (append-nil so_far.notes) ∙ ap (λ (l : List (ℕ × List ℕ)). so_far.notes ++ l) (sym (ap (notes_from table number) (nothing ends))) ∙ so_far.whole)
        so_far.each
      where
        nothing : (rest ≡ []) ⊎ (line ≤ number) → take (line - number) (lines_of rest) ≡ []
        nothing (inl empty) = ap (take (line - number)) (ap lines_of empty ∙ lines_of_nothing) ∙ no_line (line - number)
        nothing (inr past) = let none : line - number ≡ 0 = omega arith in ap (λ (n : ℕ). take n (lines_of rest)) none

    module _ (comment behind : List ℕ) (above : number < line) (first : lines_of rest ≡ comment ∷ lines_of behind) where
      later : List (ℕ × List ℕ)
      later = notes_from table (number + 1) (take (line - (number + 1)) (lines_of behind))

      next : notes_from table number (take (line - number) (lines_of rest)) ≡ on_line number (noted table comment) ++ later
      unfolding notes_from later
      next =
          let more : line - number ≡ suc (line - (number + 1)) = omega arith in
          ap (λ (n : ℕ). notes_from table number (take n (lines_of rest))) more ∙ ap (λ (lines : List (List ℕ)). notes_from table number (take (suc (line - (number + 1))) lines)) first

      pub without_note : None ≡ noted table comment → AreSoFar line table text (number + 1) behind settings
      unfolding later
      without_note none = record {
        notes = so_far.notes;
        whole = ap (λ (l : List (ℕ × List ℕ)). so_far.notes ++ l) (sym (next ∙ ap (λ (o : Option (List ℕ)). on_line number o ++ later) (sym none))) ∙ so_far.whole;
        each = so_far.each;
      }

      module _ (note : List ℕ) (some : Some note ≡ noted table comment) where
        with_it : (so_far.notes ++ (number, note) ∷ []) ++ later ≡ notes_above line table text
        with_it =
            append_assoc so_far.notes ((number, note) ∷ []) later
            ∙ ap (λ (l : List (ℕ × List ℕ)). so_far.notes ++ l) (sym (next ∙ ap (λ (o : Option (List ℕ)). on_line number o ++ later) (sym some)))
            ∙ so_far.whole

        pub with_note : (setting : SettingLine) → IsNoteOf (number, note) setting → AreSoFar line table text (number + 1) behind (settings ++ setting ∷ [])
        unfolding later
        with_note setting is = record {
          notes = so_far.notes ++ (number, note) ∷ [];
          whole = with_it;
          each = zip_more IsNoteOf so_far.notes settings (number, note) setting so_far.each is;
        }

        pub is_above : Contains (notes_above line table text) (number, note)
        is_above = subst (λ (notes : List (ℕ × List ℕ)). Contains notes (number, note)) with_it (Contains-append_left (so_far.notes ++ (number, note) ∷ []) later (number, note) (Contains-push so_far.notes (number, note)))
