-- The parts of a command: what is read gives the command again, and nothing else does.
use Rattle.std.proofs.Common.{◌≡◌, ◌≢◌, ℕ, ◌+◌, Bool, true, false, cond, ◌&&◌, nat_eq, List, [], ◌∷◌, ◌++◌, length, map, Option, Some, None, Result, Ok, Err, refl, sym, ap, subst, ◌∙◌, append_assoc, arith, inl, inr}
use Rattle.std.specs.Prelude.{IfOk}
use Rattle.std.specs.List.{join_with_byte, onto_first}
use Rattle.std.proofs.lemmas.Bool.{eqb-true, eqb-false, ne_eqb, cases_eq}
use Rattle.std.proofs.lemmas.List.{append-nil}
use Rattle.cs_crontab.specs.Command.{escaped, EndsPlain, ArePlain, input_of, AreParts, pieces_of, pieces_behind, parts_from}

abbrev pub behind : List ℕ → List (List ℕ) → List (List ℕ)
behind front [] = front ∷ []
behind front (piece ∷ pieces) = (front ++ piece) ∷ pieces

-- the lines that follow those of a text, and a measure of what is left
abbrev pub lines_behind : Option (List ℕ) → List ℕ
lines_behind None = []
lines_behind (Some text) = 10 ∷ join_with_byte 10 (pieces_of text)

abbrev pub size_behind : Option (List ℕ) → ℕ
size_behind None = 0
size_behind (Some text) = length text + 1

-- ---- one byte more

pub pieces_none : pieces_of [] ≡ [] ∷ []
unfolding pieces_of
pieces_none = refl

pub pieces_mark : (rest : List ℕ) → pieces_of (37 ∷ rest) ≡ [] ∷ pieces_of rest
unfolding pieces_of
pieces_mark [] = refl
pieces_mark (b ∷ bs) = refl

pub pieces_escape : (rest : List ℕ) → pieces_of (92 ∷ 37 ∷ rest) ≡ onto_first 37 (pieces_of rest)
unfolding pieces_of
pieces_escape rest = refl

-- a byte that is neither a mark nor the backslash of an escape
pub pieces_byte : (b : ℕ) (rest : List ℕ) → b ≢ 37 → ((more : List ℕ) → b ≡ 92 → rest ≢ 37 ∷ more) → pieces_of (b ∷ rest) ≡ onto_first b (pieces_of rest)
unfolding pieces_of
pieces_byte b [] other plain = rw (ne_eqb b 37 other) refl
pieces_byte b (c ∷ cs) other plain = rw (ne_eqb b 37 other) (by_slash (nat_eq b 92) (nat_eq c 37) refl refl)
  where
    by_slash : (s t : Bool) → nat_eq b 92 ≡ s → nat_eq c 37 ≡ t → cond (s && t) (onto_first 37 (pieces_of cs)) (onto_first b (pieces_of (c ∷ cs))) ≡ onto_first b (pieces_of (c ∷ cs))
    by_slash true true is at = absurd (plain cs (eqb-true b 92 is) (ap (λ (d : ℕ). d ∷ cs) (eqb-true c 37 at)))
    by_slash true false is at = refl
    by_slash false t is at = refl

pub behind_nothing : (pieces : List (List ℕ)) → pieces ≢ [] → behind [] pieces ≡ pieces
behind_nothing [] some = absurd (some refl)
behind_nothing (piece ∷ pieces) some = refl

onto_some : (b : ℕ) (pieces : List (List ℕ)) → onto_first b pieces ≢ []
onto_some b [] e = cc
onto_some b (piece ∷ pieces) e = cc

pub pieces_some : (text : List ℕ) → pieces_of text ≢ []
unfolding pieces_of
pieces_some [] e = cc
pieces_some (b ∷ []) e = by_mark (nat_eq b 37) e
  where
    by_mark : (t : Bool) → cond t ([] ∷ [] ∷ []) ((b ∷ []) ∷ []) ≡ [] → ⊥
    by_mark true e = cc
    by_mark false e = cc
pieces_some (b ∷ c ∷ cs) e = by_mark (nat_eq b 37) (nat_eq b 92 && nat_eq c 37) e
  where
    by_mark : (s t : Bool) → cond s ([] ∷ pieces_of (c ∷ cs)) (cond t (onto_first 37 (pieces_of cs)) (onto_first b (pieces_of (c ∷ cs)))) ≡ [] → ⊥
    by_mark true t e = cc
    by_mark false true e = onto_some 37 (pieces_of cs) e
    by_mark false false e = onto_some b (pieces_of (c ∷ cs)) e

-- ---- lines with newlines between them

join_more : (byte : ℕ) (piece : List ℕ) (pieces : List (List ℕ)) → pieces ≢ [] → join_with_byte byte (piece ∷ pieces) ≡ piece ++ (byte ∷ join_with_byte byte pieces)
join_more byte piece [] some = absurd (some refl)
join_more byte piece (next ∷ pieces) some = refl

pub join_behind : (piece : List ℕ) (rest : Option (List ℕ)) → join_with_byte 10 (piece ∷ pieces_behind rest) ≡ piece ++ lines_behind rest
join_behind piece None = sym (append-nil piece)
join_behind piece (Some text) = join_more 10 piece (pieces_of text) (pieces_some text)

pub input_some : (text : List ℕ) → input_of (pieces_of text) ≡ Some (join_with_byte 10 (pieces_of text))
input_some text = by_pieces (pieces_of text) (pieces_some text)
  where
    by_pieces : (pieces : List (List ℕ)) → pieces ≢ [] → input_of pieces ≡ Some (join_with_byte 10 pieces)
    by_pieces [] some = absurd (some refl)
    by_pieces (piece ∷ pieces) some = refl

-- ---- what is read gives the command again

abbrev joined : List (List ℕ) → List ℕ
joined pieces = join_with_byte 37 (map escaped pieces)

mark_no_slash : ◌≡◌ {A = ℕ} 37 92 → ⊥
mark_no_slash e = absurd (omega (arith, e))

nothing_plain : EndsPlain []
nothing_plain [] e = cc
nothing_plain (b ∷ bs) e = cc

more_plain : (b : ℕ) (text : List ℕ) → EndsPlain text → (text ≡ [] → b ≢ 92) → EndsPlain (b ∷ text)
more_plain b text plain other [] e = other (ap tail e) (ap head e)
  where
    head : List ℕ → ℕ
    head [] = 0
    head (x ∷ xs) = x

    tail : List ℕ → List ℕ
    tail [] = []
    tail (x ∷ xs) = xs
more_plain b text plain other (f ∷ fs) e = plain fs (ap tail e)
  where
    tail : List ℕ → List ℕ
    tail [] = []
    tail (x ∷ xs) = xs

joined_mark : (pieces : List (List ℕ)) → pieces ≢ [] → joined ([] ∷ pieces) ≡ 37 ∷ joined pieces
joined_mark [] some = absurd (some refl)
joined_mark (piece ∷ pieces) some = refl

joined_escape : (pieces : List (List ℕ)) → joined (onto_first 37 pieces) ≡ 92 ∷ 37 ∷ joined pieces
joined_escape [] = refl
joined_escape (piece ∷ []) = refl
joined_escape (piece ∷ next ∷ pieces) = refl

joined_byte : (b : ℕ) (pieces : List (List ℕ)) → b ≢ 37 → joined (onto_first b pieces) ≡ b ∷ joined pieces
joined_byte b [] other = rw (ne_eqb b 37 other) refl
joined_byte b (piece ∷ []) other = rw (ne_eqb b 37 other) refl
joined_byte b (piece ∷ next ∷ pieces) other = rw (ne_eqb b 37 other) refl

-- the pieces of a text give it again, and it may be parted into them
Given : List ℕ → Type 0
Given text = (text ≡ joined (pieces_of text)) × ArePlain (pieces_of text)

mark_given : (rest : List ℕ) → Given rest → Given (37 ∷ rest)
unfolding Given
mark_given rest (again, plain) =
    let is : pieces_of (37 ∷ rest) ≡ [] ∷ pieces_of rest = pieces_mark rest in
    (ap (λ (l : List ℕ). 37 ∷ l) again ∙ sym (joined_mark (pieces_of rest) (pieces_some rest)) ∙ ap joined (sym is), subst ArePlain (sym is) (first_plain (pieces_of rest) (pieces_some rest) plain))
  where
    first_plain : (pieces : List (List ℕ)) → pieces ≢ [] → ArePlain pieces → ArePlain ([] ∷ pieces)
    first_plain [] some plain = absurd (some refl)
    first_plain (piece ∷ pieces) some plain = (nothing_plain, plain)

escape_given : (rest : List ℕ) → Given rest → Given (92 ∷ 37 ∷ rest)
unfolding Given
escape_given rest (again, plain) =
    let is : pieces_of (92 ∷ 37 ∷ rest) ≡ onto_first 37 (pieces_of rest) = pieces_escape rest in
    (ap (λ (l : List ℕ). 92 ∷ 37 ∷ l) again ∙ sym (joined_escape (pieces_of rest)) ∙ ap joined (sym is), subst ArePlain (sym is) (onto_plain (pieces_of rest) plain))
  where
    onto_plain : (pieces : List (List ℕ)) → ArePlain pieces → ArePlain (onto_first 37 pieces)
    onto_plain [] plain = tt
    onto_plain (piece ∷ []) plain = tt
    onto_plain (piece ∷ next ∷ pieces) plain = (more_plain 37 piece plain.0 (λ empty e. mark_no_slash e), plain.1)

byte_given : (b : ℕ) (rest : List ℕ) → b ≢ 37 → ((more : List ℕ) → b ≡ 92 → rest ≢ 37 ∷ more) → Given rest → Given (b ∷ rest)
unfolding Given
byte_given b rest other free (again, plain) =
    let is : pieces_of (b ∷ rest) ≡ onto_first b (pieces_of rest) = pieces_byte b rest other free in
    (ap (λ (l : List ℕ). b ∷ l) again ∙ sym (joined_byte b (pieces_of rest) other) ∙ ap joined (sym is), subst ArePlain (sym is) (onto_plain (pieces_of rest) again plain))
  where
    onto_plain : (pieces : List (List ℕ)) → rest ≡ joined pieces → ArePlain pieces → ArePlain (onto_first b pieces)
    onto_plain [] again plain = tt
    onto_plain (piece ∷ []) again plain = tt
    onto_plain (piece ∷ next ∷ pieces) again plain =
        (more_plain b piece plain.0 (λ empty slash. free (joined (next ∷ pieces)) slash (again ∙ ap (λ (l : List ℕ). escaped l ++ (37 ∷ joined (next ∷ pieces))) empty)), plain.1)

pieces_given : (text : List ℕ) → Given text
unfolding Given
pieces_given [] = (sym (ap joined pieces_none), subst ArePlain (sym pieces_none) tt)
pieces_given (b ∷ []) =
    elim (cases_eq b 37) [
      | inl mark ↦ let P : ℕ → Type 0 = λ c. Given (c ∷ []) in subst P (sym mark) (mark_given [] (pieces_given []))
      | inr other ↦ byte_given b [] other (λ more is e. cc) (pieces_given [])
    ]
pieces_given (b ∷ c ∷ cs) =
    elim (cases_eq b 37) [
      | inl mark ↦ let P : ℕ → Type 0 = λ d. Given (d ∷ c ∷ cs) in subst P (sym mark) (mark_given (c ∷ cs) (pieces_given (c ∷ cs)))
      | inr other ↦
          elim (cases_eq c 37) [
            | inl at ↦
                elim (cases_eq b 92) [
                  | inl slash ↦
                      let P : ℕ → Type 0 = λ d. Given (d ∷ c ∷ cs) in
                      let Q : ℕ → Type 0 = λ d. Given (92 ∷ d ∷ cs) in
                      subst P (sym slash) (subst Q (sym at) (escape_given cs (pieces_given cs)))
                  | inr none ↦ byte_given b (c ∷ cs) other (λ more slash e. none slash) (pieces_given (c ∷ cs))
                ]
            | inr none ↦ byte_given b (c ∷ cs) other (λ more slash e. none (ap head e)) (pieces_given (c ∷ cs))
          ]
    ]
  where
    head : List ℕ → ℕ
    head [] = 0
    head (x ∷ xs) = x

parts_take : (text : List ℕ) (parts : List ℕ × Option (List ℕ)) → parts ≡ parts_from (pieces_of text) → AreParts text parts
unfolding Given
parts_take text parts is = subst (AreParts text) (sym is) (by_pieces (pieces_of text) (pieces_some text) (pieces_given text).0 (pieces_given text).1)
  where
    by_pieces : (pieces : List (List ℕ)) → pieces ≢ [] → text ≡ joined pieces → ArePlain pieces → AreParts text (parts_from pieces)
    by_pieces [] some again plain = absurd (some refl)
    by_pieces (piece ∷ pieces) some again plain = (pieces, again, plain, refl)

-- ---- nothing else gives the command

escaped_first : (text rest more : List ℕ) → text ≢ [] → escaped text ++ rest ≢ 37 ∷ more
escaped_first [] rest more some e = some refl
escaped_first (b ∷ bs) rest more some e = by_mark (nat_eq b 37) refl e
  where
    head : List ℕ → ℕ
    head [] = 0
    head (x ∷ xs) = x

    by_mark : (t : Bool) → nat_eq b 37 ≡ t → (cond t (92 ∷ 37 ∷ []) (b ∷ []) ++ escaped bs) ++ rest ≡ 37 ∷ more → ⊥
    by_mark true is e = mark_no_slash (sym (ap head e))
    by_mark false is e = eqb-false b 37 is (ap head e)

escaped_byte : (b : ℕ) (bs : List ℕ) → b ≢ 37 → escaped (b ∷ bs) ≡ b ∷ escaped bs
escaped_byte b bs other = rw (ne_eqb b 37 other) refl

tail_plain : (b : ℕ) (bs : List ℕ) → EndsPlain (b ∷ bs) → EndsPlain bs
tail_plain b bs plain front e = plain (b ∷ front) (ap (λ (l : List ℕ). b ∷ l) e)

escaped_then : (text rest : List ℕ) → EndsPlain text → pieces_of (escaped text ++ (37 ∷ rest)) ≡ text ∷ pieces_of rest
escaped_then [] rest plain = pieces_mark rest
escaped_then (b ∷ bs) rest plain =
    let more : pieces_of (escaped bs ++ (37 ∷ rest)) ≡ bs ∷ pieces_of rest = escaped_then bs rest (tail_plain b bs plain) in
    elim (cases_eq b 37) [
      | inl mark ↦ let P : ℕ → Type 0 = λ c. pieces_of (escaped (c ∷ bs) ++ (37 ∷ rest)) ≡ (c ∷ bs) ∷ pieces_of rest in subst P (sym mark) (pieces_escape (escaped bs ++ (37 ∷ rest)) ∙ ap (onto_first 37) more)
      | inr other ↦
          ap (λ (l : List ℕ). pieces_of (l ++ (37 ∷ rest))) (escaped_byte b bs other)
          ∙ pieces_byte b (escaped bs ++ (37 ∷ rest)) other (λ next slash. free bs slash plain next) ∙ ap (onto_first b) more
    ]
  where
    free : (cs : List ℕ) → b ≡ 92 → EndsPlain (b ∷ cs) → (next : List ℕ) → escaped cs ++ (37 ∷ rest) ≢ 37 ∷ next
    free [] slash plain next e = plain [] (ap (λ (c : ℕ). c ∷ []) slash)
    free (c ∷ cs) slash plain next e = escaped_first (c ∷ cs) (37 ∷ rest) next (λ empty. cc) e

escaped_alone : (text : List ℕ) → pieces_of (escaped text) ≡ text ∷ []
escaped_alone [] = pieces_none
escaped_alone (b ∷ bs) =
    elim (cases_eq b 37) [
      | inl mark ↦ let P : ℕ → Type 0 = λ c. pieces_of (escaped (c ∷ bs)) ≡ (c ∷ bs) ∷ [] in subst P (sym mark) (pieces_escape (escaped bs) ∙ ap (onto_first 37) (escaped_alone bs))
      | inr other ↦
          ap pieces_of (escaped_byte b bs other) ∙ pieces_byte b (escaped bs) other (λ next slash. free bs next) ∙ ap (onto_first b) (escaped_alone bs)
    ]
  where
    free : (cs next : List ℕ) → escaped cs ≢ 37 ∷ next
    free [] next e = cc
    free (c ∷ cs) next e = escaped_first (c ∷ cs) [] next (λ empty. cc) (append-nil (escaped (c ∷ cs)) ∙ e)

joined_again : (pieces : List (List ℕ)) → pieces ≢ [] → ArePlain pieces → pieces_of (joined pieces) ≡ pieces
joined_again [] some plain = absurd (some refl)
joined_again (piece ∷ []) some plain = escaped_alone piece
joined_again (piece ∷ next ∷ pieces) some plain =
    escaped_then piece (joined (next ∷ pieces)) plain.0 ∙ ap (λ (ps : List (List ℕ)). piece ∷ ps) (joined_again (next ∷ pieces) (λ e. cc) plain.1)

parts_only : (text : List ℕ) (answer parts : List ℕ × Option (List ℕ)) → answer ≡ parts_from (pieces_of text) → AreParts text parts → answer ≡ parts
parts_only text answer parts is (lines, again, plain, input) =
    is ∙ ap parts_from (ap pieces_of again ∙ joined_again (parts.0 ∷ lines) (λ e. cc) plain) ∙ ap (λ (i : Option (List ℕ)). (parts.0, i)) (sym input)

-- ---- what a call answered

abbrev Answer : Type 0
Answer = List ℕ × Option (List ℕ)

pub read_all : {E : Type 0} (text : List ℕ) (r : Result Answer E) → IfOk r (λ parts. parts ≡ parts_from (pieces_of text)) → IfOk r (AreParts text)
read_all text (Ok parts) is = parts_take text parts is
read_all text (Err e) is = tt

pub read_only : {E : Type 0} (text : List ℕ) (r : Result Answer E) (parts : Answer) → AreParts text parts → IfOk r (λ answer. answer ≡ parts_from (pieces_of text)) → IfOk r (λ answer. answer ≡ parts)
read_only text (Ok answer) parts are is = parts_only text answer parts is are
read_only text (Err e) parts are is = tt
