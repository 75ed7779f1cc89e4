-- Lists of items: what is read is written so, what is written so is read, and numbers are in range.
use Rattle.std.proofs.Common.{◌≡◌, ◌≢◌, ℕ, ◌+◌, ◌^◌, ◌<◌, ◌≤◌, Bool, true, false, cond, not, nat_eq, nat_le, ◌&&◌, List, [], ◌∷◌, ◌++◌, length, Result, Ok, Err, All, refl, sym, ap, subst, ◌∙◌, arith, inl, inr}
use Rattle.std.specs.Prelude.{IfErr}
use Rattle.std.specs.List.{list_all, list_any, slice_split, onto_first, join_with_byte, range_with_len}
use Rattle.std.proofs.lemmas.Bool.{eqb-true, ne_eqb, leb-true, not-true, or_cases}
use Rattle.std.proofs.lemmas.List.{length-append}
use Rattle.std.proofs.lemmas.List.Elements.{All-weaker, All-head, All-tail, filter_passes}
use Rattle.std.proofs.lemmas.List.Splits.{join_with_byte-slice_split}
use Rattle.cs_schedule.specs.declared.part.Part.{Part}
use Rattle.cs_schedule.specs.declared.part.Part.TheVariants as parts
use Rattle.cs_schedule.specs.Part.{first_of, last_of}
use Rattle.cs_schedule.specs.Numbers.{numbers_where, is_every, in_week, has}
use Rattle.cs_schedule.specs.Times.{Choice, IsWithin}
use Rattle.cs_schedule.proofs.Within.{every_within, week_within}
use Rattle.cs_crontab.specs.declared.fault.LineFault.{LineFault}
use Rattle.cs_table.specs.declared.fault.Wrong.{Wrong}
use Rattle.cs_table.specs.Text.{is_digit, begins_with}
use Rattle.cs_table.specs.Wrong.{IsWithin as IsPart, marked, ◌>>=◌}
use Rattle.cs_crontab.specs.Format.{counted, all_of, is_comma}
use Rattle.cs_crontab.specs.Reading.{item_of, items_of, list_of, field_of}
use Rattle.cs_crontab.specs.Grammar.{IsNumber, IsStep, IsItem, AreItems, IsField}
use Rattle.cs_table.proofs.Spans.{and_left, and_right, list_all_weaker, list_all_joined}
use Rattle.cs_crontab.proofs.Names.{is_letter, letter_other, name_letters, names_end}
use Rattle.cs_crontab.proofs.Items.{whole_takes, whole_again}
use Rattle.cs_table.proofs.Results.{bind_ok, bind_err, ok_is, ok_no_err, marked_ok, marked_err}

abbrev done : {A : Type 0} → A → Result A (Wrong LineFault)
done x = Ok x

-- ---- an item holds no comma

abbrev is_plain : ℕ → Bool
is_plain b = not (is_comma b)

digit_plain : (b : ℕ) → is_digit b ≡ true → is_plain b ≡ true
digit_plain b digit = rw (ne_eqb b 44 (λ same. absurd (omega (arith, leb-true 48 b (and_left (nat_le 48 b) (nat_le b 57) digit), same)))) refl

letter_plain : (b : ℕ) → is_letter b ≡ true → is_plain b ≡ true
letter_plain b letter = rw (letter_other b 44 (omega arith) letter) refl

number_plain : (part : Part) (text : List ℕ) (n : ℕ) → IsNumber part text n → list_all is_plain text ≡ true
number_plain part text n (inl is) = list_all_weaker is_digit is_plain digit_plain text is.digits.0
number_plain part text n (inr (place, three, found, value)) = list_all_weaker is_letter is_plain letter_plain text (name_letters part text place found)

step_plain : (text : List ℕ) (n : ℕ) → IsStep text n → list_all is_plain text ≡ true
step_plain text n (inl none) = rw none.0 refl
step_plain text n (inr (digits, is, are, value, positive)) = rw is (list_all_weaker is_digit is_plain digit_plain digits are.0)

item_plain : (part : Part) (text numbers : List ℕ) → IsItem part text numbers → list_all is_plain text ≡ true
item_plain part text numbers (inl (step, n, is, stepped, value)) = rw is (step_plain step n stepped)
item_plain part text numbers (inr (inl (a, number, value))) = number_plain part text a number
item_plain part text numbers (inr (inr (x, y, step, a, z, n, is, first, last, ordered, stepped, value))) =
    rw is (list_all_joined is_plain x (45 ∷ (y ++ step)) (number_plain part x a first) (list_all_joined is_plain y step (number_plain part y z last) (step_plain step n stepped)))

-- ---- texts joined by commas are parted again

split_one : (text : List ℕ) → list_all is_plain text ≡ true → slice_split is_comma text ≡ text ∷ []
split_one [] plain = refl
split_one (b ∷ bs) plain = rw (not-true (is_comma b) (and_left (is_plain b) (list_all is_plain bs) plain)) (ap (onto_first b) (split_one bs (and_right (is_plain b) (list_all is_plain bs) plain)))

split_more : (text rest : List ℕ) → list_all is_plain text ≡ true → slice_split is_comma (text ++ (44 ∷ rest)) ≡ text ∷ slice_split is_comma rest
split_more [] rest plain = refl
split_more (b ∷ bs) rest plain = rw (not-true (is_comma b) (and_left (is_plain b) (list_all is_plain bs) plain)) (ap (onto_first b) (split_more bs rest (and_right (is_plain b) (list_all is_plain bs) plain)))

abbrev are_plain : List (List ℕ) → Bool
are_plain texts = list_all (λ text. list_all is_plain text) texts

split_joined : (texts : List (List ℕ)) → texts ≢ [] → are_plain texts ≡ true → slice_split is_comma (join_with_byte 44 texts) ≡ texts
split_joined [] some plain = absurd (some refl)
split_joined (text ∷ []) some plain = split_one text (both (list_all is_plain text) true plain).0
  where
    both : (s t : Bool) → (s && t) ≡ true → (s ≡ true) × (t ≡ true)
    both true true e = (refl, refl)
    both true false e = absurd cc
    both false t e = absurd cc
split_joined (text ∷ other ∷ texts) some plain =
    split_more text (join_with_byte 44 (other ∷ texts)) (both (list_all is_plain text) (are_plain (other ∷ texts)) plain).0
    ∙ ap (λ (ts : List (List ℕ)). text ∷ ts) (split_joined (other ∷ texts) (λ e. cc) (both (list_all is_plain text) (are_plain (other ∷ texts)) plain).1)
  where
    both : (s t : Bool) → (s && t) ≡ true → (s ≡ true) × (t ≡ true)
    both true true e = (refl, refl)
    both true false e = absurd cc
    both false t e = absurd cc

split_some : (text : List ℕ) → slice_split is_comma text ≢ []
split_some [] e = absurd cc
split_some (b ∷ bs) e = by_test (is_comma b) (slice_split is_comma bs) e
  where
    by_test : (t : Bool) (parts : List (List ℕ)) → cond t ([] ∷ parts) (onto_first b parts) ≡ [] → ⊥
    by_test true parts e = cc
    by_test false [] e = cc
    by_test false (part ∷ parts) e = cc

-- ---- items

items_take : (part : Part) (texts items : List (List ℕ)) → items_of part texts ≡ Ok items → AreItems part texts items
unfolding items_of
items_take part [] items e = sym (ok_is [] items e)
items_take part (text ∷ texts) items e =
    let placed = marked (length (join_with_byte 44 (text ∷ texts))) (length text) (item_of part text) in
    let one = bind_ok placed (λ item. items_of part texts >>= λ others. Ok (item ∷ others)) items e in
    let two = bind_ok (items_of part texts) (λ others. Ok (one.0 ∷ others)) items one.2 in
    (one.0, two.0, whole_takes part text one.0 (marked_ok (length (join_with_byte 44 (text ∷ texts))) (length text) (item_of part text) one.0 one.1), items_take part texts two.0 two.1, sym (ok_is (one.0 ∷ two.0) items two.2))

items_again : (part : Part) (texts items : List (List ℕ)) → AreItems part texts items → items_of part texts ≡ Ok items
unfolding items_of
items_again part [] items none = ap (λ (is : List (List ℕ)). done is) (sym none)
items_again part (text ∷ texts) items (numbers, others, first, more, is) = rw (whole_again part text numbers first, items_again part texts others more) (ap (λ (is : List (List ℕ)). done is) (sym is))

items_plain : (part : Part) (texts items : List (List ℕ)) → AreItems part texts items → are_plain texts ≡ true
items_plain part [] items none = refl
items_plain part (text ∷ texts) items (numbers, others, first, more, is) = rw (item_plain part text numbers first) (items_plain part texts others more)

-- ---- fields

pub field_takes : (part : Part) (word : List ℕ) (field : Choice) → field_of part word ≡ Ok field → IsField part word field
unfolding field_of list_of
field_takes part word field e =
    let one = bind_ok (items_of part (slice_split is_comma word) >>= λ items. Ok (all_of items)) (λ numbers. Ok (record { star = begins_with 42 word; numbers = counted part numbers })) field e in
    let two = bind_ok (items_of part (slice_split is_comma word)) (λ items. Ok (all_of items)) one.0 one.1 in
    let same : all_of two.0 ≡ one.0 = ok_is (all_of two.0) one.0 two.2 in
    let made : (record { star = begins_with 42 word; numbers = counted part one.0 }) ≡ field = ok_is (record { star = begins_with 42 word; numbers = counted part one.0 }) field one.2 in (
      slice_split is_comma word,
      two.0,
      split_some word,
      sym (join_with_byte-slice_split 44 word),
      items_take part (slice_split is_comma word) two.0 two.1,
      sym made ∙ ap (λ (ns : List ℕ). record { star = begins_with 42 word; numbers = counted part ns }) (sym same),
    )

pub field_again : (part : Part) (word : List ℕ) (field : Choice) → IsField part word field → field_of part word ≡ Ok field
unfolding field_of list_of
field_again part word field (texts, items, some, is, are, value) =
    let parted : slice_split is_comma word ≡ texts = ap (slice_split is_comma) is ∙ split_joined texts some (items_plain part texts items are) in
    rw (parted, items_again part texts items are) (ap (λ (f : Choice). done f) (sym value))

-- ---- what is wrong is a part of the word

join_longer : (text : List ℕ) (texts : List (List ℕ)) → (length text ≤ length (join_with_byte 44 (text ∷ texts))) × (length (join_with_byte 44 texts) ≤ length (join_with_byte 44 (text ∷ texts)))
join_longer text [] = (omega arith, omega arith)
join_longer text (other ∷ texts) =
    let sum = length-append text (44 ∷ join_with_byte 44 (other ∷ texts)) in
    (omega (arith, sum), omega (arith, sum))

items_part : (part : Part) (texts : List (List ℕ)) (wrong : Wrong LineFault) → items_of part texts ≡ Err wrong → IsPart (join_with_byte 44 texts) wrong
unfolding items_of
items_part part [] wrong e = absurd (ok_no_err [] wrong e)
items_part part (text ∷ texts) wrong e =
    let longer = join_longer text texts in
    let left : ℕ = length (join_with_byte 44 (text ∷ texts)) in
    elim (bind_err (marked left (length text) (item_of part text)) (λ item. items_of part texts >>= λ items. Ok (item ∷ items)) wrong e) [
      | inl here ↦ let m = marked_err left (length text) (item_of part text) wrong here in (omega (arith, m.1), omega (arith, m.1, m.2, longer.0))
      | inr rest ↦
          elim (bind_err (items_of part texts) (λ items. Ok (rest.0 ∷ items)) wrong rest.2) [
            | inl later ↦ let more = items_part part texts wrong later in (omega (arith, more.0, longer.1), more.1)
            | inr none ↦ absurd (ok_no_err (rest.0 ∷ none.0) wrong none.2)
          ]
    ]

pub field_part : (part : Part) (word : List ℕ) (wrong : Wrong LineFault) → field_of part word ≡ Err wrong → IsPart word wrong
unfolding field_of list_of
field_part part word wrong e =
    elim (bind_err (items_of part (slice_split is_comma word) >>= λ items. Ok (all_of items)) (λ numbers. Ok (record { star = begins_with 42 word; numbers = counted part numbers })) wrong e) [
      | inl list ↦
          elim (bind_err (items_of part (slice_split is_comma word)) (λ items. Ok (all_of items)) wrong list) [
            | inl items ↦ subst (λ (l : List ℕ). IsPart l wrong) (join_with_byte-slice_split 44 word) (items_part part (slice_split is_comma word) wrong items)
            | inr none ↦ absurd (ok_no_err (all_of none.0) wrong none.2)
          ]
      | inr none ↦ absurd (ok_no_err (record { star = begins_with 42 word; numbers = counted part none.0 }) wrong none.2)
    ]

pub field_fits : (part : Part) (word : List ℕ) (more : ℕ) (r : Result Choice (Wrong LineFault)) → r ≡ field_of part word → length word + more < 2 ^ 64 → IfErr r (λ wrong. wrong.left + more < 2 ^ 64)
field_fits part word more (Ok field) is fits = tt
field_fits part word more (Err wrong) is fits = let p = field_part part word wrong (sym is) in omega (arith, p.0, fits)

-- ---- the numbers of a field lie in its range

abbrev AreWritten : Part → List ℕ → Type 0
AreWritten part numbers = All (λ n. (first_of part ≤ n) × (n ≤ last_of part)) numbers

every_written : (part : Part) (a z n : ℕ) → first_of part ≤ a → z ≤ last_of part → AreWritten part (numbers_where (is_every a z n))
every_written part a z n low high =
    All-weaker (λ k. (a ≤ k) × (k ≤ z)) (λ k. (first_of part ≤ k) × (k ≤ last_of part)) (λ k within. (omega (arith, low, within.0), omega (arith, high, within.1))) (numbers_where (is_every a z n)) (every_within a z n)

number_low : (part : Part) (text : List ℕ) (n : ℕ) → IsNumber part text n → first_of part ≤ n
number_low part text n (inl is) = is.low
number_low part text n (inr (place, three, found, value)) = omega (arith, value)

number_high : (part : Part) (text : List ℕ) (n : ℕ) → IsNumber part text n → n ≤ last_of part
number_high part text n (inl is) = is.high
number_high part text n (inr (place, three, found, value)) = omega (arith, value, names_end part text place found)

item_written : (part : Part) (text numbers : List ℕ) → IsItem part text numbers → AreWritten part numbers
item_written part text numbers (inl (step, n, is, stepped, value)) = subst (AreWritten part) (sym value) (every_written part (first_of part) (last_of part) n (omega arith) (omega arith))
item_written part text numbers (inr (inl (a, number, value))) = subst (AreWritten part) (sym value) (every_written part a a 1 (number_low part text a number) (number_high part text a number))
item_written part text numbers (inr (inr (x, y, step, a, z, n, is, first, last, ordered, stepped, value))) = subst (AreWritten part) (sym value) (every_written part a z n (number_low part x a first) (number_high part y z last))

has_what_all : (P : ℕ → Type 0) (numbers : List ℕ) (n : ℕ) → All P numbers → has numbers n ≡ true → P n
has_what_all P [] n all found = absurd cc
has_what_all P (k ∷ ks) n all found =
    elim (or_cases (nat_eq k n) (has ks n) found) [
      | inl here ↦ subst P (eqb-true k n here) (All-head P k ks all)
      | inr later ↦ has_what_all P ks n (All-tail P k ks all) later
    ]

some_written : (part : Part) (texts items : List (List ℕ)) (n : ℕ) → AreItems part texts items → list_any (λ item. has item n) items ≡ true → (first_of part ≤ n) × (n ≤ last_of part)
some_written part [] items n none found = let P : List (List ℕ) → Type 0 = λ is. list_any (λ item. has item n) is ≡ true in absurd (nothing (subst P none found))
  where
    nothing : false ≡ true → ⊥
    nothing e = cc
some_written part (text ∷ texts) items n (numbers, others, first, more, is) found =
    let P : List (List ℕ) → Type 0 = λ is. list_any (λ item. has item n) is ≡ true in
    elim (or_cases (has numbers n) (list_any (λ item. has item n) others) (subst P is found)) [
      | inl here ↦ has_what_all (λ k. (first_of part ≤ k) × (k ≤ last_of part)) numbers n (item_written part text numbers first) here
      | inr later ↦ some_written part texts others n more later
    ]

all_written : (part : Part) (texts items : List (List ℕ)) → AreItems part texts items → AreWritten part (all_of items)
unfolding numbers_where
all_written part texts items are =
    All-weaker (λ n. list_any (λ item. has item n) items ≡ true) (λ n. (first_of part ≤ n) × (n ≤ last_of part)) (λ n found. some_written part texts items n are found) (all_of items)
    (filter_passes (λ n. list_any (λ item. has item n) items) (range_with_len 0 64))

counted_within : (part : Part) (numbers : List ℕ) → AreWritten part numbers → IsWithin part (counted part numbers)
counted_within parts.Minute numbers written = written
counted_within parts.Hour numbers written = written
counted_within parts.Dom numbers written = written
counted_within parts.Month numbers written = written
counted_within parts.Dow numbers written = All-weaker (λ n. n ≤ 6) (λ n. (0 ≤ n) × (n ≤ 6)) (λ n high. (omega arith, high)) (in_week numbers) (week_within numbers)

pub field_within : (part : Part) (word : List ℕ) (field : Choice) → field_of part word ≡ Ok field → IsWithin part field.numbers
field_within part word field read =
    let is : IsField part word field = field_takes part word field read in
    let P : Choice → Type 0 = λ f. IsWithin part f.numbers in
    subst P (sym is.5) (counted_within part (all_of is.1) (all_written part is.0 is.1 is.4))
