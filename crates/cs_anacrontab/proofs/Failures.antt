-- Faults of a line: those that are read are its faults, and its faults are read.
use Rattle.std.proofs.Common.{◌≡◌, ◌≢◌, ℕ, ◌⊎◌, Bool, true, false, cond, not, nat_eq, nat_lt, List, [], ◌∷◌, ◌++◌, length, drop, Option, Some, None, Result, Ok, Err, refl, sym, ap, subst, ◌∙◌, arith, inl, inr}
use Rattle.std.specs.List.{list_any}
use Rattle.std.proofs.lemmas.Bool.{le-ltb, lt-ltb, ltb-true, ltb-false, eqb-false, ne_eqb, false_from_ne_true}
use Rattle.std.proofs.lemmas.List.{length-append, length-drop}
use Rattle.cs_table.specs.declared.limits.TheConstants.{MAX_LINE}
use Rattle.cs_table.specs.Text.{begins_with, front, after, is_blank, is_solid, StopsAt, is_nothing}
use Rattle.cs_table.specs.Setting.{begins_setting}
use Rattle.cs_table.specs.SettingReading.{setting_of}
use Rattle.cs_table.proofs.Spans.{some_from, some_to, front_again, after_again, parts_joined, front_passes, after_stops, front_some, joined_some}
use Rattle.cs_table.proofs.Settings.{setting_takes, setting_again}
use Rattle.cs_anacrontab.specs.declared.limits.TheConstants.{MAX_PERIOD, MAX_DELAY}
use Rattle.cs_anacrontab.specs.declared.period.Period.{Period}
use Rattle.cs_anacrontab.specs.declared.fault.JobFault.{JobFault}
use Rattle.cs_anacrontab.specs.declared.fault.JobFault.TheVariants as faults
use Rattle.cs_anacrontab.specs.Anacrontab.{Entry, Nothing, Setting, Job}
use Rattle.cs_anacrontab.specs.Reading.{number_of, period_of_word, or_fault, days_of, period_of, is_identifier, is_continued, word_at, completed, job_of, set, entry_of, line_of}
use Rattle.cs_table.specs.declared.fault.Wrong.{Wrong}
use Rattle.cs_table.specs.Wrong.{◌>>=◌, IsWithin, at_end, at_front, at_nul, last_byte, whole, marked}
use Rattle.cs_table.proofs.Results.{bind_err, guard_ok, guard_err, ok_is, err_is, ok_no_err, marked_ok, marked_err, empty_is, same_wrong}
use Rattle.cs_table.proofs.Places.{nul_takes, nul_again, nul_within, whole_within, within_longer}
use Rattle.cs_anacrontab.specs.Grammar.{IsNumber, IsIdentifier}
use Rattle.cs_anacrontab.specs.Faults.{HasNext, PeriodFails, IsMissing, IdentifierFails, DelayFails, JobFails, SettingFails, TextFails, LineFails}
use Rattle.cs_anacrontab.proofs.Parts.{fault_some, number_takes, number_again, period_takes, period_again, identifier_takes, identifier_again, ends_elsewhere, elsewhere_ends, continued_takes, continued_again}
use Rattle.cs_anacrontab.proofs.Entries.{identified, delayed}

abbrev failed : {A F : Type 0} → F → Result A F
failed f = Err f

some_none : {A : Type 0} (x : A) → ◌≡◌ {A = Option A} (Some x) None → ⊥
some_none x e = cc

fault_none : {A : Type 0} (g d : JobFault) (o : Option A) → or_fault g o ≡ Err d → (o ≡ None) × (d ≡ g)
fault_none g d None e = (refl, sym (err_is g d e))
fault_none g d (Some x) e = absurd (ok_no_err x d e)

-- ---- words

missing_is : (text : List ℕ) (wrong : Wrong JobFault) → word_at text ≡ Err wrong → IsMissing text wrong
unfolding word_at
missing_is text wrong e =
    elim (guard_err (is_nothing text) (at_end faults.MissingField) (Ok (front is_solid text, after is_blank (after is_solid text))) wrong e) [
      | inl none ↦ (empty_is text none.0, sym none.1)
      | inr some ↦ absurd (ok_no_err (front is_solid text, after is_blank (after is_solid text)) wrong some.1)
    ]

missing_again : (text : List ℕ) (wrong : Wrong JobFault) → IsMissing text wrong → word_at text ≡ Err wrong
unfolding word_at
missing_again text wrong (empty, is) = ap word_at empty ∙ ap (λ (f : Wrong JobFault). failed f) (sym is)

next_takes : (text : List ℕ) (x : List ℕ × List ℕ) → StopsAt is_blank text → word_at text ≡ Ok x → HasNext text x.0 x.1
unfolding word_at
next_takes text x stop e =
    let rest : List ℕ = after is_solid text in
    let g = guard_ok (is_nothing text) (at_end faults.MissingField) (Ok (front is_solid text, after is_blank rest)) x e in
    let is : (front is_solid text, after is_blank rest) ≡ x = ok_is (front is_solid text, after is_blank rest) x g.1 in
    let ends : StopsAt is_solid (front is_blank rest ++ after is_blank rest) = subst (StopsAt is_solid) (sym (parts_joined is_blank rest)) (after_stops is_solid text) in
    let made : HasNext text (front is_solid text) (after is_blank rest) =
    record {
      gap = front is_blank rest;
      parts = sym (parts_joined is_solid text) ∙ ap (λ (l : List ℕ). front is_solid text ++ l) (sym (parts_joined is_blank rest));
      solid = (front_passes is_solid text, front_some text (some_from text g.0) stop);
      ends = ends;
      blank = front_passes is_blank rest;
      stops = after_stops is_blank rest;
    }
    in
    subst (λ (p : List ℕ × List ℕ). HasNext text p.0 p.1) is made

next_again : (text word rest : List ℕ) → HasNext text word rest → word_at text ≡ Ok (word, rest)
unfolding word_at
next_again text word rest is =
    ap word_at is.parts
    ∙ rw (some_to (word ++ (is.gap ++ rest)) (joined_some word (is.gap ++ rest) is.solid.1), front_again is_solid word (is.gap ++ rest) is.solid.0 is.ends, after_again is_solid word (is.gap ++ rest) is.solid.0 is.ends, after_again is_blank is.gap rest is.blank is.stops) refl

-- ---- numbers, periods and identifiers

no_number : (highest : ℕ) (word : List ℕ) → number_of highest word ≡ None → (n : ℕ) → IsNumber highest word n → ⊥
no_number highest word none n is = some_none n (sym (number_again highest word n is) ∙ none)

number_none : (highest : ℕ) (word : List ℕ) → ((n : ℕ) → IsNumber highest word n → ⊥) → number_of highest word ≡ None
number_none highest word none = by_read (number_of highest word) refl
  where
    by_read : (o : Option ℕ) → number_of highest word ≡ o → o ≡ None
    by_read None is = refl
    by_read (Some n) is = absurd (none n (number_takes highest word n is))

period_fails : (word : List ℕ) (fault : JobFault) → period_of word ≡ Err fault → PeriodFails word fault
unfolding period_of
period_fails word fault e = (λ period is. ok_no_err period fault (sym (period_again word period is) ∙ e), by_word word e)
  where
    by_word : (w : List ℕ) → period_of w ≡ Err fault → ((begins_with 64 w ≡ true) × (fault ≡ faults.UnknownWord)) ⊎ ((begins_with 64 w ≡ false) × (fault ≡ faults.BadPeriod))
    by_word [] e = inr (refl, sym (err_is {A = Period} faults.BadPeriod fault e))
    by_word (b ∷ bs) e = by_at (nat_eq b 64) refl e
      where
        by_at : (t : Bool) → nat_eq b 64 ≡ t → cond t (or_fault faults.UnknownWord (period_of_word bs)) (or_fault faults.BadPeriod (days_of (number_of MAX_PERIOD (b ∷ bs)))) ≡ failed {A = Period} fault
            → ((nat_eq b 64 ≡ true) × (fault ≡ faults.UnknownWord)) ⊎ ((nat_eq b 64 ≡ false) × (fault ≡ faults.BadPeriod))
        by_at true is e = inl (is, (fault_none faults.UnknownWord fault (period_of_word bs) e).1)
        by_at false is e = inr (is, (fault_none faults.BadPeriod fault (days_of (number_of MAX_PERIOD (b ∷ bs))) e).1)

abbrev Which : List ℕ → JobFault → Type 0
Which word fault = ((begins_with 64 word ≡ true) × (fault ≡ faults.UnknownWord)) ⊎ ((begins_with 64 word ≡ false) × (fault ≡ faults.BadPeriod))

one_fault : (word : List ℕ) (f g : JobFault) → Which word f → Which word g → f ≡ g
one_fault word f g (inl a) (inl b) = a.1 ∙ sym b.1
one_fault word f g (inl a) (inr b) = absurd (true_false (begins_with 64 word) a.0 b.0)
  where
    true_false : (t : Bool) → t ≡ true → t ≡ false → ⊥
    true_false t a b = cc
one_fault word f g (inr a) (inl b) = absurd (true_false (begins_with 64 word) b.0 a.0)
  where
    true_false : (t : Bool) → t ≡ true → t ≡ false → ⊥
    true_false t a b = cc
one_fault word f g (inr a) (inr b) = a.1 ∙ sym b.1

period_fails_again : (word : List ℕ) (fault : JobFault) → PeriodFails word fault → period_of word ≡ Err fault
period_fails_again word fault (none, which) = by_read (period_of word) refl
  where
    by_read : (r : Result Period JobFault) → period_of word ≡ r → r ≡ Err fault
    by_read (Ok period) is = absurd (none period (period_takes word period is))
    by_read (Err f) is = ap (λ (g : JobFault). failed g) (one_fault word f fault (period_fails word f is).1 which)

no_identifier : (word : List ℕ) → is_identifier word ≡ false → ¬ (IsIdentifier word)
no_identifier word e is = let t : is_identifier word ≡ true = identifier_again word is in cc

identifier_false : (word : List ℕ) → ¬ (IsIdentifier word) → is_identifier word ≡ false
identifier_false word none = false_from_ne_true (is_identifier word) (λ e. none (identifier_takes word e))

not_true : (t : Bool) → not t ≡ true → t ≡ false
not_true true e = absurd cc
not_true false e = refl

not_false : (t : Bool) → not t ≡ false → t ≡ true
not_false true e = refl
not_false false e = absurd cc

-- ---- the parts of a job, from the last to the first

front_is : (text word : List ℕ) (fault : JobFault) (wrong : Wrong JobFault) → wrong.fault ≡ fault → wrong.left ≡ length text → wrong.length ≡ length word → wrong ≡ at_front fault text word
front_is text word fault wrong is left size = same_wrong wrong (at_front fault text word) is left size

module _ (period : Period) where
  identifier_fails : (delay : ℕ) (text : List ℕ) (wrong : Wrong JobFault) → StopsAt is_blank text → identified period delay text ≡ Err wrong → IdentifierFails text wrong
  identifier_fails delay text wrong stop e =
      elim (bind_err (word_at text) (λ third. completed period delay text third.0 third.1) wrong e) [
        | inl none ↦ inl (missing_is text wrong none)
        | inr third ↦
            let word : List ℕ = third.0.0 in
            let command : List ℕ = third.0.1 in
            let next = next_takes text third.0 stop third.1 in
            elim (guard_err (not (is_identifier word)) (at_front faults.BadIdentifier text word) (cond (is_nothing command) (Err (at_end faults.MissingField)) (Ok (Job period delay word command))) wrong third.2) [
              | inl bad ↦ inr (word, command, next, inl (no_identifier word (not_true (is_identifier word) bad.0), sym bad.1))
              | inr good ↦
                  elim (guard_err (is_nothing command) (at_end faults.MissingField) (Ok (Job period delay word command)) wrong good.1) [
                    | inl none ↦ inr (word, command, next, inr (identifier_takes word (not_false (is_identifier word) good.0), (empty_is command none.0, sym none.1)))
                    | inr some ↦ absurd (ok_no_err (Job period delay word command) wrong some.1)
                  ]
            ]
      ]

  identifier_fails_again : (delay : ℕ) (text : List ℕ) (wrong : Wrong JobFault) → IdentifierFails text wrong → identified period delay text ≡ Err wrong
  identifier_fails_again delay text wrong (inl missing) = rw (missing_again text wrong missing) refl
  identifier_fails_again delay text wrong (inr (word, rest, next, inl (bad, is))) = rw (next_again text word rest next, identifier_false word bad) (ap (λ (f : Wrong JobFault). failed f) (sym is))
  identifier_fails_again delay text wrong (inr (word, rest, next, inr (good, missing))) =
      rw (next_again text word rest next, identifier_again word good, missing.0) (ap (λ (f : Wrong JobFault). failed f) (sym missing.1))

  delay_fails : (text : List ℕ) (wrong : Wrong JobFault) → StopsAt is_blank text → delayed period text ≡ Err wrong → DelayFails text wrong
  delay_fails text wrong stop e =
      elim (bind_err (word_at text) (λ second. marked (length text) (length second.0) (or_fault faults.BadDelay (number_of MAX_DELAY second.0)) >>= λ delay. identified period delay second.1) wrong e) [
        | inl none ↦ inl (missing_is text wrong none)
        | inr second ↦
            let word : List ℕ = second.0.0 in
            let rest : List ℕ = second.0.1 in
            let next = next_takes text second.0 stop second.1 in
            let read : Result ℕ JobFault = or_fault faults.BadDelay (number_of MAX_DELAY word) in
            elim (bind_err (marked (length text) (length word) read) (λ delay. identified period delay rest) wrong second.2) [
              | inl bad ↦
                  let m = marked_err (length text) (length word) read wrong bad in
                  let none = fault_none faults.BadDelay wrong.fault (number_of MAX_DELAY word) m.0 in
                  inr (word, rest, next, inl (no_number MAX_DELAY word none.0, front_is text word faults.BadDelay wrong none.1 m.1 m.2))
              | inr good ↦
                  let is : IsNumber MAX_DELAY word good.0 = number_takes MAX_DELAY word good.0 (fault_some faults.BadDelay (number_of MAX_DELAY word) good.0 (marked_ok (length text) (length word) read good.0 good.1)) in
                  inr (word, rest, next, inr (good.0, is, identifier_fails good.0 rest wrong next.stops good.2))
            ]
      ]

  delay_fails_again : (text : List ℕ) (wrong : Wrong JobFault) → DelayFails text wrong → delayed period text ≡ Err wrong
  delay_fails_again text wrong (inl missing) = rw (missing_again text wrong missing) refl
  delay_fails_again text wrong (inr (word, rest, next, inl (bad, is))) = rw (next_again text word rest next, number_none MAX_DELAY word bad) (ap (λ (f : Wrong JobFault). failed f) (sym is))
  delay_fails_again text wrong (inr (word, rest, next, inr (n, is, fails))) = rw (next_again text word rest next, number_again MAX_DELAY word n is) (identifier_fails_again n rest wrong fails)

job_fails : (text : List ℕ) (wrong : Wrong JobFault) → text ≢ [] → StopsAt is_blank text → job_of text ≡ Err wrong → JobFails text wrong
unfolding job_of
job_fails text wrong some stop e =
    elim (bind_err (word_at text) (λ first. marked (length text) (length first.0) (period_of first.0) >>= λ period. delayed period first.1) wrong e) [
      | inl none ↦ absurd (some (missing_is text wrong none).0)
      | inr first ↦
          let word : List ℕ = first.0.0 in
          let rest : List ℕ = first.0.1 in
          let next = next_takes text first.0 stop first.1 in
          elim (bind_err (marked (length text) (length word) (period_of word)) (λ period. delayed period rest) wrong first.2) [
            | inl bad ↦
                let m = marked_err (length text) (length word) (period_of word) wrong bad in
                (word, rest, next, inl (wrong.fault, period_fails word wrong.fault m.0, front_is text word wrong.fault wrong refl m.1 m.2))
            | inr good ↦ (word, rest, next, inr (good.0, period_takes word good.0 (marked_ok (length text) (length word) (period_of word) good.0 good.1), delay_fails good.0 rest wrong next.stops good.2))
          ]
    ]

job_fails_again : (text : List ℕ) (wrong : Wrong JobFault) → JobFails text wrong → job_of text ≡ Err wrong
unfolding job_of
job_fails_again text wrong (word, rest, next, inl (fault, bad, is)) = rw (next_again text word rest next, period_fails_again word fault bad) (ap (λ (f : Wrong JobFault). failed f) (sym is))
job_fails_again text wrong (word, rest, next, inr (period, is, fails)) = rw (next_again text word rest next, period_again word period is) (delay_fails_again period rest wrong fails)

-- ---- settings

setting_fails : (text : List ℕ) (wrong : Wrong JobFault) → set text (setting_of text) ≡ Err wrong → SettingFails text wrong
setting_fails text wrong e = by_found (setting_of text) refl e
  where
    by_found : (o : Option (List ℕ × List ℕ)) → setting_of text ≡ o → set text o ≡ Err wrong → SettingFails text wrong
    by_found None is e = (λ name value setting. some_none (name, value) (sym (setting_again text name value setting) ∙ is), sym (err_is {A = Entry} (whole faults.BadSetting text) wrong e))
    by_found (Some found) is e = absurd (ok_no_err (Setting found.0 found.1) wrong e)

setting_fails_again : (text : List ℕ) (wrong : Wrong JobFault) → SettingFails text wrong → set text (setting_of text) ≡ Err wrong
setting_fails_again text wrong (none, bad) = by_found (setting_of text) refl
  where
    by_found : (o : Option (List ℕ × List ℕ)) → setting_of text ≡ o → set text o ≡ Err wrong
    by_found None is = ap (λ (f : Wrong JobFault). failed f) (sym bad)
    by_found (Some found) is = absurd (none found.0 found.1 (setting_takes text found.0 found.1 is))

-- ---- a line without its indent

text_fails : (text : List ℕ) (wrong : Wrong JobFault) → StopsAt is_blank text → entry_of text ≡ Err wrong → TextFails text wrong
unfolding entry_of
text_fails [] wrong stop e = absurd (ok_no_err Nothing wrong e)
text_fails (b ∷ bs) wrong stop e = by_hash (nat_eq b 35) refl e
  where
    by_setting : (t : Bool) → begins_setting b ≡ t → nat_eq b 35 ≡ false → is_continued (b ∷ bs) ≡ false → cond t (set (b ∷ bs) (setting_of (b ∷ bs))) (job_of (b ∷ bs)) ≡ failed {A = Entry} wrong → TextFails (b ∷ bs) wrong
    by_setting true is hash ended e = (eqb-false b 35 hash, inr (ends_elsewhere (b ∷ bs) ended, inl (is, setting_fails (b ∷ bs) wrong e)))
    by_setting false is hash ended e = (eqb-false b 35 hash, inr (ends_elsewhere (b ∷ bs) ended, inr (is, job_fails (b ∷ bs) wrong (λ q. cc) stop e)))

    by_hash : (t : Bool) → nat_eq b 35 ≡ t → cond t (Ok Nothing) (cond (is_continued (b ∷ bs)) (Err (last_byte faults.Continued)) (cond (begins_setting b) (set (b ∷ bs) (setting_of (b ∷ bs))) (job_of (b ∷ bs)))) ≡ failed {A = Entry} wrong → TextFails (b ∷ bs) wrong
    by_hash true is e = absurd (ok_no_err Nothing wrong e)
    by_hash false is e =
        elim (guard_err (is_continued (b ∷ bs)) (last_byte faults.Continued) (cond (begins_setting b) (set (b ∷ bs) (setting_of (b ∷ bs))) (job_of (b ∷ bs))) wrong e) [
          | inl continued ↦ (eqb-false b 35 is, inl (continued_takes (b ∷ bs) continued.0, sym continued.1))
          | inr ended ↦ by_setting (begins_setting b) refl is ended.0 ended.1
        ]

text_fails_again : (text : List ℕ) (wrong : Wrong JobFault) → TextFails text wrong → entry_of text ≡ Err wrong
unfolding entry_of
text_fails_again [] wrong none = absurd none
text_fails_again (b ∷ bs) wrong (hash, inl (continued, is)) = rw (ne_eqb b 35 hash, continued_again (b ∷ bs) continued) (ap (λ (f : Wrong JobFault). failed f) (sym is))
text_fails_again (b ∷ bs) wrong (hash, inr (ended, inl (begins, fails))) = rw (ne_eqb b 35 hash, elsewhere_ends (b ∷ bs) ended, begins) (setting_fails_again (b ∷ bs) wrong fails)
text_fails_again (b ∷ bs) wrong (hash, inr (ended, inr (plain, fails))) = rw (ne_eqb b 35 hash, elsewhere_ends (b ∷ bs) ended, plain) (job_fails_again (b ∷ bs) wrong fails)

-- ---- a line

pub line_fails : (line : List ℕ) (wrong : Wrong JobFault) → line_of line ≡ Err wrong → LineFails line wrong
unfolding line_of
line_fails line wrong e =
    let text : List ℕ = after is_blank line in
    elim (guard_err (nat_lt MAX_LINE (length line)) (whole faults.TooLong (drop MAX_LINE line)) (cond (list_any (λ b. nat_eq b 0) line) (Err (at_nul faults.NulByte line)) (entry_of text)) wrong e) [
      | inl long ↦ inl (ltb-true MAX_LINE (length line) long.0, sym long.1)
      | inr short ↦
          elim (guard_err (list_any (λ b. nat_eq b 0) line) (at_nul faults.NulByte line) (entry_of text) wrong short.1) [
            | inl nul ↦ inr (inl (ltb-false MAX_LINE (length line) short.0, nul_takes faults.NulByte line wrong nul.0 (sym nul.1)))
            | inr clean ↦
                inr (inr (
                  ltb-false MAX_LINE (length line) short.0,
                  clean.0,
                  (front is_blank line, text, sym (parts_joined is_blank line), front_passes is_blank line, after_stops is_blank line, text_fails text wrong (after_stops is_blank line) clean.1),
                ))
          ]
    ]

pub line_fails_again : (line : List ℕ) (wrong : Wrong JobFault) → LineFails line wrong → line_of line ≡ Err wrong
unfolding line_of
line_fails_again line wrong (inl (long, is)) = rw (lt-ltb MAX_LINE (length line) long) (ap (λ (f : Wrong JobFault). failed f) (sym is))
line_fails_again line wrong (inr (inl (short, nul))) =
    let n = nul_again faults.NulByte line wrong nul in
    rw (le-ltb MAX_LINE (length line) short, n.0) (ap (λ (f : Wrong JobFault). failed f) (sym n.1))
line_fails_again line wrong (inr (inr (short, clean, (indent, text, parts, blank, stop, fails)))) =
    let trimmed : after is_blank line ≡ text = ap (after is_blank) parts ∙ after_again is_blank indent text blank stop in
    rw (le-ltb MAX_LINE (length line) short, clean, trimmed) (text_fails_again text wrong fails)

-- ---- what is wrong is a part of the line

missing_within : (text : List ℕ) (wrong : Wrong JobFault) → wrong ≡ at_end faults.MissingField → IsWithin text wrong
missing_within text wrong is = (omega (arith, ap (λ (w : Wrong JobFault). w.left) is), omega (arith, ap (λ (w : Wrong JobFault). w.length) is))

front_within : (text word rest : List ℕ) (fault : JobFault) (wrong : Wrong JobFault) → HasNext text word rest → wrong ≡ at_front fault text word → IsWithin text wrong
front_within text word rest fault wrong next is =
    let left = ap (λ (w : Wrong JobFault). w.left) is in
    let size = ap (λ (w : Wrong JobFault). w.length) is in
    let whole = ap (length {A = ℕ}) next.parts ∙ length-append word (next.gap ++ rest) in
    (omega (arith, left), omega (arith, left, size, whole))

rest_within : (text word rest : List ℕ) (wrong : Wrong JobFault) → HasNext text word rest → IsWithin rest wrong → IsWithin text wrong
rest_within text word rest wrong next within = within_longer word (next.gap ++ rest) text wrong next.parts (within_longer next.gap rest (next.gap ++ rest) wrong refl within)

identifier_within : (text : List ℕ) (wrong : Wrong JobFault) → IdentifierFails text wrong → IsWithin text wrong
identifier_within text wrong (inl missing) = missing_within text wrong missing.1
identifier_within text wrong (inr (word, rest, next, inl (bad, is))) = front_within text word rest faults.BadIdentifier wrong next is
identifier_within text wrong (inr (word, rest, next, inr (good, missing))) = missing_within text wrong missing.1

delay_within : (text : List ℕ) (wrong : Wrong JobFault) → DelayFails text wrong → IsWithin text wrong
delay_within text wrong (inl missing) = missing_within text wrong missing.1
delay_within text wrong (inr (word, rest, next, inl (bad, is))) = front_within text word rest faults.BadDelay wrong next is
delay_within text wrong (inr (word, rest, next, inr (n, is, fails))) = rest_within text word rest wrong next (identifier_within rest wrong fails)

job_within : (text : List ℕ) (wrong : Wrong JobFault) → JobFails text wrong → IsWithin text wrong
job_within text wrong (word, rest, next, inl (fault, bad, is)) = front_within text word rest fault wrong next is
job_within text wrong (word, rest, next, inr (period, is, fails)) = rest_within text word rest wrong next (delay_within rest wrong fails)

text_within : (text : List ℕ) (wrong : Wrong JobFault) → TextFails text wrong → IsWithin text wrong
text_within [] wrong none = absurd none
text_within (b ∷ bs) wrong (hash, inl (continued, is)) = (omega (arith, ap (λ (w : Wrong JobFault). w.left) is), omega (arith, ap (λ (w : Wrong JobFault). w.left) is, ap (λ (w : Wrong JobFault). w.length) is))
text_within (b ∷ bs) wrong (hash, inr (ended, inl (begins, (none, bad)))) = whole_within faults.BadSetting (b ∷ bs) wrong (b ∷ bs) (omega arith) bad
text_within (b ∷ bs) wrong (hash, inr (ended, inr (plain, fails))) = job_within (b ∷ bs) wrong fails

pub line_within : (line : List ℕ) (wrong : Wrong JobFault) → LineFails line wrong → IsWithin line wrong
line_within line wrong (inl (long, is)) = whole_within faults.TooLong line wrong (drop MAX_LINE line) (omega (arith, length-drop MAX_LINE line)) is
line_within line wrong (inr (inl (short, nul))) = nul_within faults.NulByte line wrong nul
line_within line wrong (inr (inr (short, clean, (indent, text, parts, blank, stop, fails)))) = within_longer indent text line wrong parts (text_within text wrong fails)
