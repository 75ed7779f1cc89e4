-- Faults of a line: those that are read are its faults, and its faults are read.
use Rattle.std.proofs.Common.{◌≡◌, ◌≢◌, ℕ, ◌+◌, ◌⊎◌, Bool, true, false, cond, nat_eq, nat_lt, List, [], ◌∷◌, ◌++◌, length, drop, Option, Some, None, Result, Ok, Err, refl, sym, ap, ◌∙◌, arith, inl, inr}
use Rattle.std.specs.Prelude.{codes}
use Rattle.std.specs.List.{list_all, list_any, slice_split, join_with_byte}
use Rattle.std.specs.Str.{bytes_eq}
use Rattle.std.proofs.lemmas.Bool.{le-ltb, lt-ltb, ltb-true, ltb-false, eqb-true, eqb-false, ne_eqb}
use Rattle.std.proofs.lemmas.List.{append-nil, length-append, length-drop}
use Rattle.cs_schedule.specs.Times.{Choice, Times}
use Rattle.cs_schedule.specs.declared.part.Part.{Part}
use Rattle.cs_schedule.specs.declared.part.Part.TheVariants as parts
use Rattle.cs_crontab.specs.declared.fault.LineFault.{LineFault}
use Rattle.cs_crontab.specs.declared.fault.LineFault.TheVariants as faults
use Rattle.cs_crontab.specs.declared.table.When.{When}
use Rattle.cs_crontab.specs.declared.table.When.TheVariants.{At, Reboot}
use Rattle.cs_table.specs.declared.limits.TheConstants.{MAX_LINE}
use Rattle.cs_crontab.specs.Crontab.{Entry, Nothing, Setting, Command}
use Rattle.cs_crontab.specs.Format.{is_comma, all_of, counted, times_of_word}
use Rattle.cs_table.specs.Text.{begins_with, front, after, is_blank, is_solid, StopsAt, is_nothing}
use Rattle.cs_table.specs.Setting.{begins_setting}
use Rattle.cs_table.specs.SettingReading.{setting_of}
use Rattle.cs_crontab.specs.Reading.{item_of, items_of, list_of, field_of, field_at, schedule_at, timed, when_of, commanded, word_line, set, entry_of, line_of}
use Rattle.cs_table.specs.declared.fault.Wrong.{Wrong}
use Rattle.cs_table.specs.Wrong.{◌>>=◌, IsWithin, at_end, whole, before, at_nul, marked, moved}
use Rattle.cs_crontab.specs.Grammar.{AreItems, IsWordFor}
use Rattle.cs_crontab.specs.Faults.{IsFieldFault, FieldsFail, five_parts, WordFails, SettingFails, TextFails, LineFails}
use Rattle.cs_table.proofs.Spans.{front_again, after_again, parts_joined, front_passes, after_stops, some_from, some_to, front_some, joined_some}
use Rattle.cs_crontab.proofs.Items.{whole_takes, whole_again}
use Rattle.cs_table.proofs.Results.{bind_ok, bind_err, guard_ok, guard_err, ok_is, err_is, ok_no_err, marked_ok, marked_err, moved_ok, moved_err, empty_is, same_wrong}
use Rattle.cs_table.proofs.Fronts.{length-parts}
use Rattle.cs_table.proofs.Places.{nul_takes, nul_again, nul_within, whole_within, within_longer}
use Rattle.cs_crontab.proofs.Fields.{field_takes, field_again, field_part}
use Rattle.cs_table.proofs.Settings.{setting_takes, setting_again}
use Rattle.cs_crontab.proofs.Entries.{word_takes, word_again, plain_setting}

abbrev failed : {A F : Type 0} → F → Result A F
failed f = Err f

-- ---- items and fields

items_fail : (part : Part) (texts : List (List ℕ)) (wrong : Wrong LineFault) → items_of part texts ≡ Err wrong
    → (before : List (List ℕ)) × (text : List ℕ) × (behind items : List (List ℕ)) × (texts ≡ before ++ (text ∷ behind)) × AreItems part before items × (item_of part text ≡ Err wrong.fault) × (wrong.length ≡ length text)
    × (wrong.left ≡ length (join_with_byte 44 (text ∷ behind)))
unfolding items_of
items_fail part [] wrong e = absurd (ok_no_err [] wrong e)
items_fail part (text ∷ texts) wrong e =
    let left : ℕ = length (join_with_byte 44 (text ∷ texts)) in
    elim (bind_err (marked left (length text) (item_of part text)) (λ item. items_of part texts >>= λ items. Ok (item ∷ items)) wrong e) [
      | inl here ↦ let m = marked_err left (length text) (item_of part text) wrong here in ([], text, texts, [], refl, refl, m.0, m.2, m.1)
      | inr rest ↦
          elim (bind_err (items_of part texts) (λ items. Ok (rest.0 ∷ items)) wrong rest.2) [
            | inl later ↦
                let more = items_fail part texts wrong later in
                let first = whole_takes part text rest.0 (marked_ok left (length text) (item_of part text) rest.0 rest.1) in
                (text ∷ more.0, more.1, more.2, rest.0 ∷ more.3, ap (λ (ts : List (List ℕ)). text ∷ ts) more.4, (rest.0, more.3, first, more.5, refl), more.6, more.7, more.8)
            | inr none ↦ absurd (ok_no_err (rest.0 ∷ none.0) wrong none.2)
          ]
    ]

items_fail_again : (part : Part) (before behind items : List (List ℕ)) (text : List ℕ) (wrong : Wrong LineFault) → AreItems part before items → item_of part text ≡ Err wrong.fault → wrong.length ≡ length text → wrong.left ≡ length (join_with_byte 44 (text ∷ behind))
    → items_of part (before ++ (text ∷ behind)) ≡ Err wrong
unfolding items_of
items_fail_again part [] behind items text wrong none fails size left =
    rw fails (ap (λ (w : Wrong LineFault). failed w) (same_wrong (record { fault = wrong.fault; left = length (join_with_byte 44 (text ∷ behind)); length = length text }) wrong refl (sym left) (sym size)))
items_fail_again part (b ∷ bs) behind items text wrong (numbers, others, first, more, is) fails size left =
    rw (whole_again part b numbers first, items_fail_again part bs behind others text wrong more fails size left) refl

pub field_fails : (part : Part) (word : List ℕ) (wrong : Wrong LineFault) → field_of part word ≡ Err wrong → IsFieldFault part word wrong
unfolding field_of list_of
field_fails part word wrong e =
    elim (bind_err (items_of part (slice_split is_comma word) >>= λ items. Ok (all_of items)) (λ numbers. Ok (record { star = begins_with 42 word; numbers = counted part numbers })) wrong e) [
      | inl list ↦
          elim (bind_err (items_of part (slice_split is_comma word)) (λ items. Ok (all_of items)) wrong list) [
            | inl items ↦ items_fail part (slice_split is_comma word) wrong items
            | inr none ↦ absurd (ok_no_err (all_of none.0) wrong none.2)
          ]
      | inr none ↦ absurd (ok_no_err (record { star = begins_with 42 word; numbers = counted part none.0 }) wrong none.2)
    ]

field_fails_again : (part : Part) (word : List ℕ) (wrong : Wrong LineFault) → IsFieldFault part word wrong → field_of part word ≡ Err wrong
unfolding field_of list_of
field_fails_again part word wrong (before, text, behind, items, parted, are, fails, size, left) = rw (parted, items_fail_again part before behind items text wrong are fails size left) refl

-- ---- fields one after the other

bind_assoc : {A B C F : Type 0} (r : Result A F) (f : A → Result B F) (g : B → Result C F) → ((r >>= f) >>= g) ≡ (r >>= λ x. f x >>= g)
bind_assoc (Ok x) f g = refl
bind_assoc (Err e) f g = refl

read_fields : List Part → List ℕ → Result (List ℕ) (Wrong LineFault)
read_fields [] text = Ok text
read_fields (part ∷ parts) text = field_at part text >>= λ x. read_fields parts x.1

abbrev ends : List ℕ → Result (List ℕ) (Wrong LineFault)
ends text = cond (is_nothing text) (Err (at_end faults.NoCommand)) (Ok text)

fields_fail : (ps : List Part) (text : List ℕ) (wrong : Wrong LineFault) → StopsAt is_blank text → (read_fields ps text >>= ends) ≡ Err wrong → FieldsFail ps text wrong
unfolding read_fields field_at
fields_fail [] text wrong stop e =
    elim (guard_err (is_nothing text) (at_end faults.NoCommand) (Ok text) wrong e) [
      | inl none ↦ (empty_is text none.0, sym none.1)
      | inr some ↦ absurd (ok_no_err text wrong some.1)
    ]
fields_fail (part ∷ ps) text wrong stop e =
    let word : List ℕ = front is_solid text in
    let behind : List ℕ = after is_solid text in
    let rest : List ℕ = after is_blank behind in
    let read : Result (Choice × List ℕ) (Wrong LineFault) = cond (is_nothing text) (Err (at_end faults.MissingField)) (moved (length behind) (field_of part word) >>= λ field. Ok (field, rest)) in
    elim (bind_err read (λ x. read_fields ps x.1 >>= ends) wrong (sym (bind_assoc read (λ x. read_fields ps x.1) ends) ∙ e)) [
      | inl here ↦
          elim (guard_err (is_nothing text) (at_end faults.MissingField) (moved (length behind) (field_of part word) >>= λ field. Ok (field, rest)) wrong here) [
            | inl none ↦ inl (empty_is text none.0, sym none.1)
            | inr some ↦
                elim (bind_err (moved (length behind) (field_of part word)) (λ field. Ok (field, rest)) wrong some.1) [
                  | inl fails ↦
                      let m = moved_err (length behind) (field_of part word) wrong fails in
                      inr (word, behind, sym (parts_joined is_solid text), (front_passes is_solid text, front_some text (some_from text some.0) stop), after_stops is_solid text, inl (m.0, field_fails part word m.0 m.1, m.2))
                  | inr none ↦ absurd (ok_no_err (none.0, rest) wrong none.2)
                ]
          ]
      | inr fine ↦
          let g = guard_ok (is_nothing text) (at_end faults.MissingField) (moved (length behind) (field_of part word) >>= λ field. Ok (field, rest)) fine.0 fine.1 in
          let one = bind_ok (moved (length behind) (field_of part word)) (λ field. Ok (field, rest)) fine.0 g.1 in
          let rest-is : rest ≡ fine.0.1 = ap (λ (x : Choice × List ℕ). x.1) (ok_is (one.0, rest) fine.0 one.2) in
          let more = fields_fail ps rest wrong (after_stops is_blank behind) (ap (λ (l : List ℕ). read_fields ps l >>= ends) rest-is ∙ fine.2) in
          inr (
            word,
            behind,
            sym (parts_joined is_solid text),
            (front_passes is_solid text, front_some text (some_from text g.0) stop),
            after_stops is_solid text,
            inr (front is_blank behind, rest, one.0, sym (parts_joined is_blank behind), front_passes is_blank behind, after_stops is_blank behind, field_takes part word one.0 (moved_ok (length behind) (field_of part word) one.0 one.1), more),
          )
    ]

fields_fail_again : (ps : List Part) (text : List ℕ) (wrong : Wrong LineFault) → FieldsFail ps text wrong → (read_fields ps text >>= ends) ≡ Err wrong
unfolding read_fields field_at
fields_fail_again [] text wrong (empty, is) = ap ends empty ∙ ap (λ (f : Wrong LineFault). failed f) (sym is)
fields_fail_again (part ∷ ps) text wrong (inl (empty, is)) = ap (λ (l : List ℕ). read_fields (part ∷ ps) l >>= ends) empty ∙ ap (λ (f : Wrong LineFault). failed f) (sym is)
fields_fail_again (part ∷ ps) text wrong (inr (word, behind, is, solid, stop, inl (inner, fails, at))) =
    ap (λ (l : List ℕ). read_fields (part ∷ ps) l >>= ends) is
    ∙ rw (some_to (word ++ behind) (joined_some word behind solid.1), front_again is_solid word behind solid.0 stop, after_again is_solid word behind solid.0 stop, field_fails_again part word inner fails) (ap (λ (f : Wrong LineFault). failed f) (sym at))
fields_fail_again (part ∷ ps) text wrong (inr (word, behind, is, solid, stop, inr (gap, rest, field, parts, blank, stops, written, more))) =
    let left : after is_blank behind ≡ rest = ap (after is_blank) parts ∙ after_again is_blank gap rest blank stops in
    ap (λ (l : List ℕ). read_fields (part ∷ ps) l >>= ends) is
    ∙ rw (some_to (word ++ behind) (joined_some word behind solid.1), front_again is_solid word behind solid.0 stop, after_again is_solid word behind solid.0 stop, field_again part word field written, left) (fields_fail_again ps rest wrong more)

field_read : (part : Part) (ps : List Part) (text : List ℕ) (next : Choice × List ℕ → Result (Times × List ℕ) (Wrong LineFault)) → ((x : Choice × List ℕ) → (next x >>= λ found. Ok found.1) ≡ read_fields ps x.1)
    → ((field_at part text >>= next) >>= λ found. Ok found.1) ≡ read_fields (part ∷ ps) text
unfolding read_fields
field_read part ps text next same = by_read (field_at part text)
  where
    by_read : (r : Result (Choice × List ℕ) (Wrong LineFault)) → ((r >>= next) >>= λ found. Ok found.1) ≡ (r >>= λ x. read_fields ps x.1)
    by_read (Ok x) = same x
    by_read (Err e) = refl

-- the five fields of a schedule are read as a list of fields
schedule_fields : (text : List ℕ) → (schedule_at text >>= λ found. Ok found.1) ≡ read_fields five_parts text
unfolding schedule_at read_fields
schedule_fields text =
    field_read parts.Minute (parts.Hour ∷ parts.Dom ∷ parts.Month ∷ parts.Dow ∷ []) text _ (λ minute.
    field_read parts.Hour (parts.Dom ∷ parts.Month ∷ parts.Dow ∷ []) minute.1 _ (λ hour.
    field_read parts.Dom (parts.Month ∷ parts.Dow ∷ []) hour.1 _ (λ dom. field_read parts.Month (parts.Dow ∷ []) dom.1 _ (λ month. field_read parts.Dow [] month.1 _ (λ dow. refl)))))

ended : (r : Result (Times × List ℕ) (Wrong LineFault)) (wrong : Wrong LineFault) → ((r >>= λ found. commanded (At found.0) found.1) ≡ Err wrong → ((r >>= λ found. Ok found.1) >>= ends) ≡ Err wrong) × (((r >>= λ found. Ok found.1) >>= ends) ≡ Err wrong → (r >>= λ found. commanded (At found.0) found.1) ≡ Err wrong)
ended (Ok found) wrong = by_room (is_nothing found.1)
  where
    by_room : (t : Bool) → (cond t (Err (at_end faults.NoCommand)) (Ok (Command (At found.0) found.1)) ≡ failed {A = Entry} wrong → cond t (Err (at_end faults.NoCommand)) (Ok found.1) ≡ failed {A = List ℕ} wrong) × (cond t (Err (at_end faults.NoCommand)) (Ok found.1) ≡ failed {A = List ℕ} wrong → cond t (Err (at_end faults.NoCommand)) (Ok (Command (At found.0) found.1)) ≡ failed {A = Entry} wrong)
    by_room true = (λ e. ap (λ (f : Wrong LineFault). failed f) (err_is {A = Entry} (at_end faults.NoCommand) wrong e), λ e. ap (λ (f : Wrong LineFault). failed f) (err_is {A = List ℕ} (at_end faults.NoCommand) wrong e))
    by_room false = (λ e. absurd (ok_no_err (Command (At found.0) found.1) wrong e), λ e. absurd (ok_no_err found.1 wrong e))
ended (Err g) wrong = (λ e. ap (λ (f : Wrong LineFault). failed f) (err_is {A = Entry} g wrong e), λ e. ap (λ (f : Wrong LineFault). failed f) (err_is {A = List ℕ} g wrong e))

-- ---- words

unknown_is : (word : List ℕ) (fault : LineFault) → when_of word ≡ Err fault → fault ≡ faults.UnknownWord
unfolding when_of
unknown_is word fault e = by_reboot (bytes_eq word (codes "reboot")) (times_of_word word) e
  where
    by_reboot : (t : Bool) (o : Option Times) → cond t (Ok Reboot) (timed o) ≡ failed {A = When} fault → fault ≡ faults.UnknownWord
    by_reboot true o e = absurd (ok_no_err Reboot fault e)
    by_reboot false None e = sym (err_is {A = When} faults.UnknownWord fault e)
    by_reboot false (Some s) e = absurd (ok_no_err (At s) fault e)

word_fails : (text : List ℕ) (wrong : Wrong LineFault) → word_line text ≡ Err wrong → WordFails text wrong
unfolding word_line
word_fails text wrong e =
    let word : List ℕ = front is_solid text in
    let behind : List ℕ = after is_solid text in (
      word,
      behind,
      sym (parts_joined is_solid text),
      front_passes is_solid text,
      after_stops is_solid text,
      elim (bind_err (marked (length text + 1) (length word + 1) (when_of word)) (λ when. commanded when (after is_blank behind)) wrong e) [
        | inl unknown ↦
            let m = marked_err (length text + 1) (length word + 1) (when_of word) wrong unknown in
            let size = length-parts is_solid text in
            inl (
              same_wrong wrong (before behind faults.UnknownWord (64 ∷ word)) (unknown_is word wrong.fault m.0) (omega (arith, m.1, size)) (omega (arith, m.2)),
              λ when is. ok_no_err when wrong.fault (sym (word_again word when is) ∙ m.0),
            )
        | inr known ↦
            elim (guard_err (is_nothing (after is_blank behind)) (at_end faults.NoCommand) (Ok (Command known.0 (after is_blank behind))) wrong known.2) [
              | inl none ↦
                  let empty : after is_blank behind ≡ [] = empty_is (after is_blank behind) none.0 in
                  let whole : front is_blank behind ≡ behind = sym (append-nil (front is_blank behind)) ∙ ap (λ (l : List ℕ). front is_blank behind ++ l) (sym empty) ∙ parts_joined is_blank behind in
                  inr (sym none.1, ap (list_all is_blank) (sym whole) ∙ front_passes is_blank behind, (known.0, (word_takes word known.0 (marked_ok (length text + 1) (length word + 1) (when_of word) known.0 known.1)).1))
              | inr some ↦ absurd (ok_no_err (Command known.0 (after is_blank behind)) wrong some.1)
            ]
      ],
    )

unknown_again : (word : List ℕ) → ((when : When) → IsWordFor word when → ⊥) → when_of word ≡ Err faults.UnknownWord
unknown_again word none = by_read (when_of word) refl
  where
    by_read : (r : Result When LineFault) → when_of word ≡ r → r ≡ Err faults.UnknownWord
    by_read (Ok when) is = absurd (none when (word_takes word when is).1)
    by_read (Err f) is = ap (λ (g : LineFault). failed g) (unknown_is word f is)

word_fails_again : (text : List ℕ) (wrong : Wrong LineFault) → WordFails text wrong → word_line text ≡ Err wrong
unfolding word_line
word_fails_again text wrong (word, behind, is, solid, stop, inl (unknown, none)) =
    let here : Wrong LineFault = record { fault = faults.UnknownWord; left = length (word ++ behind) + 1; length = length word + 1 } in
    let same : here ≡ before behind faults.UnknownWord (64 ∷ word) = same_wrong here (before behind faults.UnknownWord (64 ∷ word)) refl (omega (arith, length-append word behind)) (omega arith) in
    ap word_line is ∙ rw (front_again is_solid word behind solid stop, unknown_again word none) (ap (λ (f : Wrong LineFault). failed f) (same ∙ sym unknown))
word_fails_again text wrong (word, behind, is, solid, stop, inr (nothing, blank, (when, known))) =
    let empty : after is_blank behind ≡ [] = ap (after is_blank) (sym (append-nil behind)) ∙ after_again is_blank behind [] blank tt in
    ap word_line is
    ∙ rw (front_again is_solid word behind solid stop, after_again is_solid word behind solid stop, word_again word when known, empty) (ap (λ (f : Wrong LineFault). failed f) (sym nothing))

-- ---- settings

setting_fails : (text : List ℕ) (wrong : Wrong LineFault) → set text (setting_of text) ≡ Err wrong → SettingFails text wrong
setting_fails text wrong e = by_found (setting_of text) refl e
  where
    some_none : (x : List ℕ × List ℕ) → ◌≡◌ {A = Option (List ℕ × List ℕ)} (Some x) None → ⊥
    some_none x e = cc

    by_found : (o : Option (List ℕ × List ℕ)) → setting_of text ≡ o → set text o ≡ Err wrong → SettingFails text wrong
    by_found None is e = (sym (err_is {A = Entry} (whole faults.BadSetting text) wrong e), λ name value setting. some_none (name, value) (sym (setting_again text name value setting) ∙ is))
    by_found (Some found) is e = absurd (ok_no_err (Setting found.0 found.1) wrong e)

setting_fails_again : (text : List ℕ) (wrong : Wrong LineFault) → SettingFails text wrong → set text (setting_of text) ≡ Err wrong
setting_fails_again text wrong (bad, none) = by_found (setting_of text) refl
  where
    by_found : (o : Option (List ℕ × List ℕ)) → setting_of text ≡ o → set text o ≡ Err wrong
    by_found None is = ap (λ (f : Wrong LineFault). failed f) (sym bad)
    by_found (Some found) is = absurd (none found.0 found.1 (setting_takes text found.0 found.1 is))

-- ---- a line without its indent

text_fails : (text : List ℕ) (wrong : Wrong LineFault) → StopsAt is_blank text → entry_of text ≡ Err wrong → TextFails text wrong
unfolding entry_of
text_fails [] wrong stop e = absurd (ok_no_err Nothing wrong e)
text_fails (b ∷ bs) wrong stop e = by_hash (nat_eq b 35) refl e
  where
    fields : Result Entry (Wrong LineFault)
    fields = schedule_at (b ∷ bs) >>= λ found. commanded (At found.0) found.1

    by_setting : (t : Bool) → begins_setting b ≡ t → nat_eq b 35 ≡ false → nat_eq b 64 ≡ false → cond t (set (b ∷ bs) (setting_of (b ∷ bs))) (schedule_at (b ∷ bs) >>= λ found. commanded (At found.0) found.1) ≡ failed {A = Entry} wrong → TextFails (b ∷ bs) wrong
    by_setting true is hash word e = inr (inl (is, setting_fails (b ∷ bs) wrong e))
    by_setting false is hash word e =
        inr (inr (
          eqb-false b 35 hash,
          eqb-false b 64 word,
          is,
          fields_fail five_parts (b ∷ bs) wrong stop (ap (λ r. r >>= ends) (sym (schedule_fields (b ∷ bs))) ∙ (ended (schedule_at (b ∷ bs)) wrong).0 e),
        ))

    by_word : (t : Bool) → nat_eq b 64 ≡ t → nat_eq b 35 ≡ false → cond t (word_line bs) (cond (begins_setting b) (set (b ∷ bs) (setting_of (b ∷ bs))) (schedule_at (b ∷ bs) >>= λ found. commanded (At found.0) found.1)) ≡ failed {A = Entry} wrong → TextFails (b ∷ bs) wrong
    by_word true is hash e = inl (eqb-true b 64 is, word_fails bs wrong e)
    by_word false is hash e = by_setting (begins_setting b) refl hash is e

    by_hash : (t : Bool) → nat_eq b 35 ≡ t → cond t (Ok Nothing) (cond (nat_eq b 64) (word_line bs) (cond (begins_setting b) (set (b ∷ bs) (setting_of (b ∷ bs))) (schedule_at (b ∷ bs) >>= λ found. commanded (At found.0) found.1))) ≡ failed {A = Entry} wrong → TextFails (b ∷ bs) wrong
    by_hash true is e = absurd (ok_no_err Nothing wrong e)
    by_hash false is e = by_word (nat_eq b 64) refl is e

text_fails_again : (text : List ℕ) (wrong : Wrong LineFault) → TextFails text wrong → entry_of text ≡ Err wrong
unfolding entry_of
text_fails_again [] wrong none = absurd none
text_fails_again (b ∷ bs) wrong (inl (is, fails)) = ap (λ (c : ℕ). entry_of (c ∷ bs)) is ∙ word_fails_again bs wrong fails
text_fails_again (b ∷ bs) wrong (inr (inl (begins, fails))) = let p = plain_setting b begins in rw (p.0, p.1, begins) (setting_fails_again (b ∷ bs) wrong fails)
text_fails_again (b ∷ bs) wrong (inr (inr (hash, word, plain, fails))) =
    rw (ne_eqb b 35 hash, ne_eqb b 64 word, plain) ((ended (schedule_at (b ∷ bs)) wrong).1 (ap (λ r. r >>= ends) (schedule_fields (b ∷ bs)) ∙ fields_fail_again five_parts (b ∷ bs) wrong fails))

-- ---- a line

pub line_fails : (line : List ℕ) (wrong : Wrong LineFault) → line_of line ≡ Err wrong → LineFails line wrong
unfolding line_of
line_fails line wrong e =
    let text : List ℕ = after is_blank line in
    elim (guard_err (nat_lt MAX_LINE (length line)) (whole faults.TooLong (drop MAX_LINE line)) (cond (list_any (λ b. nat_eq b 0) line) (Err (at_nul faults.NulByte line)) (entry_of text)) wrong e) [
      | inl long ↦ inl (ltb-true MAX_LINE (length line) long.0, sym long.1)
      | inr short ↦
          elim (guard_err (list_any (λ b. nat_eq b 0) line) (at_nul faults.NulByte line) (entry_of text) wrong short.1) [
            | inl nul ↦ inr (inl (ltb-false MAX_LINE (length line) short.0, nul_takes faults.NulByte line wrong nul.0 (sym nul.1)))
            | inr clean ↦
                inr (inr (
                  ltb-false MAX_LINE (length line) short.0,
                  clean.0,
                  (front is_blank line, text, sym (parts_joined is_blank line), front_passes is_blank line, after_stops is_blank line, text_fails text wrong (after_stops is_blank line) clean.1),
                ))
          ]
    ]

pub line_fails_again : (line : List ℕ) (wrong : Wrong LineFault) → LineFails line wrong → line_of line ≡ Err wrong
unfolding line_of
line_fails_again line wrong (inl (long, is)) = rw (lt-ltb MAX_LINE (length line) long) (ap (λ (f : Wrong LineFault). failed f) (sym is))
line_fails_again line wrong (inr (inl (short, nul))) =
    let n = nul_again faults.NulByte line wrong nul in
    rw (le-ltb MAX_LINE (length line) short, n.0) (ap (λ (f : Wrong LineFault). failed f) (sym n.1))
line_fails_again line wrong (inr (inr (short, clean, (indent, text, parts, blank, stop, fails)))) =
    let trimmed : after is_blank line ≡ text = ap (after is_blank) parts ∙ after_again is_blank indent text blank stop in
    rw (le-ltb MAX_LINE (length line) short, clean, trimmed) (text_fails_again text wrong fails)

-- ---- what is wrong is a part of the line

at_end_within : (fault : LineFault) (text : List ℕ) (wrong : Wrong LineFault) → wrong ≡ at_end fault → IsWithin text wrong
at_end_within fault text wrong is = (omega (arith, ap (λ (w : Wrong LineFault). w.left) is), omega (arith, ap (λ (w : Wrong LineFault). w.length) is))

fields_within : (ps : List Part) (text : List ℕ) (wrong : Wrong LineFault) → FieldsFail ps text wrong → IsWithin text wrong
fields_within [] text wrong (empty, is) = at_end_within faults.NoCommand text wrong is
fields_within (part ∷ ps) text wrong (inl (empty, is)) = at_end_within faults.MissingField text wrong is
fields_within (part ∷ ps) text wrong (inr (word, behind, is, solid, stop, inl (inner, fails, at))) =
    let p = field_part part word inner (field_fails_again part word inner fails) in
    let size = ap (length {A = ℕ}) is ∙ length-append word behind in
    (omega (arith, p.0, size, ap (λ (w : Wrong LineFault). w.left) at), omega (arith, p.1, ap (λ (w : Wrong LineFault). w.left) at, ap (λ (w : Wrong LineFault). w.length) at))
fields_within (part ∷ ps) text wrong (inr (word, behind, is, solid, stop, inr (gap, rest, field, parts, blank, stops, written, more))) =
    within_longer word behind text wrong is (within_longer gap rest behind wrong parts (fields_within ps rest wrong more))

text_within : (text : List ℕ) (wrong : Wrong LineFault) → TextFails text wrong → IsWithin text wrong
text_within [] wrong none = absurd none
text_within (b ∷ bs) wrong (inl (at, (word, behind, is, solid, stop, inl (unknown, none)))) =
    let size = ap (length {A = ℕ}) is ∙ length-append word behind in
    (omega (arith, size, ap (λ (w : Wrong LineFault). w.left) unknown), omega (arith, ap (λ (w : Wrong LineFault). w.left) unknown, ap (λ (w : Wrong LineFault). w.length) unknown))
text_within (b ∷ bs) wrong (inl (at, (word, behind, is, solid, stop, inr (nothing, blank, known)))) = at_end_within faults.NoCommand (b ∷ bs) wrong nothing
text_within (b ∷ bs) wrong (inr (inl (begins, (bad, none)))) = whole_within faults.BadSetting (b ∷ bs) wrong (b ∷ bs) (omega arith) bad
text_within (b ∷ bs) wrong (inr (inr (hash, word, plain, fails))) = fields_within five_parts (b ∷ bs) wrong fails

pub line_within : (line : List ℕ) (wrong : Wrong LineFault) → LineFails line wrong → IsWithin line wrong
line_within line wrong (inl (long, is)) = whole_within faults.TooLong line wrong (drop MAX_LINE line) (omega (arith, length-drop MAX_LINE line)) is
line_within line wrong (inr (inl (short, nul))) = nul_within faults.NulByte line wrong nul
line_within line wrong (inr (inr (short, clean, (indent, text, parts, blank, stop, fails)))) = within_longer indent text line wrong parts (text_within text wrong fails)
