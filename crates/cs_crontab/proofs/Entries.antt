-- Lines: what is read is written so, and what is written so is read.
use Rattle.std.proofs.Common.{◌≡◌, ◌≢◌, ℕ, ◌+◌, ◌⊎◌, Bool, true, false, cond, ◌||◌, nat_eq, nat_lt, List, [], ◌∷◌, ◌++◌, length, drop, Option, Some, None, Result, Ok, Err, refl, sym, ap, subst, ◌∙◌, arith, inl, inr}
use Rattle.std.specs.Prelude.{codes}
use Rattle.std.specs.List.{list_all, list_any, join_with_byte}
use Rattle.std.specs.Str.{bytes_eq}
use Rattle.std.proofs.lemmas.Bool.{le-ltb, ltb-false, eqb-true}
use Rattle.std.proofs.lemmas.Bool.Decides.{nat_tests}
use Rattle.std.proofs.lemmas.Slice.Eq.{bytes_eq-Decides}
use Rattle.cs_schedule.specs.Times.{Times}
use Rattle.cs_schedule.specs.declared.part.Part.TheVariants as parts
use Rattle.cs_crontab.specs.declared.fault.LineFault.{LineFault}
use Rattle.cs_crontab.specs.declared.fault.LineFault.TheVariants as faults
use Rattle.cs_crontab.specs.declared.table.When.{When}
use Rattle.cs_crontab.specs.declared.table.When.TheVariants.{At, Reboot}
use Rattle.cs_table.specs.declared.limits.TheConstants.{MAX_LINE}
use Rattle.cs_crontab.specs.Crontab.{Entry, Nothing, Setting, Command}
use Rattle.cs_table.specs.Setting.{begins_setting, begins_as_setting, IsSetting}
use Rattle.cs_crontab.specs.Format.{times_of_word}
use Rattle.cs_table.specs.SettingReading.{setting_of}
use Rattle.cs_table.specs.Text.{front, after, is_blank, is_solid, is_digit, StopsAt, is_nothing}
use Rattle.cs_crontab.specs.Reading.{schedule_at, timed, when_of, commanded, word_line, set, entry_of, line_of}
use Rattle.cs_table.specs.declared.fault.Wrong.{Wrong}
use Rattle.cs_table.specs.Wrong.{◌>>=◌, at_end, whole, at_nul, marked}
use Rattle.cs_crontab.specs.Grammar.{IsNumber, IsItem, AreItems, AreFields, fields_of, IsWordFor, IsWordLine, TextSays, Says}
use Rattle.cs_table.proofs.Spans.{front_again, after_again, parts_joined, front_passes, after_stops, and_left, some_from, some_to, gap_some, gap_stops}
use Rattle.cs_crontab.proofs.Names.{minute_unnamed}
use Rattle.cs_table.proofs.Results.{bind_ok, guard_ok, ok_is, marked_ok}
use Rattle.cs_table.proofs.Settings.{setting_takes, setting_again}
use Rattle.cs_crontab.proofs.Whole.{schedule_takes, schedule_again}

abbrev said : Entry → Result Entry (Wrong LineFault)
said x = Ok x

abbrev timely : When → Result When LineFault
timely x = Ok x

-- ---- the first byte of a command line

abbrev begins_field : ℕ → Bool
begins_field b = nat_eq b 42 || is_digit b

plain : (b : ℕ) → begins_field b ≡ true → (nat_eq b 35 ≡ false) × (nat_eq b 64 ≡ false) × (begins_setting b ≡ false) × (is_blank b ≡ false)
plain b h = (grind (arith, nat_tests), grind (arith, nat_tests), grind (arith, nat_tests), grind (arith, nat_tests))

pub plain_setting : (b : ℕ) → begins_setting b ≡ true → (nat_eq b 35 ≡ false) × (nat_eq b 64 ≡ false) × (is_blank b ≡ false)
plain_setting b h = (grind (arith, nat_tests), grind (arith, nat_tests), grind (arith, nat_tests))

digit_begins : (b : ℕ) → is_digit b ≡ true → begins_field b ≡ true
digit_begins b digit = rw digit (any_true (nat_eq b 42))
  where
    any_true : (t : Bool) → (t || true) ≡ true
    any_true true = refl
    any_true false = refl

abbrev Begins : List ℕ → Type 0
Begins text = (b : ℕ) × (more : List ℕ) × (text ≡ b ∷ more) × (begins_field b ≡ true)

minute_first : (x : List ℕ) (n : ℕ) → IsNumber parts.Minute x n → Begins x
minute_first [] n (inl is) = absurd (is.digits.1 refl)
minute_first (b ∷ bs) n (inl is) = (b, bs, refl, digit_begins b (and_left (is_digit b) (list_all is_digit bs) is.digits.0))
minute_first x n (inr (place, three, found, value)) = absurd (minute_unnamed x place found)

item_first : (text numbers : List ℕ) → IsItem parts.Minute text numbers → Begins text
item_first text numbers (inl (step, n, is, stepped, value)) = (42, step, is, refl)
item_first text numbers (inr (inl (a, number, value))) = minute_first text a number
item_first text numbers (inr (inr (x, y, step, a, z, n, is, first, last, ordered, stepped, value))) =
    let f = minute_first x a first in
    (f.0, f.1 ++ (45 ∷ (y ++ step)), is ∙ ap (λ (l : List ℕ). l ++ (45 ∷ (y ++ step))) f.2, f.3)

list_first : (texts items : List (List ℕ)) → texts ≢ [] → AreItems parts.Minute texts items → Begins (join_with_byte 44 texts)
list_first [] items some are = absurd (some refl)
list_first (text ∷ []) items some (numbers, others, first, more, is) = item_first text numbers first
list_first (text ∷ other ∷ texts) items some (numbers, others, first, more, is) =
    let f = item_first text numbers first in
    (f.0, f.1 ++ (44 ∷ join_with_byte 44 (other ∷ texts)), ap (λ (l : List ℕ). l ++ (44 ∷ join_with_byte 44 (other ∷ texts))) f.2, f.3)

fields_first : (s : Times) (text command : List ℕ) → AreFields (fields_of s) text command → Begins text
fields_first s text command (word, gap, rest, is, solid, blank, stop, (texts, items, some, joined, are, value), others) =
    let f = list_first texts items some are in
    (f.0, f.1 ++ (gap ++ rest), is ∙ ap (λ (l : List ℕ). l ++ (gap ++ rest)) (joined ∙ f.2), f.3)

-- ---- a command after its fields or its word

commanded_takes : (when : When) (command : List ℕ) (x : Entry) → commanded when command ≡ Ok x → (command ≢ []) × (Command when command ≡ x)
commanded_takes when command x e =
    let g = guard_ok (is_nothing command) (at_end faults.NoCommand) (Ok (Command when command)) x e in
    (some_from command g.0, ok_is (Command when command) x g.1)

pub word_takes : (word : List ℕ) (when : When) → when_of word ≡ Ok when → (word ≢ []) × IsWordFor word when
unfolding when_of
word_takes word when e = (λ empty. no_word (ap (λ (w : List ℕ). cond (bytes_eq w (codes "reboot")) (Ok Reboot) (timed (times_of_word w))) (sym empty) ∙ e), by_reboot (bytes_eq word (codes "reboot")) refl e)
  where
    no_word : Err faults.UnknownWord ≡ timely when → ⊥
    no_word e = cc

    by_times : (o : Option Times) → times_of_word word ≡ o → timed o ≡ timely when → IsWordFor word when
    by_times None is e = absurd cc
    by_times (Some s) is e = subst (IsWordFor word) (ok_is (At s) when e) is

    by_reboot : (t : Bool) → bytes_eq word (codes "reboot") ≡ t → cond t (Ok Reboot) (timed (times_of_word word)) ≡ timely when → IsWordFor word when
    by_reboot true is e = subst (IsWordFor word) (ok_is Reboot when e) ((bytes_eq-Decides word (codes "reboot")).0 is)
    by_reboot false is e = by_times (times_of_word word) refl e

pub word_again : (word : List ℕ) (when : When) → IsWordFor word when → when_of word ≡ Ok when
unfolding when_of
word_again word (At s) is = rw (not_reboot (bytes_eq word (codes "reboot")) refl, is) refl
  where
    not_reboot : (t : Bool) → bytes_eq word (codes "reboot") ≡ t → t ≡ false
    not_reboot true same =
        let word-is : word ≡ codes "reboot" = (bytes_eq-Decides word (codes "reboot")).0 same in
        let other : times_of_word (codes "reboot") ≡ Some s = ap times_of_word (sym word-is) ∙ is in
        absurd (none_some other)
      where
        none_some : None ≡ Some s → ⊥
        none_some e = cc
    not_reboot false same = refl
word_again word Reboot is = rw is refl

-- ---- a line without its indent

word_line_takes : (bs : List ℕ) (x : Entry) → word_line bs ≡ Ok x → TextSays (64 ∷ bs) x
unfolding word_line
word_line_takes bs x e =
    let word : List ℕ = front is_solid bs in
    let rest : List ℕ = after is_solid bs in
    let command : List ℕ = after is_blank rest in
    let one = bind_ok (marked (length bs + 1) (length word + 1) (when_of word)) (λ when. commanded when command) x e in
    let named = word_takes word one.0 (marked_ok (length bs + 1) (length word + 1) (when_of word) one.0 one.1) in
    let c = commanded_takes one.0 command x one.2 in
    let parts : 64 ∷ bs ≡ 64 ∷ (word ++ (front is_blank rest ++ command)) = ap (λ (l : List ℕ). 64 ∷ l) (sym (parts_joined is_solid bs) ∙ ap (λ (l : List ℕ). word ++ l) (sym (parts_joined is_blank rest))) in
    subst (TextSays (64 ∷ bs)) c.1
    (inr (word, front is_blank rest, parts, (front_passes is_solid bs, named.0), (front_passes is_blank rest, gap_some rest (after_stops is_solid bs) c.0), after_stops is_blank rest, named.1), c.0)

set_takes : (text : List ℕ) (x : Entry) → begins_as_setting text ≡ true → set text (setting_of text) ≡ Ok x → TextSays text x
set_takes text x begins e = by_found (setting_of text) refl e
  where
    by_found : (o : Option (List ℕ × List ℕ)) → setting_of text ≡ o → set text o ≡ Ok x → TextSays text x
    by_found None is e = absurd cc
    by_found (Some found) is e = subst (TextSays text) (ok_is (Setting found.0 found.1) x e) (begins, setting_takes text found.0 found.1 is)

entry_takes : (text : List ℕ) (x : Entry) → StopsAt is_blank text → entry_of text ≡ Ok x → TextSays text x
unfolding entry_of
entry_takes [] x stop e = subst (TextSays []) (ok_is Nothing x e) (inl refl)
entry_takes (b ∷ bs) x stop e = by_hash (nat_eq b 35) refl e
  where
    fields : Result Entry (Wrong LineFault)
    fields = schedule_at (b ∷ bs) >>= λ found. commanded (At found.0) found.1

    by_fields : (schedule_at (b ∷ bs) >>= λ found. commanded (At found.0) found.1) ≡ said x → TextSays (b ∷ bs) x
    by_fields e =
        let k = bind_ok (schedule_at (b ∷ bs)) (λ found. commanded (At found.0) found.1) x e in
        let c = commanded_takes (At k.0.0) k.0.1 x k.2 in
        subst (TextSays (b ∷ bs)) c.1 (inl (schedule_takes (b ∷ bs) k.0 stop k.1 c.0), c.0)

    by_setting : (t : Bool) → begins_setting b ≡ t → cond t (set (b ∷ bs) (setting_of (b ∷ bs))) (schedule_at (b ∷ bs) >>= λ found. commanded (At found.0) found.1) ≡ said x → TextSays (b ∷ bs) x
    by_setting true is e = set_takes (b ∷ bs) x is e
    by_setting false is e = by_fields e

    by_at : (t : Bool) → nat_eq b 64 ≡ t → cond t (word_line bs) (cond (begins_setting b) (set (b ∷ bs) (setting_of (b ∷ bs))) (schedule_at (b ∷ bs) >>= λ found. commanded (At found.0) found.1)) ≡ said x → TextSays (b ∷ bs) x
    by_at true is e = let P : ℕ → Type 0 = λ c. TextSays (c ∷ bs) x in subst P (sym (eqb-true b 64 is)) (word_line_takes bs x e)
    by_at false is e = by_setting (begins_setting b) refl e

    by_hash : (t : Bool) → nat_eq b 35 ≡ t → cond t (Ok Nothing) (cond (nat_eq b 64) (word_line bs) (cond (begins_setting b) (set (b ∷ bs) (setting_of (b ∷ bs))) (schedule_at (b ∷ bs) >>= λ found. commanded (At found.0) found.1))) ≡ said x → TextSays (b ∷ bs) x
    by_hash true is e = subst (TextSays (b ∷ bs)) (ok_is Nothing x e) (inl' (ap (λ (c : ℕ). c ∷ bs) (eqb-true b 35 is)))
      where
        inl' : b ∷ bs ≡ 35 ∷ bs → (b ∷ bs ≡ []) ⊎ ((comment : List ℕ) × (b ∷ bs ≡ 35 ∷ comment))
        inl' is = inr (bs, is)
    by_hash false is e = by_at (nat_eq b 64) refl e

command_again : (text command : List ℕ) (s : Times) → AreFields (fields_of s) text command → command ≢ [] → entry_of text ≡ Ok (Command (At s) command)
unfolding entry_of
command_again text command s fields some =
    let f = fields_first s text command fields in
    let p = plain f.0 f.3 in
    let read : schedule_at (f.0 ∷ f.1) ≡ Ok (s, command) = ap schedule_at (sym f.2) ∙ schedule_again text command s fields in
    ap entry_of f.2 ∙ rw (p.0, p.1, p.2, read, some_to command some) refl

word_line_again : (text command : List ℕ) (when : When) → IsWordLine text when command → command ≢ [] → entry_of text ≡ Ok (Command when command)
unfolding entry_of word_line
word_line_again text command when (word, gap, is, solid, blank, stop, named) some =
    ap entry_of is
    ∙ rw (front_again is_solid word (gap ++ command) solid.0 (gap_stops gap command blank), after_again is_solid word (gap ++ command) solid.0 (gap_stops gap command blank), after_again is_blank gap command blank.0 stop, word_again word when named, some_to command some) refl

set_again : (text name value : List ℕ) → begins_as_setting text ≡ true → IsSetting text name value → entry_of text ≡ Ok (Setting name value)
unfolding entry_of
set_again [] name value begins is = absurd cc
set_again (b ∷ bs) name value begins is = let p = plain_setting b begins in rw (p.0, p.1, begins, setting_again (b ∷ bs) name value is) refl

entry_again : (text : List ℕ) (x : Entry) → TextSays text x → entry_of text ≡ Ok x
unfolding entry_of
entry_again text Nothing (inl empty) = ap entry_of empty
entry_again text Nothing (inr (comment, is)) = ap entry_of is
entry_again text (Setting name value) (begins, is) = set_again text name value begins is
entry_again text (Command (At s) command) (inl fields, some) = command_again text command s fields some
entry_again text (Command Reboot command) (inl none, some) = absurd none
entry_again text (Command when command) (inr word, some) = word_line_again text command when word some

setting_stops : (text : List ℕ) → begins_as_setting text ≡ true → StopsAt is_blank text
setting_stops [] begins = tt
setting_stops (b ∷ bs) begins = (plain_setting b begins).2

text_stops : (text : List ℕ) (x : Entry) → TextSays text x → StopsAt is_blank text
text_stops text Nothing (inl empty) = rw empty tt
text_stops text Nothing (inr (comment, is)) = rw is refl
text_stops text (Setting name value) (begins, is) = setting_stops text begins
text_stops text (Command (At s) command) (inl fields, some) = let f = fields_first s text command fields in rw f.2 (plain f.0 f.3).3
text_stops text (Command Reboot command) (inl none, some) = absurd none
text_stops text (Command when command) (inr (word, gap, is, solid, blank, stop, named), some) = rw is refl

-- ---- a line

pub line_takes : (line : List ℕ) (x : Entry) → line_of line ≡ Ok x → Says line x
unfolding line_of
line_takes line x e =
    let text : List ℕ = after is_blank line in
    let g = guard_ok (nat_lt MAX_LINE (length line)) (whole faults.TooLong (drop MAX_LINE line)) (cond (list_any (λ b. nat_eq b 0) line) (Err (at_nul faults.NulByte line)) (entry_of text)) x e in
    let h = guard_ok (list_any (λ b. nat_eq b 0) line) (at_nul faults.NulByte line) (entry_of text) x g.1 in
    record {
      short = ltb-false MAX_LINE (length line) g.0;
      clean = h.0;
      indent = front is_blank line;
      text = text;
      parts = sym (parts_joined is_blank line);
      blank = front_passes is_blank line;
      says = entry_takes text x (after_stops is_blank line) h.1;
    }

pub line_again : (line : List ℕ) (x : Entry) → Says line x → line_of line ≡ Ok x
unfolding line_of
line_again line x is =
    let trimmed : after is_blank line ≡ is.text = ap (after is_blank) is.parts ∙ after_again is_blank is.indent is.text is.blank (text_stops is.text x is.says) in
    rw (le-ltb MAX_LINE (length line) is.short, is.clean, trimmed) (entry_again is.text x is.says)
