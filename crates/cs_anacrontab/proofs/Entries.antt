-- Lines: what is read is written so, and what is written so is read.
use Rattle.std.proofs.Common.{◌≡◌, ◌≢◌, ℕ, ◌⊎◌, Bool, true, false, cond, not, nat_eq, nat_lt, List, [], ◌∷◌, ◌++◌, length, drop, Option, Some, None, Result, Ok, Err, refl, sym, ap, subst, ◌∙◌, arith, inl, inr}
use Rattle.std.specs.List.{list_any}
use Rattle.std.proofs.lemmas.Bool.{le-ltb, ltb-false, eqb-true}
use Rattle.std.proofs.lemmas.Bool.Decides.{nat_tests}
use Rattle.cs_table.specs.declared.limits.TheConstants.{MAX_LINE}
use Rattle.cs_table.specs.Setting.{begins_setting, begins_as_setting, IsSetting}
use Rattle.cs_table.specs.SettingReading.{setting_of}
use Rattle.cs_table.specs.Text.{front, after, is_blank, StopsAt, is_nothing}
use Rattle.cs_table.proofs.Spans.{some_from, some_to, after_again, parts_joined, front_passes, after_stops}
use Rattle.cs_table.proofs.Settings.{setting_takes, setting_again}
use Rattle.cs_anacrontab.specs.declared.limits.TheConstants.{MAX_DELAY}
use Rattle.cs_anacrontab.specs.declared.period.Period.{Period}
use Rattle.cs_anacrontab.specs.declared.fault.JobFault.{JobFault}
use Rattle.cs_anacrontab.specs.declared.fault.JobFault.TheVariants as faults
use Rattle.cs_anacrontab.specs.Anacrontab.{Entry, Nothing, Setting, Job}
use Rattle.cs_anacrontab.specs.Reading.{number_of, or_fault, period_of, is_identifier, is_continued, word_at, completed, job_of, set, entry_of, line_of}
use Rattle.cs_table.specs.declared.fault.Wrong.{Wrong}
use Rattle.cs_table.specs.Wrong.{◌>>=◌, at_end, at_front, at_nul, last_byte, whole, marked}
use Rattle.cs_table.proofs.Results.{bind_ok, guard_ok, ok_is, marked_ok}
use Rattle.cs_anacrontab.specs.Grammar.{IsIdentifier, IsJob, IsContinued, TextSays, Says}
use Rattle.cs_anacrontab.proofs.Parts.{fault_some, number_takes, number_again, begins_job, Begins, period_begins, period_takes, period_again, identifier_takes, identifier_again, word_some, word_takes, word_again, ends_elsewhere, elsewhere_ends}

abbrev said : Entry → Result Entry (Wrong JobFault)
said x = Ok x

-- ---- jobs

completed_takes : (period : Period) (delay : ℕ) (text identifier command : List ℕ) (x : Entry) → completed period delay text identifier command ≡ Ok x → IsIdentifier identifier × (command ≢ []) × (Job period delay identifier command ≡ x)
completed_takes period delay text identifier command x e =
    let one = guard_ok (not (is_identifier identifier)) (at_front faults.BadIdentifier text identifier) (cond (is_nothing command) (Err (at_end faults.MissingField)) (Ok (Job period delay identifier command))) x e in
    let two = guard_ok (is_nothing command) (at_end faults.MissingField) (Ok (Job period delay identifier command)) x one.1 in
    (identifier_takes identifier (not_false (is_identifier identifier) one.0), some_from command two.0, ok_is (Job period delay identifier command) x two.1)
  where
    not_false : (t : Bool) → not t ≡ false → t ≡ true
    not_false true e = refl
    not_false false e = absurd cc

abbrev pub identified : Period → ℕ → List ℕ → Result Entry (Wrong JobFault)
identified period delay text = word_at text >>= λ third. completed period delay text third.0 third.1

abbrev pub delayed : Period → List ℕ → Result Entry (Wrong JobFault)
delayed period text = word_at text >>= λ second. marked (length text) (length second.0) (or_fault faults.BadDelay (number_of MAX_DELAY second.0)) >>= λ delay. identified period delay second.1

job_takes : (text : List ℕ) (x : Entry) → StopsAt is_blank text → ¬ (IsContinued text) → job_of text ≡ Ok x → TextSays text x
unfolding job_of
job_takes text x stop ended e =
    let a = bind_ok (word_at text) (λ first. marked (length text) (length first.0) (period_of first.0) >>= λ period. delayed period first.1) x e in
    let b = bind_ok (marked (length text) (length a.0.0) (period_of a.0.0)) (λ period. delayed period a.0.1) x a.2 in
    let c = bind_ok (word_at a.0.1) (λ second. marked (length a.0.1) (length second.0) (or_fault faults.BadDelay (number_of MAX_DELAY second.0)) >>= λ delay. identified b.0 delay second.1) x b.2 in
    let d = bind_ok (marked (length a.0.1) (length c.0.0) (or_fault faults.BadDelay (number_of MAX_DELAY c.0.0))) (λ delay. identified b.0 delay c.0.1) x c.2 in
    let f = bind_ok (word_at c.0.1) (λ third. completed b.0 d.0 c.0.1 third.0 third.1) x d.2 in
    let g = completed_takes b.0 d.0 c.0.1 f.0.0 f.0.1 x f.2 in
    let dated = marked_ok (length text) (length a.0.0) (period_of a.0.0) b.0 b.1 in
    let late = marked_ok (length a.0.1) (length c.0.0) (or_fault faults.BadDelay (number_of MAX_DELAY c.0.0)) d.0 d.1 in
    let first = word_takes text a.0 stop a.1 (word_some a.0.1 c.0 c.1) in
    let second = word_takes a.0.1 c.0 first.stops c.1 (word_some c.0.1 f.0 f.1) in
    let made : IsJob text b.0 d.0 f.0.0 f.0.1 =
    record {
      period_word = a.0.0;
      behind_period = a.0.1;
      delay_word = c.0.0;
      behind_delay = c.0.1;
      first = first;
      second = second;
      third = word_takes c.0.1 f.0 second.stops f.1 g.1;
      period_is = period_takes a.0.0 b.0 dated;
      delay_is = number_takes MAX_DELAY c.0.0 d.0 (fault_some faults.BadDelay (number_of MAX_DELAY c.0.0) d.0 late);
      identifier_is = g.0;
      some = g.1;
    }
    in
    subst (TextSays text) g.2 (ended, made)

job_read : (text : List ℕ) (period : Period) (delay : ℕ) (identifier command : List ℕ) → IsJob text period delay identifier command → job_of text ≡ Ok (Job period delay identifier command)
unfolding job_of
job_read text period delay identifier command is =
    rw (word_again text is.period_word is.behind_period is.first, period_again is.period_word period is.period_is, word_again is.behind_period is.delay_word is.behind_delay is.second, number_again MAX_DELAY is.delay_word delay is.delay_is, word_again is.behind_delay identifier command is.third, identifier_again identifier is.identifier_is, some_to command is.some) refl

job_begins : (text : List ℕ) (period : Period) (delay : ℕ) (identifier command : List ℕ) → IsJob text period delay identifier command → Begins text
job_begins text period delay identifier command is =
    let b = period_begins is.period_word period is.period_is in
    let rest : List ℕ = is.first.gap ++ is.behind_period in
    (b.0, b.1 ++ rest, is.first.parts ∙ ap (λ (l : List ℕ). l ++ rest) b.2, b.3)

-- ---- the first byte

plain : (b : ℕ) → begins_job b ≡ true → (nat_eq b 35 ≡ false) × (begins_setting b ≡ false) × (is_blank b ≡ false)
plain b h = (grind (arith, nat_tests), grind (arith, nat_tests), grind (arith, nat_tests))

plain_setting : (b : ℕ) → begins_setting b ≡ true → (nat_eq b 35 ≡ false) × (is_blank b ≡ false)
plain_setting b h = (grind (arith, nat_tests), grind (arith, nat_tests))

-- ---- a line without its indent

set_takes : (text : List ℕ) (x : Entry) → ¬ (IsContinued text) → begins_as_setting text ≡ true → set text (setting_of text) ≡ Ok x → TextSays text x
set_takes text x ended begins e = by_found (setting_of text) refl e
  where
    by_found : (o : Option (List ℕ × List ℕ)) → setting_of text ≡ o → set text o ≡ Ok x → TextSays text x
    by_found None is e = absurd cc
    by_found (Some found) is e = subst (TextSays text) (ok_is (Setting found.0 found.1) x e) (ended, begins, setting_takes text found.0 found.1 is)

entry_takes : (text : List ℕ) (x : Entry) → StopsAt is_blank text → entry_of text ≡ Ok x → TextSays text x
unfolding entry_of
entry_takes [] x stop e = subst (TextSays []) (ok_is Nothing x e) (inl refl)
entry_takes (b ∷ bs) x stop e = by_hash (nat_eq b 35) refl e
  where
    by_setting : (t : Bool) → ¬ (IsContinued (b ∷ bs)) → begins_setting b ≡ t → cond t (set (b ∷ bs) (setting_of (b ∷ bs))) (job_of (b ∷ bs)) ≡ said x → TextSays (b ∷ bs) x
    by_setting true ended is e = set_takes (b ∷ bs) x ended is e
    by_setting false ended is e = job_takes (b ∷ bs) x stop ended e

    by_hash : (t : Bool) → nat_eq b 35 ≡ t → cond t (Ok Nothing) (cond (is_continued (b ∷ bs)) (Err (last_byte faults.Continued)) (cond (begins_setting b) (set (b ∷ bs) (setting_of (b ∷ bs))) (job_of (b ∷ bs)))) ≡ said x → TextSays (b ∷ bs) x
    by_hash true is e = subst (TextSays (b ∷ bs)) (ok_is Nothing x e) (a_comment (ap (λ (c : ℕ). c ∷ bs) (eqb-true b 35 is)))
      where
        a_comment : b ∷ bs ≡ 35 ∷ bs → (b ∷ bs ≡ []) ⊎ ((comment : List ℕ) × (b ∷ bs ≡ 35 ∷ comment))
        a_comment is = inr (bs, is)
    by_hash false is e =
        let g = guard_ok (is_continued (b ∷ bs)) (last_byte faults.Continued) (cond (begins_setting b) (set (b ∷ bs) (setting_of (b ∷ bs))) (job_of (b ∷ bs))) x e in
        by_setting (begins_setting b) (ends_elsewhere (b ∷ bs) g.0) refl g.1

set_again : (text name value : List ℕ) → ¬ (IsContinued text) → begins_as_setting text ≡ true → IsSetting text name value → entry_of text ≡ Ok (Setting name value)
unfolding entry_of
set_again [] name value ended begins is = absurd cc
set_again (b ∷ bs) name value ended begins is =
    let p = plain_setting b begins in
    rw (p.0, elsewhere_ends (b ∷ bs) ended, begins, setting_again (b ∷ bs) name value is) refl

job_again : (text : List ℕ) (period : Period) (delay : ℕ) (identifier command : List ℕ) → ¬ (IsContinued text) → IsJob text period delay identifier command → entry_of text ≡ Ok (Job period delay identifier command)
unfolding entry_of
job_again text period delay identifier command ended is =
    let f = job_begins text period delay identifier command is in
    let p = plain f.0 f.3 in
    let read : job_of (f.0 ∷ f.1) ≡ Ok (Job period delay identifier command) = ap job_of (sym f.2) ∙ job_read text period delay identifier command is in
    let other : is_continued (f.0 ∷ f.1) ≡ false = ap is_continued (sym f.2) ∙ elsewhere_ends text ended in
    ap entry_of f.2 ∙ rw (p.0, other, p.1, read) refl

entry_again : (text : List ℕ) (x : Entry) → TextSays text x → entry_of text ≡ Ok x
unfolding entry_of
entry_again text Nothing (inl empty) = ap entry_of empty
entry_again text Nothing (inr (comment, is)) = ap entry_of is
entry_again text (Setting name value) (ended, begins, is) = set_again text name value ended begins is
entry_again text (Job period delay identifier command) (ended, is) = job_again text period delay identifier command ended is

setting_stops : (text : List ℕ) → begins_as_setting text ≡ true → StopsAt is_blank text
setting_stops [] begins = tt
setting_stops (b ∷ bs) begins = (plain_setting b begins).1

text_stops : (text : List ℕ) (x : Entry) → TextSays text x → StopsAt is_blank text
text_stops text Nothing (inl empty) = rw empty tt
text_stops text Nothing (inr (comment, is)) = rw is refl
text_stops text (Setting name value) (ended, begins, is) = setting_stops text begins
text_stops text (Job period delay identifier command) (ended, is) = let f = job_begins text period delay identifier command is in rw f.2 (plain f.0 f.3).2

-- ---- a line

pub line_takes : (line : List ℕ) (x : Entry) → line_of line ≡ Ok x → Says line x
unfolding line_of
line_takes line x e =
    let text : List ℕ = after is_blank line in
    let g = guard_ok (nat_lt MAX_LINE (length line)) (whole faults.TooLong (drop MAX_LINE line)) (cond (list_any (λ b. nat_eq b 0) line) (Err (at_nul faults.NulByte line)) (entry_of text)) x e in
    let h = guard_ok (list_any (λ b. nat_eq b 0) line) (at_nul faults.NulByte line) (entry_of text) x g.1 in
    record {
      short = ltb-false MAX_LINE (length line) g.0;
      clean = h.0;
      indent = front is_blank line;
      text = text;
      parts = sym (parts_joined is_blank line);
      blank = front_passes is_blank line;
      says = entry_takes text x (after_stops is_blank line) h.1;
    }

-- in a line that says something, the text begins after the blanks
pub line_text : (line : List ℕ) (x : Entry) (is : Says line x) → after is_blank line ≡ is.text
line_text line x is = ap (after is_blank) is.parts ∙ after_again is_blank is.indent is.text is.blank (text_stops is.text x is.says)

pub line_again : (line : List ℕ) (x : Entry) → Says line x → line_of line ≡ Ok x
unfolding line_of
line_again line x is = rw (le-ltb MAX_LINE (length line) is.short, is.clean, line_text line x is) (entry_again is.text x is.says)
