-- The faults that are read are those of the line, and the other way round.
use Rattle.std.proofs.Common.{◌≡◌, ◌≢◌, ℕ, ◌≤◌, true, cond, List, [], ◌++◌, length, Result, Ok, Err, refl, sym, ap, subst, ◌∙◌, arith, inl, inr}
use Rattle.std.specs.List.{list_all, list_any}
use Rattle.std.proofs.lemmas.List.{length-append, append-nil}
use Rattle.cs_table.specs.declared.fault.Wrong.{Wrong}
use Rattle.cs_table.specs.Text.{front, after, is_blank, is_solid, is_nothing, StopsAt}
use Rattle.cs_table.specs.Wrong.{at_end, at_front, before, IsWithin}
use Rattle.cs_table.proofs.Fronts.{length-parts}
use Rattle.cs_table.proofs.Results.{guard_err, err_is, ok_no_err, empty_is, same_wrong}
use Rattle.cs_table.proofs.Spans.{front_again, after_again, parts_joined, front_passes, after_stops, front_some}
use Rattle.cs_crontab.specs.declared.fault.LineFault.{LineFault}
use Rattle.cs_crontab.specs.declared.fault.LineFault.TheVariants.{NoCommand}
use Rattle.cs_crontab.specs.declared.table.When.{When}
use Rattle.cs_crontab.specs.Crontab as users
use Rattle.cs_crontab.specs.Grammar.{Says as UserSays}
use Rattle.cs_crontab.specs.Reading as user_lines
use Rattle.cs_crontab.proofs.Entries as user_entries
use Rattle.cs_crontab.proofs.Failures as user_failures
use Rattle.cs_system.specs.declared.fault.SystemFault.{SystemFault}
use Rattle.cs_system.specs.declared.fault.SystemFault.TheVariants.{Line, BadUser}
use Rattle.cs_system.specs.System.{Entry, Nothing, Setting, Command}
use Rattle.cs_system.specs.Grammar.{is_foreign}
use Rattle.cs_system.specs.Faults.{as_system, UserFails, LineFails}
use Rattle.cs_system.specs.Reading.{command_of, system_line, line_of}
use Rattle.cs_system.proofs.Entries.{command_in}

abbrev failed : Wrong SystemFault → Result Entry (Wrong SystemFault)
failed wrong = Err wrong

-- ---- blanks alone

all_blank : (text : List ℕ) → after is_blank text ≡ [] → list_all is_blank text ≡ true
all_blank text none =
    let whole : front is_blank text ≡ text = sym (append-nil (front is_blank text)) ∙ ap (λ (l : List ℕ). front is_blank text ++ l) (sym none) ∙ parts_joined is_blank text in
    ap (list_all is_blank) (sym whole) ∙ front_passes is_blank text

blank_all : (text : List ℕ) → list_all is_blank text ≡ true → after is_blank text ≡ []
blank_all text all = ap (after is_blank) (sym (append-nil text)) ∙ after_again is_blank text [] all tt

-- ---- a command after its user

command_fails : (when : When) (text : List ℕ) (wrong : Wrong SystemFault) → text ≢ [] → StopsAt is_blank text → command_of when text ≡ Err wrong → UserFails (front is_solid text) (after is_solid text) wrong
command_fails when text wrong some stop e =
    let user : List ℕ = front is_solid text in
    let command : List ℕ = after is_blank (after is_solid text) in
    let whole : Result Entry (Wrong SystemFault) = Ok (Command when user command) in
    elim (guard_err (list_any is_foreign user) (at_front BadUser text user) (cond (is_nothing command) (Err (at_end (Line NoCommand))) whole) wrong e) [
      | inl bad ↦ inl (bad.0, sym bad.1 ∙ same_wrong (at_front BadUser text user) (before (after is_solid text) BadUser user) refl (omega (arith, length-parts is_solid text)) refl)
      | inr good ↦
          elim (guard_err (is_nothing command) (at_end (Line NoCommand)) whole wrong good.1) [
            | inl none ↦ inr (((front_passes is_solid text, front_some text some stop), good.0), all_blank (after is_solid text) (empty_is command none.0), sym none.1)
            | inr there ↦ absurd (ok_no_err (Command when user command) wrong there.1)
          ]
    ]

command_fails_again : (when : When) (word behind : List ℕ) (wrong : Wrong SystemFault) → list_all is_solid word ≡ true → StopsAt is_solid behind → UserFails word behind wrong → command_of when (word ++ behind) ≡ Err wrong
command_fails_again when word behind wrong solid stop (inl (foreign, is)) =
    let same = is ∙ same_wrong (before behind BadUser word) (at_front BadUser (word ++ behind) word) refl (omega (arith, length-append word behind)) refl in
    rw (front_again is_solid word behind solid stop, foreign) (ap failed (sym same))
command_fails_again when word behind wrong solid stop (inr ((are, own), blank, is)) =
    rw (front_again is_solid word behind solid stop, own, after_again is_solid word behind solid stop, blank_all behind blank) (ap failed (sym is))

-- ---- a line

pub line_fails : (line : List ℕ) (wrong : Wrong SystemFault) → line_of line ≡ Err wrong → LineFails line wrong
unfolding line_of
line_fails line wrong e = by_read (user_lines.line_of line) refl e
  where
    by_read : (r : Result users.Entry (Wrong LineFault)) → user_lines.line_of line ≡ r → system_line r ≡ Err wrong → LineFails line wrong
    by_read (Ok users.Nothing) is e = absurd (ok_no_err Nothing wrong e)
    by_read (Ok (users.Setting name value)) is e = absurd (ok_no_err (Setting name value) wrong e)
    by_read (Ok (users.Command when text)) is e =
        let says = user_entries.line_takes line (users.Command when text) is in
        let c = command_in line when text says in
        let parts = sym (parts_joined is_solid text) in
        inr (
          when,
          front is_solid text,
          after is_solid text,
          subst (λ (l : List ℕ). UserSays line (users.Command when l)) parts says,
          (front_passes is_solid text, front_some text c.0 c.1),
          after_stops is_solid text,
          command_fails when text wrong c.0 c.1 e,
        )
    by_read (Err inner) is e = inl (inner, user_failures.line_fails line inner is, sym (err_is {A = Entry} (as_system inner) wrong e))

pub line_fails_again : (line : List ℕ) (wrong : Wrong SystemFault) → LineFails line wrong → line_of line ≡ Err wrong
unfolding line_of
line_fails_again line wrong (inl (inner, fails, is)) = ap system_line (user_failures.line_fails_again line inner fails) ∙ ap failed (sym is)
line_fails_again line wrong (inr (when, word, behind, says, solid, stop, fails)) =
    ap system_line (user_entries.line_again line (users.Command when (word ++ behind)) says) ∙ command_fails_again when word behind wrong solid.0 stop fails

-- ---- a fault is in the line

user_within : (line word behind : List ℕ) (wrong : Wrong SystemFault) → length (word ++ behind) ≤ length line → UserFails word behind wrong → IsWithin line wrong
user_within line word behind wrong short (inl (foreign, is)) =
    (omega (arith, short, length-append word behind, ap (λ (w : Wrong SystemFault). w.left) is), omega (arith, ap (λ (w : Wrong SystemFault). w.left) is, ap (λ (w : Wrong SystemFault). w.length) is))
user_within line word behind wrong short (inr (user, blank, is)) =
    (omega (arith, ap (λ (w : Wrong SystemFault). w.left) is), omega (arith, ap (λ (w : Wrong SystemFault). w.length) is))

pub line_within : (line : List ℕ) (wrong : Wrong SystemFault) → LineFails line wrong → IsWithin line wrong
line_within line wrong (inl (inner, fails, is)) = subst (IsWithin line) (sym is) (user_failures.line_within line inner fails)
line_within line wrong (inr (when, word, behind, says, solid, stop, fails)) =
    user_within line word behind wrong (command_in line when (word ++ behind) says).2 fails
