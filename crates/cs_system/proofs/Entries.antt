-- Lines: what is read is written so, and what is written so is read.
use Rattle.std.proofs.Common.{◌≡◌, ◌≢◌, ℕ, ◌≤◌, cond, List, [], ◌∷◌, ◌++◌, length, Result, Ok, Err, refl, sym, ap, subst, ◌∙◌, arith, inl, inr}
use Rattle.std.specs.List.{list_any}
use Rattle.std.proofs.lemmas.List.{length-append}
use Rattle.cs_schedule.specs.Times.{Choice}
use Rattle.cs_schedule.specs.declared.part.Part.{Part}
use Rattle.cs_table.specs.declared.fault.Wrong.{Wrong}
use Rattle.cs_table.specs.Text.{front, after, is_blank, is_solid, is_nothing, StopsAt}
use Rattle.cs_table.specs.Wrong.{at_end, at_front}
use Rattle.cs_table.proofs.Spans.{front_again, after_again, parts_joined, front_passes, after_stops, some_from, some_to, front_some, gap_some, gap_stops}
use Rattle.cs_table.proofs.Results.{guard_ok, ok_is}
use Rattle.cs_crontab.specs.declared.fault.LineFault.{LineFault}
use Rattle.cs_crontab.specs.declared.fault.LineFault.TheVariants.{NoCommand}
use Rattle.cs_crontab.specs.declared.table.When.{When}
use Rattle.cs_crontab.specs.declared.table.When.TheVariants.{At, Reboot}
use Rattle.cs_crontab.specs.Crontab as users
use Rattle.cs_crontab.specs.Grammar.{AreFields, fields_of, TextSays, Says as UserSays}
use Rattle.cs_crontab.specs.Reading as user_lines
use Rattle.cs_crontab.proofs.Entries as user_entries
use Rattle.cs_system.specs.declared.fault.SystemFault.{SystemFault}
use Rattle.cs_system.specs.declared.fault.SystemFault.TheVariants.{Line, BadUser}
use Rattle.cs_system.specs.System.{Entry, Nothing, Setting, Command}
use Rattle.cs_system.specs.Grammar.{is_foreign, Says}
use Rattle.cs_system.specs.Reading.{command_of, system_line, line_of}

-- ---- what follows the time in a user's table

fields_stop : (fs : List (Part × Choice)) (text command : List ℕ) → fs ≢ [] → AreFields fs text command → StopsAt is_blank command
fields_stop [] text command some is = absurd (some refl)
fields_stop (f ∷ []) text command some (word, gap, rest, is, solid, blank, stop, field, end) = subst (StopsAt is_blank) end stop
fields_stop (f ∷ g ∷ fs) text command some (word, gap, rest, is, solid, blank, stop, field, more) = fields_stop (g ∷ fs) rest command (λ e. cc) more

fields_within : (fs : List (Part × Choice)) (text command : List ℕ) → AreFields fs text command → length command ≤ length text
fields_within [] text command is = omega (arith, ap (length {A = ℕ}) is)
fields_within (f ∷ fs) text command (word, gap, rest, is, solid, blank, stop, field, more) =
    omega (arith, ap (length {A = ℕ}) is, length-append word (gap ++ rest), length-append gap rest, fields_within fs rest command more)

text_command : (text : List ℕ) (when : When) (command : List ℕ) → TextSays text (users.Command when command) → StopsAt is_blank command × (length command ≤ length text)
text_command text (At s) command (inl fields, some) = (fields_stop (fields_of s) text command (λ e. cc) fields, fields_within (fields_of s) text command fields)
text_command text Reboot command (inl none, some) = absurd none
text_command text when command (inr (word, gap, is, solid, blank, stop, named), some) =
    (stop, omega (arith, ap (length {A = ℕ}) is, length-append word (gap ++ command), length-append gap command))

-- it begins with no blank, and is a part of the line
pub command_in : (line : List ℕ) (when : When) (command : List ℕ) → UserSays line (users.Command when command) → (command ≢ []) × StopsAt is_blank command × (length command ≤ length line)
command_in line when command is =
    let c = text_command is.text when command is.says in
    (is.says.1, c.0, omega (arith, c.1, ap (length {A = ℕ}) is.parts, length-append is.indent is.text))

-- ---- a command after its user

command_takes : (line : List ℕ) (when : When) (text : List ℕ) (x : Entry) → UserSays line (users.Command when text) → command_of when text ≡ Ok x → Says line x
command_takes line when text x says e =
    let user : List ℕ = front is_solid text in
    let rest : List ℕ = after is_solid text in
    let command : List ℕ = after is_blank rest in
    let whole : Result Entry (Wrong SystemFault) = Ok (Command when user command) in
    let g = guard_ok (list_any is_foreign user) (at_front BadUser text user) (cond (is_nothing command) (Err (at_end (Line NoCommand))) whole) x e in
    let h = guard_ok (is_nothing command) (at_end (Line NoCommand)) whole x g.1 in
    let some = some_from command h.0 in
    let parts : text ≡ user ++ (front is_blank rest ++ command) = sym (parts_joined is_solid text) ∙ ap (λ (l : List ℕ). user ++ l) (sym (parts_joined is_blank rest)) in
    let c = command_in line when text says in
    subst (Says line) (ok_is (Command when user command) x h.1) (
      front is_blank rest,
      subst (λ (l : List ℕ). UserSays line (users.Command when l)) parts says,
      ((front_passes is_solid text, front_some text c.0 c.1), g.0),
      (front_passes is_blank rest, gap_some rest (after_stops is_solid text) some),
      after_stops is_blank rest,
      some,
    )

-- ---- a line

pub line_takes : (line : List ℕ) (x : Entry) → line_of line ≡ Ok x → Says line x
unfolding line_of
line_takes line x e = by_read (user_lines.line_of line) refl e
  where
    by_read : (r : Result users.Entry (Wrong LineFault)) → user_lines.line_of line ≡ r → system_line r ≡ Ok x → Says line x
    by_read (Ok users.Nothing) is e = subst (Says line) (ok_is Nothing x e) (user_entries.line_takes line users.Nothing is)
    by_read (Ok (users.Setting name value)) is e = subst (Says line) (ok_is (Setting name value) x e) (user_entries.line_takes line (users.Setting name value) is)
    by_read (Ok (users.Command when text)) is e = command_takes line when text x (user_entries.line_takes line (users.Command when text) is) e
    by_read (Err wrong) is e = absurd cc

pub line_again : (line : List ℕ) (x : Entry) → Says line x → line_of line ≡ Ok x
unfolding line_of
line_again line Nothing says = ap system_line (user_entries.line_again line users.Nothing says)
line_again line (Setting name value) says = ap system_line (user_entries.line_again line (users.Setting name value) says)
line_again line (Command when user command) (gap, says, (solid, own), blank, stop, some) =
    ap system_line (user_entries.line_again line (users.Command when (user ++ (gap ++ command))) says)
    ∙ rw (front_again is_solid user (gap ++ command) solid.0 (gap_stops gap command blank), after_again is_solid user (gap ++ command) solid.0 (gap_stops gap command blank), after_again is_blank gap command blank.0 stop, own, some_to command some) refl
