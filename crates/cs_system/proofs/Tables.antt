-- What is read of a line is what the line adds, and its fault is the line's.
use Rattle.std.proofs.Common.{◌≡◌, ℕ, ◌+◌, ◌<◌, ◌≤◌, Bool, true, false, cond, nat_lt, List, [], ◌∷◌, length, Result, Ok, Err, refl, sym, ap, subst, ◌∙◌, arith, inl, inr}
use Rattle.std.specs.Prelude.{IfOk, IfErr}
use Rattle.std.proofs.lemmas.Bool.{le-ltb, lt-ltb, ltb-true, ltb-false}
use Rattle.std.proofs.lemmas.List.{length-append}
use Rattle.cs_table.specs.declared.fault.Wrong.{Wrong}
use Rattle.cs_table.specs.Table.{AreAdded}
use Rattle.cs_table.specs.Text.{after, is_blank}
use Rattle.cs_table.specs.Wrong.{◌>>=◌, Gives, IsWithin, whole}
use Rattle.cs_table.proofs.Places.{whole_takes, whole_again, whole_within, indent_within}
use Rattle.cs_table.proofs.Results.{ok_is, err_is}
use Rattle.cs_table.proofs.Tables.{Agrees, Rises, kept, rises_nothing, rises_on, rises_push}
use Rattle.cs_crontab.specs.declared.fault.LineFault.TheVariants.{TooManyJobs}
use Rattle.cs_crontab.specs.declared.limits.TheConstants.{MAX_COMMANDS}
use Rattle.cs_crontab.specs.declared.table.When.{When}
use Rattle.cs_system.specs.declared.fault.SystemFault.{SystemFault}
use Rattle.cs_system.specs.declared.fault.SystemFault.TheVariants.{Line}
use Rattle.cs_system.specs.declared.line.SystemEntry.{SystemEntry}
use Rattle.cs_system.specs.System.{Entry, Nothing, Setting, Command, SystemCommand, Table, no_lines, with_entry, IsOrdered}
use Rattle.cs_system.specs.Grammar.{Says, HasRoom, Adds}
use Rattle.cs_system.specs.Faults.{LineFails, Fails, system}
use Rattle.cs_system.specs.Reading.{line_of}
use Rattle.cs_system.specs.Seen.{entry_seen}
use Rattle.cs_system.specs.Table.{put, added}
use Rattle.cs_system.proofs.Entries.{line_takes, line_again}
use Rattle.cs_system.proofs.Failures.{line_fails, line_fails_again, line_within}

abbrev too_many : List ℕ → Wrong SystemFault
too_many line = whole (Line TooManyJobs) (after is_blank line)

abbrev command_line : ℕ → When → List ℕ → List ℕ → SystemCommand
command_line n when user command = record { number = n; when = when; user = user; command = command }

-- ---- an entry

module _ (n : ℕ) (line : List ℕ) (table : Table) where
  put_takes : (entry : Entry) (more : Table) → put n line table entry ≡ Ok more → HasRoom table entry × (more ≡ with_entry n entry table)
  put_takes Nothing more e = (tt, sym (ok_is table more e))
  put_takes (Setting name value) more e = (tt, sym (ok_is (with_entry n (Setting name value) table) more e))
  put_takes (Command when user command) more e = by_room (nat_lt (length table.lines) MAX_COMMANDS) refl e
    where
      by_room : (t : Bool) → nat_lt (length table.lines) MAX_COMMANDS ≡ t → cond t (Ok (with_entry n (Command when user command) table)) (Err (too_many line)) ≡ Ok more
          → (length table.lines < MAX_COMMANDS) × (more ≡ with_entry n (Command when user command) table)
      by_room true is e = (ltb-true (length table.lines) MAX_COMMANDS is, sym (ok_is (with_entry n (Command when user command) table) more e))
      by_room false is e = absurd cc

  put_again : (entry : Entry) → HasRoom table entry → put n line table entry ≡ Ok (with_entry n entry table)
  put_again Nothing room = refl
  put_again (Setting name value) room = refl
  put_again (Command when user command) room = rw (lt-ltb (length table.lines) MAX_COMMANDS room) refl

  put_fails : (entry : Entry) (wrong : Wrong SystemFault) → Says line entry → put n line table entry ≡ Err wrong → Fails table line wrong
  put_fails Nothing wrong says e = absurd cc
  put_fails (Setting name value) wrong says e = absurd cc
  put_fails (Command when user command) wrong says e = by_room (nat_lt (length table.lines) MAX_COMMANDS) refl e
    where
      by_room : (t : Bool) → nat_lt (length table.lines) MAX_COMMANDS ≡ t → cond t (Ok (with_entry n (Command when user command) table)) (Err (too_many line)) ≡ Err wrong → Fails table line wrong
      by_room true is e = absurd cc
      by_room false is e = inr (ltb-false (length table.lines) MAX_COMMANDS is, (when, user, command, says), whole_takes (Line TooManyJobs) line wrong (sym (err_is {A = Table} (too_many line) wrong e)))

-- ---- a line

takes : (n : ℕ) (table more : Table) (line : List ℕ) → added n table line ≡ Ok more → Adds n table line more
takes n table more line e = by_read (line_of line) refl e
  where
    by_read : (r : Result Entry (Wrong SystemFault)) → line_of line ≡ r → (r >>= put n line table) ≡ Ok more → Adds n table line more
    by_read (Err f) is e = absurd cc
    by_read (Ok entry) is e = let p = put_takes n line table entry more e in (entry, line_takes line entry is, p.0, p.1)

again : (n : ℕ) (table more : Table) (line : List ℕ) → Adds n table line more → added n table line ≡ Ok more
again n table more line (entry, says, room, is) = rw (line_again line entry says) (put_again n line table entry room ∙ ap (λ (t : Table). Ok t) (sym is))

fails : (n : ℕ) (table : Table) (line : List ℕ) (wrong : Wrong SystemFault) → added n table line ≡ Err wrong → Fails table line wrong
fails n table line wrong e = by_read (line_of line) refl e
  where
    by_read : (r : Result Entry (Wrong SystemFault)) → line_of line ≡ r → (r >>= put n line table) ≡ Err wrong → Fails table line wrong
    by_read (Err f) is e = inl (line_fails line wrong (is ∙ ap (λ (g : Wrong SystemFault). Err g) (err_is {A = Table} f wrong e)))
    by_read (Ok entry) is e = put_fails n line table entry wrong (line_takes line entry is) e

fails_again : (n : ℕ) (table : Table) (line : List ℕ) (wrong : Wrong SystemFault) → Fails table line wrong → added n table line ≡ Err wrong
fails_again n table line wrong (inl here) = rw (line_fails_again line wrong here) refl
fails_again n table line wrong (inr (full, (when, user, command, says), at)) =
    rw (line_again line (Command when user command) says, le-ltb (length table.lines) MAX_COMMANDS full) (ap (λ (f : Wrong SystemFault). Err f) (sym (whole_again (Line TooManyJobs) line wrong at)))

within : (n : ℕ) (table : Table) (line : List ℕ) (wrong : Wrong SystemFault) → added n table line ≡ Err wrong → IsWithin line wrong
within n table line wrong e = by_reason (fails n table line wrong e)
  where
    by_reason : Fails table line wrong → IsWithin line wrong
    by_reason (inl here) = line_within line wrong here
    by_reason (inr (full, says, at)) = whole_within (Line TooManyJobs) line wrong (after is_blank line) (indent_within line) (whole_again (Line TooManyJobs) line wrong at)

pub agrees : Agrees system added
agrees = record { takes = takes; again = again; fails = fails; fails_again = fails_again; within = within }

-- ---- the result for a line

pub line_answers : (line : List ℕ) (r : Result SystemEntry (Wrong SystemFault)) → Gives entry_seen r (line_of line)
    → IfOk r (λ entry. Says line (entry_seen entry)) × IfErr r (LineFails line) × IfErr r (IsWithin line)
line_answers line (Ok entry) is = (line_takes line (entry_seen entry) is, tt, tt)
line_answers line (Err wrong) is = let fails = line_fails line wrong is in (tt, fails, line_within line wrong fails)

-- ---- the order of the lines

record Holds (n : ℕ) (table : Table) : Type 0 where
  few : length table.lines ≤ MAX_COMMANDS
  lines : Rises (λ x. x.number) n table.lines
  settings : Rises (λ x. x.number) n table.settings

holds_on : (n : ℕ) (table more : Table) (line : List ℕ) → Adds n table line more → Holds n table → Holds (n + 1) more
holds_on n table more line (entry, says, room, is) holds = subst (Holds (n + 1)) (sym is) (by_entry entry room)
  where
    by_entry : (e : Entry) → HasRoom table e → Holds (n + 1) (with_entry n e table)
    by_entry Nothing room = record { few = holds.few; lines = rises_on (λ x. x.number) n table.lines holds.lines; settings = rises_on (λ x. x.number) n table.settings holds.settings }
    by_entry (Setting name value) room =
        record {
          few = holds.few;
          lines = rises_on (λ x. x.number) n table.lines holds.lines;
          settings = rises_push (λ x. x.number) n table.settings (record { number = n; name = name; value = value }) refl holds.settings;
        }
    by_entry (Command when user command) room =
        record {
          few = omega (arith, room, length-append table.lines (command_line n when user command ∷ []));
          lines = rises_push (λ x. x.number) n table.lines (command_line n when user command) refl holds.lines;
          settings = rises_on (λ x. x.number) n table.settings holds.settings;
        }

pub ordered : (lines : List (List ℕ)) (table : Table) → AreAdded system 1 no_lines lines table → IsOrdered table
ordered lines table are =
    let none : Holds 1 no_lines = record { few = omega arith; lines = rises_nothing (λ x. x.number) 1; settings = rises_nothing (λ x. x.number) 1 } in
    let holds = (kept system Holds holds_on 1 no_lines table lines are none).1 in
    record { few = holds.few; rising = holds.lines.rising; settings_rising = holds.settings.rising }
