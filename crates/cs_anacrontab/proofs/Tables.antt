-- What is read of a line is what the line adds, and its fault is the line's.
use Rattle.std.proofs.Common.{◌≡◌, ◌≢◌, ℕ, ◌+◌, ◌<◌, ◌≤◌, Bool, true, false, cond, nat_lt, List, [], ◌∷◌, ◌++◌, length, Result, Ok, Err, refl, sym, ap, subst, ◌∙◌, arith, inl, inr}
use Rattle.std.specs.Prelude.{All, IfOk, IfErr}
use Rattle.std.proofs.lemmas.Bool.{le-ltb, lt-ltb, ltb-true, ltb-false}
use Rattle.std.proofs.lemmas.List.{length-append}
use Rattle.std.proofs.lemmas.List.Elements.{All-nil, All-push}
use Rattle.cs_table.specs.Table.{AreAdded}
use Rattle.cs_table.proofs.Tables.{Agrees, Rises, kept, rises_nothing, rises_on, rises_push}
use Rattle.cs_anacrontab.specs.declared.fault.JobFault.{JobFault}
use Rattle.cs_anacrontab.specs.declared.fault.JobFault.TheVariants as faults
use Rattle.cs_anacrontab.specs.declared.period.Period.{Period}
use Rattle.cs_anacrontab.specs.declared.period.Period.TheVariants.{Days, Monthly}
use Rattle.cs_anacrontab.specs.declared.limits.TheConstants.{MAX_JOBS}
use Rattle.cs_anacrontab.specs.Anacrontab.{JobLine, Entry, Nothing, Setting, Job, Table, no_lines, with_entry, AreDistinct, IsPossiblePeriod, IsPossible, IsOrdered}
use Rattle.cs_anacrontab.specs.Reading.{behind_word, line_of}
use Rattle.cs_table.specs.declared.fault.Wrong.{Wrong}
use Rattle.cs_table.specs.Text.{after, is_blank}
use Rattle.cs_table.specs.Wrong.{◌>>=◌, Gives, IsWithin, at_front, whole}
use Rattle.cs_table.proofs.Results.{ok_is, err_is}
use Rattle.cs_table.proofs.Places.{whole_takes, whole_again, whole_within, within_longer, indent_within}
use Rattle.cs_anacrontab.specs.Grammar.{IsPeriod, TextSays, Says, HasRoom, Adds}
use Rattle.cs_anacrontab.specs.Faults.{LineFails, Fails, anacrontab}
use Rattle.cs_anacrontab.specs.Table.{is_named, from_identifier, put, added}
use Rattle.cs_anacrontab.specs.declared.line.Entry.{Entry as Held}
use Rattle.cs_anacrontab.specs.Seen.{entry_seen}
use Rattle.cs_anacrontab.proofs.Entries.{line_takes, line_again, line_text}
use Rattle.cs_anacrontab.proofs.Parts.{word_behind}
use Rattle.cs_anacrontab.proofs.Failures.{line_fails, line_fails_again, line_within}
use Rattle.cs_anacrontab.proofs.Names.{named_takes, named_again, unnamed_takes, unnamed_again, distinct_push}

abbrev job_line : ℕ → Period → ℕ → List ℕ → List ℕ → JobLine
job_line number period delay identifier command = record { number = number; period = period; delay = delay; identifier = identifier; command = command }

-- ---- the identifier of a line

from_identifier-is : (line : List ℕ) (period : Period) (delay : ℕ) (identifier command : List ℕ) (says : Says line (Job period delay identifier command)) → from_identifier line ≡ says.says.1.behind_delay
from_identifier-is line period delay identifier command says =
    let job = says.says.1 in
    let trimmed = line_text line (Job period delay identifier command) says in
    ap (λ (l : List ℕ). behind_word (behind_word l)) trimmed ∙ ap behind_word (word_behind says.text job.period_word job.behind_period job.first) ∙ word_behind job.behind_period job.delay_word job.behind_delay job.second

-- ---- an entry

module _ (n : ℕ) (line : List ℕ) (table : Table) where
  module _ (period : Period) (delay : ℕ) (identifier command : List ℕ) where
    abbrev job : Entry
    job = Job period delay identifier command

    abbrev put_job : Bool → Bool → Result Table (Wrong JobFault)
    put_job named room = cond named (Err (at_front faults.TwiceNamed (from_identifier line) identifier)) (cond room (Ok (with_entry n job table)) (Err (whole faults.TooManyJobs (after is_blank line))))

    job_takes : (more : Table) → put n line table job ≡ Ok more → HasRoom table job × (more ≡ with_entry n job table)
    job_takes more e = by_test (is_named identifier table.lines) (nat_lt (length table.lines) MAX_JOBS) refl refl e
      where
        by_test : (s t : Bool) → is_named identifier table.lines ≡ s → nat_lt (length table.lines) MAX_JOBS ≡ t → put_job s t ≡ Ok more → HasRoom table job × (more ≡ with_entry n job table)
        by_test true t named is e = absurd cc
        by_test false true named is e = ((unnamed_takes identifier table.lines named, ltb-true (length table.lines) MAX_JOBS is), sym (ok_is (with_entry n job table) more e))
        by_test false false named is e = absurd cc

    job_fails : (wrong : Wrong JobFault) → Says line job → put n line table job ≡ Err wrong → Fails table line wrong
    job_fails wrong says e = by_test (is_named identifier table.lines) (nat_lt (length table.lines) MAX_JOBS) refl refl e
      where
        by_test : (s t : Bool) → is_named identifier table.lines ≡ s → nat_lt (length table.lines) MAX_JOBS ≡ t → put_job s t ≡ Err wrong → Fails table line wrong
        by_test true t named is e =
            let found = named_takes identifier table.lines named in
            let at = ap (λ (l : List ℕ). at_front faults.TwiceNamed l identifier) (from_identifier-is line period delay identifier command says) in
            inr (inl (period, delay, identifier, command, found.0, found.1, found.2, says, sym (err_is {A = Table} (at_front faults.TwiceNamed (from_identifier line) identifier) wrong e) ∙ at))
        by_test false true named is e = absurd cc
        by_test false false named is e =
            inr (inr (
              (period, delay, identifier, command, says, unnamed_takes identifier table.lines named, ltb-false (length table.lines) MAX_JOBS is),
              whole_takes faults.TooManyJobs line wrong (sym (err_is {A = Table} (whole faults.TooManyJobs (after is_blank line)) wrong e)),
            ))

  put_takes : (entry : Entry) (more : Table) → put n line table entry ≡ Ok more → HasRoom table entry × (more ≡ with_entry n entry table)
  put_takes Nothing more e = (tt, sym (ok_is table more e))
  put_takes (Setting name value) more e = (tt, sym (ok_is (with_entry n (Setting name value) table) more e))
  put_takes (Job period delay identifier command) more e = job_takes period delay identifier command more e

  put_again : (entry : Entry) → HasRoom table entry → put n line table entry ≡ Ok (with_entry n entry table)
  put_again Nothing room = refl
  put_again (Setting name value) room = refl
  put_again (Job period delay identifier command) room = rw (unnamed_again identifier table.lines room.0, lt-ltb (length table.lines) MAX_JOBS room.1) refl

  put_fails : (entry : Entry) (wrong : Wrong JobFault) → Says line entry → put n line table entry ≡ Err wrong → Fails table line wrong
  put_fails Nothing wrong says e = absurd cc
  put_fails (Setting name value) wrong says e = absurd cc
  put_fails (Job period delay identifier command) wrong says e = job_fails period delay identifier command wrong says e

-- ---- a line

takes : (n : ℕ) (table more : Table) (line : List ℕ) → added n table line ≡ Ok more → Adds n table line more
takes n table more line e = by_read (line_of line) refl e
  where
    by_read : (r : Result Entry (Wrong JobFault)) → line_of line ≡ r → (r >>= put n line table) ≡ Ok more → Adds n table line more
    by_read (Err f) is e = absurd cc
    by_read (Ok entry) is e = let p = put_takes n line table entry more e in (entry, line_takes line entry is, p.0, p.1)

again : (n : ℕ) (table more : Table) (line : List ℕ) → Adds n table line more → added n table line ≡ Ok more
again n table more line (entry, says, room, is) = rw (line_again line entry says) (put_again n line table entry room ∙ ap (λ (t : Table). Ok t) (sym is))

fails : (n : ℕ) (table : Table) (line : List ℕ) (wrong : Wrong JobFault) → added n table line ≡ Err wrong → Fails table line wrong
fails n table line wrong e = by_read (line_of line) refl e
  where
    by_read : (r : Result Entry (Wrong JobFault)) → line_of line ≡ r → (r >>= put n line table) ≡ Err wrong → Fails table line wrong
    by_read (Err f) is e = inl (line_fails line wrong (is ∙ ap (λ (g : Wrong JobFault). Err g) (err_is {A = Table} f wrong e)))
    by_read (Ok entry) is e = put_fails n line table entry wrong (line_takes line entry is) e

fails_again : (n : ℕ) (table : Table) (line : List ℕ) (wrong : Wrong JobFault) → Fails table line wrong → added n table line ≡ Err wrong
fails_again n table line wrong (inl here) = rw (line_fails_again line wrong here) refl
fails_again n table line wrong (inr (inl (period, delay, identifier, command, before, held, same, says, is))) =
    let at = ap (λ (l : List ℕ). at_front faults.TwiceNamed l identifier) (from_identifier-is line period delay identifier command says) in
    rw (line_again line (Job period delay identifier command) says, named_again identifier table.lines before held same) (ap (λ (f : Wrong JobFault). Err f) (at ∙ sym is))
fails_again n table line wrong (inr (inr ((period, delay, identifier, command, says, all, full), at))) =
    rw (line_again line (Job period delay identifier command) says, unnamed_again identifier table.lines all, le-ltb (length table.lines) MAX_JOBS full) (ap (λ (f : Wrong JobFault). Err f) (sym (whole_again faults.TooManyJobs line wrong at)))

twice_within : (line : List ℕ) (period : Period) (delay : ℕ) (identifier command : List ℕ) (wrong : Wrong JobFault) (says : Says line (Job period delay identifier command)) → wrong ≡ at_front faults.TwiceNamed says.says.1.behind_delay identifier → IsWithin line wrong
twice_within line period delay identifier command wrong says is =
    let job = says.says.1 in
    let third = ap (length {A = ℕ}) job.third.parts ∙ length-append identifier (job.third.gap ++ command) in
    let left = ap (λ (w : Wrong JobFault). w.left) is in
    let here : IsWithin job.behind_delay wrong = (omega (arith, left), omega (arith, left, third, ap (λ (w : Wrong JobFault). w.length) is)) in
    within_longer says.indent says.text line wrong says.parts
    (within_longer job.period_word (job.first.gap ++ job.behind_period) says.text wrong job.first.parts
    (within_longer job.first.gap job.behind_period (job.first.gap ++ job.behind_period) wrong refl
    (within_longer job.delay_word (job.second.gap ++ job.behind_delay) job.behind_period wrong job.second.parts (within_longer job.second.gap job.behind_delay (job.second.gap ++ job.behind_delay) wrong refl here))))

within : (n : ℕ) (table : Table) (line : List ℕ) (wrong : Wrong JobFault) → added n table line ≡ Err wrong → IsWithin line wrong
within n table line wrong e = by_reason (fails n table line wrong e)
  where
    by_reason : Fails table line wrong → IsWithin line wrong
    by_reason (inl here) = line_within line wrong here
    by_reason (inr (inl (period, delay, identifier, command, before, held, same, says, is))) = twice_within line period delay identifier command wrong says is
    by_reason (inr (inr (many, at))) = whole_within faults.TooManyJobs line wrong (after is_blank line) (indent_within line) (whole_again faults.TooManyJobs line wrong at)

-- a wrong identifier is a part of its line
pub named_within : (line : List ℕ) (period : Period) (delay : ℕ) (identifier command : List ℕ) (wrong : Wrong JobFault) → Says line (Job period delay identifier command) → wrong ≡ at_front faults.TwiceNamed (from_identifier line) identifier → IsWithin line wrong
named_within line period delay identifier command wrong says is =
    twice_within line period delay identifier command wrong says (is ∙ ap (λ (l : List ℕ). at_front faults.TwiceNamed l identifier) (from_identifier-is line period delay identifier command says))

pub agrees : Agrees anacrontab added
agrees = record { takes = takes; again = again; fails = fails; fails_again = fails_again; within = within }

-- ---- what a call answered of a line

pub line_answers : (line : List ℕ) (r : Result Held (Wrong JobFault)) → Gives entry_seen r (line_of line) → IfOk r (λ entry. Says line (entry_seen entry)) × IfErr r (LineFails line) × IfErr r (IsWithin line)
line_answers line (Ok entry) is = (line_takes line (entry_seen entry) is, tt, tt)
line_answers line (Err wrong) is = let fails = line_fails line wrong is in (tt, fails, line_within line wrong fails)

-- ---- the order of the lines

possible_period : (word : List ℕ) (period : Period) → IsPeriod word period → IsPossiblePeriod period
possible_period word (Days n) (inl (number, some)) = (some, number.high)
possible_period word (Days n) (inr (inl (is, one))) = (omega arith, omega arith)
possible_period word (Days n) (inr (inr (is, seven))) = (omega arith, omega arith)
possible_period word Monthly is = tt

possible_text : (text : List ℕ) (n : ℕ) (period : Period) (delay : ℕ) (identifier command : List ℕ) → TextSays text (Job period delay identifier command) → IsPossible (job_line n period delay identifier command)
possible_text text n period delay identifier command (whole, job) =
    record { period = possible_period job.period_word period job.period_is; delay = job.delay_is.high }

record Holds (n : ℕ) (table : Table) : Type 0 where
  few : length table.lines ≤ MAX_JOBS
  possible : All IsPossible table.lines
  distinct : AreDistinct table.lines
  lines : Rises (λ x. x.number) n table.lines
  settings : Rises (λ x. x.number) n table.settings

holds_on : (n : ℕ) (table more : Table) (line : List ℕ) → Adds n table line more → Holds n table → Holds (n + 1) more
holds_on n table more line (entry, says, room, is) holds = subst (Holds (n + 1)) (sym is) (by_entry entry says.text says.says room)
  where
    by_entry : (e : Entry) (text : List ℕ) → TextSays text e → HasRoom table e → Holds (n + 1) (with_entry n e table)
    by_entry Nothing text says room =
        record {
          few = holds.few;
          possible = holds.possible;
          distinct = holds.distinct;
          lines = rises_on (λ x. x.number) n table.lines holds.lines;
          settings = rises_on (λ x. x.number) n table.settings holds.settings;
        }
    by_entry (Setting name value) text says room =
        record {
          few = holds.few;
          possible = holds.possible;
          distinct = holds.distinct;
          lines = rises_on (λ x. x.number) n table.lines holds.lines;
          settings = rises_push (λ x. x.number) n table.settings (record { number = n; name = name; value = value }) refl holds.settings;
        }
    by_entry (Job period delay identifier command) text says room =
        let one : JobLine = job_line n period delay identifier command in
        record {
          few = omega (arith, room.1, length-append table.lines (one ∷ []));
          possible = All-push IsPossible table.lines one holds.possible (possible_text text n period delay identifier command says);
          distinct = distinct_push table.lines one holds.distinct room.0;
          lines = rises_push (λ x. x.number) n table.lines one refl holds.lines;
          settings = rises_on (λ x. x.number) n table.settings holds.settings;
        }

pub ordered : (lines : List (List ℕ)) (table : Table) → AreAdded anacrontab 1 no_lines lines table → IsOrdered table
ordered lines table are =
    let none : Holds 1 no_lines =
    record {
      few = omega arith;
      possible = All-nil IsPossible;
      distinct = λ i j d low high. absurd (omega (arith, high));
      lines = rises_nothing (λ x. x.number) 1;
      settings = rises_nothing (λ x. x.number) 1;
    }
    in
    let holds = (kept anacrontab Holds holds_on 1 no_lines table lines are none).1 in
    record { few = holds.few; possible = holds.possible; distinct = holds.distinct; rising = holds.lines.rising; settings_rising = holds.settings.rising }
