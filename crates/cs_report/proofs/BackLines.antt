-- The lines of events are read back as these events.
use Rattle.std.proofs.Common.{◌≡◌, ℕ, ◌+◌, ◌-◌, ◌/◌, ◌%◌, Bool, true, false, not, ◌||◌, ◌==◌, nat_le, nat_lt, cond, List, [], ◌∷◌, ◌++◌, length, map, Option, Ok, refl, sym, ap, ◌∙◌, arith}
use Rattle.std.specs.Prelude.{AllPairs, ◌≢◌, codes, flat_map}
use Rattle.std.specs.Fmt.{decimal as numeral}
use Rattle.std.specs.List.{list_all, list_any}
use Rattle.std.proofs.lemmas.List.{append_assoc, append-nil}
use Rattle.std.proofs.lemmas.List.Folds.{list_all-append}
use Rattle.cs_civil.specs.Calendar.{date_of}
use Rattle.cs_civil.specs.Text.{two_digits, date_bytes}
use Rattle.cs_table.specs.Text.{lines_of}
use Rattle.cs_table.proofs.Lines.{lines_of_nothing}
use Rattle.cs_history.specs.Step.{is_civil}
use Rattle.cs_history.specs.declared.event.Event.{Event}
use Rattle.cs_history.specs.declared.event.Event.TheVariants.{Minute, Begin, Got, Catch, End, Down, Up}
use Rattle.cs_plan.specs.Plan.{Declared, crons, command_of}
use Rattle.cs_report.specs.Script.{taken, lines_from, numbered}
use Rattle.cs_report.specs.Grammar.{Happens, is_word_byte}
use Rattle.cs_report.specs.Reading.{is_word}
use Rattle.cs_plan.specs.JobNames.{command_name, identifier_of}
use Rattle.cs_report.specs.ScriptText.{job_name, at_minute, event_text, event_line, is_name, is_anacron_name, is_job_name, is_nameable_event}
use Rattle.cs_report.proofs.NamedJobs.{and_left, and_right, anacron_else}
use Rattle.cs_report.proofs.Loop.{goes_on, is_done}
use Rattle.cs_report.proofs.BackWords.{both, line_of, is_inside, is_date_byte, date_solid, clock_solid}
use Rattle.cs_report.proofs.BackNames.{numeral_is, told_small}
use Rattle.cs_report.specs.ReadBack.{tells_command, tells_job, tells_event}
use Rattle.cs_report.proofs.BackEvents.{says}
use Rattle.cs_report.proofs.Taking.{behind, behind_again}
use Rattle.cs_report.proofs.Told.{event_placed}

-- ---- no newline in a line

pub inside : (text : List ℕ) → list_all is_date_byte text ≡ true → list_all is_inside text ≡ true
inside [] h = refl
inside (b ∷ bs) h =
    let p = and_left (is_date_byte b) (list_all is_date_byte bs) h in
    both _ _ (and_right (is_word_byte b) (not (b == 10)) p) (inside bs (and_right (is_date_byte b) (list_all is_date_byte bs) h))

pub joined : (xs ys : List ℕ) → list_all is_inside xs ≡ true → list_all is_inside ys ≡ true → list_all is_inside (xs ++ ys) ≡ true
joined xs ys h k = list_all-append is_inside xs ys ∙ both _ _ h k

pub moment_inside : (t : ℕ) → list_all is_inside (at_minute t) ≡ true
moment_inside t =
    joined (date_bytes (date_of (t / 1_440))) (32 ∷ two_digits (t % 1_440 / 60) ++ 58 ∷ two_digits (t % 1_440 % 60))
    (inside (date_bytes (date_of (t / 1_440))) (date_solid (date_of (t / 1_440))))
    (inside (two_digits (t % 1_440 / 60) ++ 58 ∷ two_digits (t % 1_440 % 60)) (clock_solid (t % 1_440)))

neither : (a b : Bool) → not (a || b) ≡ true → (not a ≡ true) × (not b ≡ true)
neither true b h = absurd cc
neither false b h = (refl, h)

pub none_inside : (text : List ℕ) → not (list_any (λ b. b == 10) text) ≡ true → list_all is_inside text ≡ true
none_inside [] h = refl
none_inside (b ∷ bs) h =
    let p = neither (b == 10) (list_any (λ b. b == 10) bs) h in
    both _ _ p.0 (none_inside bs p.1)

-- ---- the lines of events

-- events with the numbers of their lines, of which the first is n
abbrev pub numbered_from : ℕ → List Event → List (ℕ × Event)
numbered_from n [] = []
numbered_from n (e ∷ es) = (n, e) ∷ numbered_from (n + 1) es

module _ (d : Declared) (distinct : AllPairs (λ x y. x.identifier ≢ y.identifier) d.anacrontab.lines) where
  taken_event : (n : ℕ) (o : ℕ × Bool) (days : List (Option ℕ)) (before : List (ℕ × Event)) (e : Event) → is_nameable_event d e ≡ true → tells_event d e ≡ true
      → taken d n (behind o days before) (event_text d e) ≡ Ok (behind o days (before ++ (n, e) ∷ []))
  taken_event n o days before e h told =
      let s = says d distinct e h told in
      behind_again d o days before n (event_text d e) s.0 (Happens e) s.1 s.2 (event_placed d o days before s.0 e s.2)

  pub events_read : (n : ℕ) (o : ℕ × Bool) (days : List (Option ℕ)) (before : List (ℕ × Event)) (es : List Event) → list_all (is_nameable_event d) es ≡ true → list_all (tells_event d) es ≡ true
      → lines_from d n (behind o days before) (map (event_text d) es) ≡ Ok (behind o days (before ++ numbered_from n es))
  events_read n o days before [] h told = is_done d n (behind o days before) ∙ ap (λ (es : List (ℕ × Event)). Ok (behind o days es)) (sym (append-nil before))
  events_read n o days before (e ∷ es) h told =
      sym
      (goes_on d n (behind o days before) (behind o days (before ++ (n, e) ∷ [])) (event_text d e) (map (event_text d) es)
      (ap (numbered n) (taken_event n o days before e (and_left (is_nameable_event d e) _ h) (and_left (tells_event d e) _ told))))
      ∙ events_read (n + 1) o days (before ++ (n, e) ∷ []) es (and_right (is_nameable_event d e) _ h) (and_right (tells_event d e) _ told)
      ∙ ap (λ (es : List (ℕ × Event)). Ok (behind o days es)) (append_assoc before ((n, e) ∷ []) (numbered_from (n + 1) es))

module _ (d : Declared) where
  number_inside : (j : ℕ) → tells_command d j ≡ true → list_all is_inside (numeral (command_of d j).number) ≡ true
  number_inside j h = inside (numeral (command_of d j).number) (numeral_is (command_of d j).number (omega (arith, told_small d j h))).bytes

  command_inside : (j : ℕ) → tells_command d j ≡ true → list_all is_inside (command_name d j) ≡ true
  unfolding command_name
  command_inside j h = number_inside j h

  identifier_inside : (j : ℕ) → is_anacron_name d j ≡ true → list_all is_inside (identifier_of d j) ≡ true
  unfolding is_anacron_name is_name
  identifier_inside j h =
      none_inside (identifier_of d j) (and_right (is_word (identifier_of d j)) _ (and_right (nat_lt (j - crons d) (length d.anacrontab.lines)) _ (and_right (nat_le (crons d) j) _ h)))

  job_inside : (j : ℕ) → is_job_name d j ≡ true → tells_job d j ≡ true → list_all is_inside (job_name d j) ≡ true
  unfolding job_name
  job_inside j h told = by_kind (nat_lt j (crons d)) refl told
    where
      by_kind : (b : Bool) → nat_lt j (crons d) ≡ b → cond b (tells_command d j) true ≡ true → list_all is_inside (cond b (command_name d j) (codes "job " ++ identifier_of d j)) ≡ true
      by_kind true e told = command_inside j told
      by_kind false e told = identifier_inside j (anacron_else d j h e)

  pub event_inside : (e : Event) → is_nameable_event d e ≡ true → tells_event d e ≡ true → list_all is_inside (event_text d e) ≡ true
  event_inside (Minute t) h told = moment_inside t
  event_inside (Begin j) h told = command_inside j told
  event_inside (Got j t) h told = joined (command_name d j) (at_minute t) (command_inside j told) (moment_inside t)
  event_inside (Catch j) h told = identifier_inside j h
  event_inside (End r) h told = joined (job_name d r.job) (at_minute r.at) (job_inside r.job (and_left (is_job_name d r.job) (is_civil r.at) h) told) (moment_inside r.at)
  event_inside Down h told = refl
  event_inside (Up t) h told = moment_inside t

  pub event_lines : (es : List Event) → list_all (is_nameable_event d) es ≡ true → list_all (tells_event d) es ≡ true → lines_of (flat_map (event_line d) es) ≡ map (event_text d) es
  event_lines [] h told = lines_of_nothing
  event_lines (e ∷ es) h told =
      ap lines_of (append_assoc (event_text d e) (10 ∷ []) (flat_map (event_line d) es))
      ∙ line_of (event_text d e) (flat_map (event_line d) es) (event_inside e (and_left (is_nameable_event d e) _ h) (and_left (tells_event d e) _ told))
      ∙ ap (λ (ls : List (List ℕ)). event_text d e ∷ ls) (event_lines es (and_right (is_nameable_event d e) _ h) (and_right (tells_event d e) _ told))
