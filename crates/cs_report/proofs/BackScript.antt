-- The text of a script that can be named is read back as that script.
use Rattle.std.proofs.Common.{◌≡◌, ℕ, ◌+◌, ◌≤◌, Bool, true, ◌&&◌, nat_le, List, [], ◌∷◌, ◌++◌, length, map, Option, Some, None, Ok, refl, sym, ap, ◌∙◌}
use Rattle.std.specs.Prelude.{AllPairs, ◌≢◌, codes, flat_map}
use Rattle.std.specs.List.{list_all}
use Rattle.std.proofs.lemmas.Bool.{leb-true, le-ltb}
use Rattle.std.proofs.lemmas.List.{append_assoc}
use Rattle.cs_civil.specs.Calendar.{date_of, last_day, last_minute}
use Rattle.cs_civil.specs.Text.{date_bytes}
use Rattle.cs_table.specs.Text.{lines_of}
use Rattle.cs_anacrontab.specs.Anacrontab.{JobLine}
use Rattle.cs_history.specs.Plan.{first_start}
use Rattle.cs_history.specs.declared.event.Event.{Event}
use Rattle.cs_history.specs.declared.script.Script.{Script}
use Rattle.cs_plan.specs.Plan.{Declared}
use Rattle.cs_report.specs.declared.script.TheConstants.{MAX_SCRIPT}
use Rattle.cs_report.specs.Script.{lines_from, nothing, numbered, script_of, numbered_script_of}
use Rattle.cs_report.specs.Faults.{MeansPlain}
use Rattle.cs_report.specs.Reading.{is_word}
use Rattle.cs_report.specs.ScriptText.{are_nameable_stamps, event_line, event_text, is_name, is_nameable, is_nameable_event, on_day, script_text, stamp_lines}
use Rattle.cs_report.proofs.NamedJobs.{and_left, and_right}
use Rattle.cs_report.proofs.Loop.{goes_on}
use Rattle.cs_report.proofs.BackWords.{line_of, is_inside, date_solid}
use Rattle.cs_report.specs.ReadBack.{tells_event}
use Rattle.cs_report.proofs.BackLines.{joined, inside, none_inside, numbered_from, events_read, event_lines}
use Rattle.cs_report.proofs.Taking.{behind}
use Rattle.cs_report.proofs.Opened.{started, plain_means}
use Rattle.cs_report.proofs.BackStart.{start_text, taken_start, start_first}
use Rattle.cs_report.proofs.BackStamps.{stamp_text}
use Rattle.cs_report.proofs.BackStampLines.{stamp_texts, stamps_read}

stamp_shape : (id y z rest : List ℕ) → ((id ++ (y ++ 10 ∷ [])) ++ z) ++ rest ≡ (id ++ y) ++ 10 ∷ (z ++ rest)
stamp_shape id y z rest =
    append_assoc (id ++ (y ++ 10 ∷ [])) z rest ∙ append_assoc id (y ++ 10 ∷ []) (z ++ rest)
    ∙ ap (λ (l : List ℕ). id ++ l) (append_assoc y (10 ∷ []) (z ++ rest)) ∙ sym (append_assoc id y (10 ∷ (z ++ rest)))

named_inside : (text : List ℕ) → is_name text ≡ true → list_all is_inside text ≡ true
unfolding is_name
named_inside text h = none_inside text (and_right (is_word text) _ h)

stamp_inside : (id : List ℕ) (day : ℕ) → is_name id ≡ true → list_all is_inside (stamp_text id day) ≡ true
stamp_inside id day h = joined id (on_day day) (named_inside id h) (inside (date_bytes (date_of day)) (date_solid (date_of day)))

stamp_rows : (lines : List JobLine) (stamps : List (Option ℕ)) (rest : List ℕ) → are_nameable_stamps lines stamps ≡ true → lines_of (stamp_lines lines stamps ++ rest) ≡ stamp_texts lines stamps ++ lines_of rest
unfolding stamp_lines are_nameable_stamps
stamp_rows [] [] rest h = refl
stamp_rows [] (s ∷ stamps) rest h = absurd cc
stamp_rows (line ∷ lines) [] rest h = absurd cc
stamp_rows (line ∷ lines) (None ∷ stamps) rest h = stamp_rows lines stamps rest h
stamp_rows (line ∷ lines) (Some day ∷ stamps) rest h =
    let here : Bool = nat_le 1 day && (nat_le day last_day && is_name line.identifier) in
    let bounded = and_right (nat_le 1 day) (nat_le day last_day && is_name line.identifier) (and_left here (are_nameable_stamps lines stamps) h) in
    let name = and_right (nat_le day last_day) (is_name line.identifier) bounded in
    ap (λ (l : List ℕ). lines_of (codes "stamp " ++ l)) (stamp_shape line.identifier (on_day day) (stamp_lines lines stamps) rest)
    ∙ line_of (stamp_text line.identifier day) (stamp_lines lines stamps ++ rest) (stamp_inside line.identifier day name)
    ∙ ap (λ (ls : List (List ℕ)). stamp_text line.identifier day ∷ ls) (stamp_rows lines stamps rest (and_right here (are_nameable_stamps lines stamps) h))

unnumbered : (n : ℕ) (es : List Event) → map (λ e. e.1) (numbered_from n es) ≡ es
unnumbered n [] = refl
unnumbered n (e ∷ es) = ap (λ (l : List Event). e ∷ l) (unnumbered (n + 1) es)

-- what is named
parts : (d : Declared) (s : Script) → is_nameable d s ≡ true
    → (first_start ≤ s.start.now) × (s.start.now ≤ last_minute) × (are_nameable_stamps d.anacrontab.lines s.start.stamps ≡ true) × (list_all (is_nameable_event d) s.events ≡ true)
unfolding is_nameable
parts d s h =
    let late = and_right (nat_le first_start s.start.now) _ h in
    let more = and_right (nat_le s.start.now last_minute) _ late in (
      leb-true first_start s.start.now (and_left (nat_le first_start s.start.now) _ h),
      leb-true s.start.now last_minute (and_left (nat_le s.start.now last_minute) _ late),
      and_left (are_nameable_stamps d.anacrontab.lines s.start.stamps) _ more,
      and_right (are_nameable_stamps d.anacrontab.lines s.start.stamps) _ more,
    )

module _ (d : Declared) (distinct : AllPairs (λ x y. x.identifier ≢ y.identifier) d.anacrontab.lines) (s : Script) (h : is_nameable d s ≡ true) (told : list_all (tells_event d) s.events ≡ true) where
  abbrev rows : List (List ℕ)
  rows = start_text s.start.now s.start.up ∷ (stamp_texts d.anacrontab.lines s.start.stamps ++ map (event_text d) s.events)

  text_rows : lines_of (script_text d s) ≡ rows
  unfolding script_text
  text_rows =
      let named = parts d s h in
      start_first s.start (stamp_lines d.anacrontab.lines s.start.stamps ++ flat_map (event_line d) s.events)
      ∙ ap (λ (ls : List (List ℕ)). start_text s.start.now s.start.up ∷ ls)
      (stamp_rows d.anacrontab.lines s.start.stamps (flat_map (event_line d) s.events) named.2 ∙ ap (λ (ls : List (List ℕ)). stamp_texts d.anacrontab.lines s.start.stamps ++ ls) (event_lines d s.events named.3 told))

  abbrev first_event : ℕ
  first_event = 2 + length (stamp_texts d.anacrontab.lines s.start.stamps)

  rows_read : lines_from d 1 (nothing d) rows ≡ Ok (behind (s.start.now, s.start.up) s.start.stamps (numbered_from first_event s.events))
  rows_read =
      let named = parts d s h in
      sym (goes_on d 1 (nothing d) (started d s.start.now s.start.up) (start_text s.start.now s.start.up) (stamp_texts d.anacrontab.lines s.start.stamps ++ map (event_text d) s.events) (ap (numbered 1) (taken_start d 1 s.start.now s.start.up named.0 named.1)))
      ∙ stamps_read d distinct (s.start.now, s.start.up) d.anacrontab.lines 2 [] [] s.start.stamps (map (event_text d) s.events) refl refl named.2
      ∙ events_read d distinct first_event (s.start.now, s.start.up) s.start.stamps [] s.events named.3 told

  script_back : length (script_text d s) ≤ MAX_SCRIPT → script_of d (script_text d s) ≡ Ok s
  unfolding script_of numbered_script_of
  script_back short = rw (le-ltb MAX_SCRIPT (length (script_text d s)) short, text_rows, rows_read, unnumbered first_event s.events) refl

  pub reads_back : length (script_text d s) ≤ MAX_SCRIPT → MeansPlain d (script_text d s) (Ok s)
  reads_back short = plain_means d (script_text d s) (Ok s) (script_back short)
