-- The whole text: the first line that counts is the start, and what comes of all lines.
use Rattle.std.proofs.Common.{◌≡◌, ◌⊎◌, inl, inr, ℕ, zero, suc, ◌+◌, ◌≤◌, Bool, true, false, cond, nat_lt, List, [], ◌∷◌, ◌++◌, length, get_or, replicate, Option, Some, None, Result, Ok, Err, refl, sym, ap, subst, ◌∙◌, arith}
use Rattle.std.specs.Prelude.{IfOk, IfErr}
use Rattle.std.proofs.lemmas.Bool.{le-ltb, lt-ltb, ltb-true, ltb-false}
use Rattle.std.proofs.lemmas.List.{append-nil, length-replicate}
use Rattle.cs_table.specs.Text.{lines_of}
use Rattle.cs_plan.specs.Plan.{Declared}
use Rattle.cs_history.specs.declared.event.Event.{Event}
use Rattle.cs_history.specs.declared.script.Script.{Script}
use Rattle.cs_report.specs.Names.{place_of}
use Rattle.cs_report.specs.Grammar.{Form, Start, Stamp, Minute, Up, Down, Begin, Got, Catch, EndLine, EndJob, IsForm, Entry, Starts, Stamps, Happens, FormSays, Says, IsIgnored, AreLines, StampLine, Numbered, AreEntriesOf, IsScript, plain}
use Rattle.cs_report.specs.Faults.{IsStart, IsNoLine, FailsFirst, LineFails, IsBeginning, IsFirstFault, IsFault, IsFaultOf, Means, MeansPlain}
use Rattle.cs_report.specs.Reading.{form_of}
use Rattle.cs_report.specs.Entries.{◌>>=◌, or_fault, entry_of}
use Rattle.cs_report.specs.Script.{PartialScript, Fault, Denotes, nothing, is_ignored, has_stamp, is_too_late, is_misplaced, is_start, behind_start, fitted, said_behind, with_entry, taken, numbered, lines_from, finished, numbered_script_of, script_of}
use Rattle.cs_report.specs.declared.script_fault.ScriptFault.{ScriptFault}
use Rattle.cs_report.specs.declared.script_fault.ScriptFault.TheVariants.{TooLong, BadLine, NoStart}
use Rattle.cs_report.specs.declared.script_fault.ScriptError.{ScriptError}
use Rattle.cs_report.specs.declared.script_fault.ScriptError.TheVariants.{At, OutOfMemory}
use Rattle.cs_report.specs.declared.script.TheConstants.{MAX_SCRIPT}
use Rattle.cs_report.proofs.Forms.{form_takes, form_again, no_form, no_form_again}
use Rattle.cs_report.proofs.Entries.{entry_takes, entry_again, entry_fails, entry_fails_again}
use Rattle.cs_report.proofs.Loop.{goes_on, stops_at, is_done}
use Rattle.cs_report.proofs.Taking.{behind, script_from, fine, ok_is, err_is, bind_ok, bind_err, ignored_takes, unignored, not_ignored, counts, ignored_again_here, behind_stops}
use Rattle.cs_report.proofs.Told.{entries, set_stamps, AreOnce, AreFresh, Stands, Ends, lines_told, lines_go, head_is, tail_is}

-- ---- a line after nothing

none_at : (n k : ℕ) → get_or (replicate {A = Option ℕ} n None) k None ≡ None
none_at zero k = refl
none_at (suc n) zero = refl
none_at (suc n) (suc k) = none_at n k

no_stamp : (n : ℕ) (o : Option ℕ) → has_stamp (replicate n None) o ≡ false
no_stamp n None = refl
no_stamp n (Some place) = rw (none_at n place) refl

module _ (d : Declared) where
  abbrev jobs : ℕ
  jobs = length d.anacrontab.lines

  free : (form : Form) → is_misplaced d (nothing d) form ≡ false
  unfolding is_too_late
  free (Start moment up) = refl
  free (Stamp identifier date) = no_stamp (length d.anacrontab.lines) (place_of d identifier)
  free (Minute moment) = refl
  free (Up moment) = refl
  free Down = refl
  free (Begin number) = refl
  free (Got number moment) = refl
  free (Catch identifier) = refl
  free (EndLine number moment) = refl
  free (EndJob identifier moment) = refl

  -- the draft after a start alone
  abbrev pub started : ℕ → Bool → PartialScript
  started t up = behind (t, up) (replicate (length d.anacrontab.lines) None) []

  start_only : (x y : Entry) → behind_start false x ≡ Ok y → (t : ℕ) × (up : Bool) × (x ≡ Starts t up) × (y ≡ Starts t up)
  start_only (Starts t up) y e = (t, up, refl, sym (ok_is (Starts t up) y e))
  start_only (Stamps place day) y e = absurd cc
  start_only (Happens event) y e = absurd cc

  abbrev FirstTakes : List ℕ → ℕ → PartialScript → Type 0
  FirstTakes line n more = (t : ℕ) × (up : Bool) × Says d line (Starts t up) × (more ≡ started t up)

  first_takes : (n : ℕ) (line : List ℕ) (more : PartialScript) → taken d n (nothing d) line ≡ Ok more → (IsIgnored line × (more ≡ nothing d)) ⊎ FirstTakes line n more
  unfolding taken said_behind
  first_takes n line more e = by_ignored (is_ignored line) refl e
    where
      by_ignored : (b : Bool) → is_ignored line ≡ b → cond b (Ok (nothing d)) ((or_fault BadLine (form_of line) >>= fitted d (nothing d)) >>= (λ x. fine (with_entry n x (nothing d)))) ≡ Ok more
          → (IsIgnored line × (more ≡ nothing d)) ⊎ FirstTakes line n more
      by_ignored true is e = inl (ignored_takes line is, sym (ok_is (nothing d) more e))
      by_ignored false is e =
          let a = bind_ok (or_fault BadLine (form_of line) >>= fitted d (nothing d)) (λ x. fine (with_entry n x (nothing d))) more e in
          inr (by_form (form_of line) refl a.0 a.1 (ok_is (with_entry n a.0 (nothing d)) more a.2))
        where
          by_form : (f : Option Form) → form_of line ≡ f → (x : Entry) → (or_fault BadLine f >>= fitted d (nothing d)) ≡ Ok x → with_entry n x (nothing d) ≡ more → FirstTakes line n more
          by_form None is x e same = absurd cc
          by_form (Some form) is x e same =
              let b = bind_ok (entry_of d form) (behind_start false) x (rw (free form) at e) in
              let s = start_only b.0 x b.2 in
              (s.0, s.1, (form, form_takes line form is, entry_takes d form (Starts s.0 s.1) (b.1 ∙ ap (λ (y : Entry). fine y) s.2)), sym same ∙ ap (λ (y : Entry). with_entry n y (nothing d)) s.3)

  -- why a line is the first with a fault, after nothing
  abbrev StandsFirst : List ℕ → ScriptFault → Type 0
  StandsFirst line fault = (IsNoLine line × (fault ≡ BadLine)) ⊎ ((form : Form) × IsForm line form × FailsFirst d form fault)

  no_start : (form : Form) (t : ℕ) (up : Bool) → FormSays d form (Starts t up) → IsStart form
  no_start (Start moment side) t up says = (moment, side, refl)
  no_start (Stamp identifier date) t up (s, j, date-is, name, is) = absurd cc
  no_start (Minute moment) t up (s, j, date, name, is) = absurd cc
  no_start (Up moment) t up (s, j, date, name, is) = absurd cc
  no_start Down t up (s, j, date, name, is) = absurd cc
  no_start (Begin number) t up (s, j, date, name, is) = absurd cc
  no_start (Got number moment) t up (s, j, date, name, is) = absurd cc
  no_start (Catch identifier) t up (s, j, date, name, is) = absurd cc
  no_start (EndLine number moment) t up (s, j, date, name, is) = absurd cc
  no_start (EndJob identifier moment) t up (s, j, date, name, is) = absurd cc

  is_start_of : (form : Form) (x : Entry) → IsStart form → FormSays d form x → is_start x ≡ true
  is_start_of form x (moment, up, same) (t, j, date, name, is) = rw (is, same) refl

  unstarted : (form : Form) (x : Entry) → ¬ (IsStart form) → FormSays d form x → behind_start false x ≡ Err NoStart
  unstarted form (Starts t up) none says = absurd (none (no_start form t up says))
  unstarted form (Stamps place day) none says = refl
  unstarted form (Happens event) none says = refl

  refused : (form : Form) (x : Entry) (fault : ScriptFault) → FormSays d form x → behind_start false x ≡ Err fault → FailsFirst d form fault
  refused form (Starts t up) fault says e = absurd cc
  refused form (Stamps place day) fault says e = inr (λ start. false_true (is_start_of form (Stamps place day) start says), (Stamps place day, says), sym (err_is {A = Entry} NoStart fault e))
    where
      false_true : false ≡ true → ⊥
      false_true e = cc
  refused form (Happens event) fault says e = inr (λ start. false_true (is_start_of form (Happens event) start says), (Happens event, says), sym (err_is {A = Entry} NoStart fault e))
    where
      false_true : false ≡ true → ⊥
      false_true e = cc

  first_fails : (n : ℕ) (line : List ℕ) (fault : ScriptFault) → taken d n (nothing d) line ≡ Err fault → StandsFirst line fault
  unfolding taken said_behind
  first_fails n line fault e = by_ignored (is_ignored line) refl e
    where
      by_ignored : (b : Bool) → is_ignored line ≡ b → cond b (Ok (nothing d)) ((or_fault BadLine (form_of line) >>= fitted d (nothing d)) >>= (λ x. fine (with_entry n x (nothing d)))) ≡ Err fault → StandsFirst line fault
      by_ignored true is e = absurd cc
      by_ignored false is e = elim (bind_err (or_fault BadLine (form_of line) >>= fitted d (nothing d)) (λ x. fine (with_entry n x (nothing d))) fault e) [
        | inl here ↦ by_form (form_of line) refl here
        | inr (x, one, two) ↦ absurd cc
      ]
        where
          by_form : (f : Option Form) → form_of line ≡ f → (or_fault BadLine f >>= fitted d (nothing d)) ≡ Err fault → StandsFirst line fault
          by_form None none e = inl ((not_ignored line is, no_form line none), sym (err_is {A = Entry} BadLine fault e))
          by_form (Some form) found e = inr (form, form_takes line form found, by_entry (bind_err (entry_of d form) (behind_start false) fault (rw (free form) at e)))
            where
              by_entry : (entry_of d form ≡ Err fault) ⊎ ((x : Entry) × (entry_of d form ≡ Ok x) × (behind_start false x ≡ Err fault)) → FailsFirst d form fault
              by_entry (inl fails) = inl (entry_fails d form fault fails)
              by_entry (inr (x, one, two)) = refused form x fault (entry_takes d form x one) two

  pub first_again : (n : ℕ) (line : List ℕ) (t : ℕ) (up : Bool) → Says d line (Starts t up) → taken d n (nothing d) line ≡ Ok (started t up)
  unfolding taken said_behind
  first_again n line t up (form, is, says) = rw (counts line form is, form_again line form is, free form, entry_again d form (Starts t up) says) refl

  first_stops : (n : ℕ) (line : List ℕ) (fault : ScriptFault) → StandsFirst line fault → taken d n (nothing d) line ≡ Err fault
  unfolding taken said_behind
  first_stops n line fault (inl ((counted, none), is)) = rw (unignored line counted, no_form_again line none, is) refl
  first_stops n line fault (inr (form, is, inl fails)) = rw (counts line form is, form_again line form is, free form, entry_fails_again d form fault fails) refl
  first_stops n line fault (inr (form, is, inr (none, (x, says), same))) =
      rw (counts line form is, form_again line form is, free form, entry_again d form x says, unstarted form x none says, same) refl

  -- ---- lines after nothing

  -- all lines are ignored, and the draft has nothing; or such lines are before the first fault
  record Closed (n : ℕ) (lines : List (List ℕ)) (r : Result PartialScript Fault) : Type 0 where
    before : List (List ℕ)
    later : List (List ℕ)
    parts : lines ≡ before ++ later
    said : AreLines d n before []
    number : ℕ
    place : number ≡ n + length before
    rest : ((later ≡ []) × (r ≡ Ok (nothing d))) ⊎ ((line : List ℕ) × (others : List (List ℕ)) × (fault : ScriptFault) × (later ≡ line ∷ others) × (r ≡ Err (number, fault)) × StandsFirst line fault)

  -- the first line that isn't ignored is a start, and a front of the lines is read so
  record Started (n : ℕ) (lines : List (List ℕ)) (r : Result PartialScript Fault) : Type 0 where
    start : ℕ
    t : ℕ
    up : Bool
    before : List (List ℕ)
    later : List (List ℕ)
    parts : lines ≡ before ++ later
    stamps : List StampLine
    more : List (ℕ × Event)
    said : AreLines d n before ((start, Starts t up) ∷ entries stamps more)
    once : AreOnce stamps
    number : ℕ
    place : number ≡ n + length before
    rest : Ends d (t, up) r number (set_stamps (replicate (length d.anacrontab.lines) None) stamps) more later

  Opened : ℕ → List (List ℕ) → Result PartialScript Fault → Type 0
  Opened n lines r = Closed n lines r ⊎ Started n lines r

  skip : (n : ℕ) (line : List ℕ) (lines : List (List ℕ)) (r : Result PartialScript Fault) → IsIgnored line → Opened (n + 1) lines r → Opened n (line ∷ lines) r
  unfolding Opened
  skip n line lines r ignored (inl c) = inl (record {
    before = line ∷ c.before;
    later = c.later;
    parts = ap (λ (ls : List (List ℕ)). line ∷ ls) c.parts;
    said = inl (ignored, c.said);
    number = c.number;
    place = omega (arith, c.place);
    rest = c.rest;
  })
  skip n line lines r ignored (inr s) = inr (record {
    start = s.start;
    t = s.t;
    up = s.up;
    before = line ∷ s.before;
    later = s.later;
    parts = ap (λ (ls : List (List ℕ)). line ∷ ls) s.parts;
    stamps = s.stamps;
    more = s.more;
    said = inl (ignored, s.said);
    once = s.once;
    number = s.number;
    place = omega (arith, s.place);
    rest = s.rest;
  })

  open_with : (n : ℕ) (line : List ℕ) (lines : List (List ℕ)) (r : Result PartialScript Fault) (t : ℕ) (up : Bool) → Says d line (Starts t up) → lines_from d (n + 1) (started t up) lines ≡ r → Opened n (line ∷ lines) r
  unfolding Opened
  open_with n line lines r t up says e =
      let f = lines_told d (t, up) r lines (n + 1) (replicate (length d.anacrontab.lines) None) [] (length-replicate (length d.anacrontab.lines) None) e in
      inr (record {
        start = n;
        t = t;
        up = up;
        before = line ∷ f.before;
        later = f.later;
        parts = ap (λ (ls : List (List ℕ)). line ∷ ls) f.parts;
        stamps = f.stamps;
        more = f.more;
        said = inr (Starts t up, entries f.stamps f.more, says, f.said, refl);
        once = f.once;
        number = f.number;
        place = omega (arith, f.place);
        rest = f.rest;
      })

  opened : (r : Result PartialScript Fault) (lines : List (List ℕ)) (n : ℕ) → lines_from d n (nothing d) lines ≡ r → Opened n lines r
  unfolding Opened
  opened r [] n e = inl (record {
    before = [];
    later = [];
    parts = refl;
    said = refl;
    number = n;
    place = omega arith;
    rest = inl (refl, sym e ∙ is_done d n (nothing d));
  })
  opened r (line ∷ lines) n e = by_taken (taken d n (nothing d) line) refl (opened r lines (n + 1))
    where
      by_taken : (x : Result PartialScript ScriptFault) → taken d n (nothing d) line ≡ x → (lines_from d (n + 1) (nothing d) lines ≡ r → Opened (n + 1) lines r) → Opened n (line ∷ lines) r
      by_taken (Err fault) is further = inl (record {
        before = [];
        later = line ∷ lines;
        parts = refl;
        said = refl;
        number = n;
        place = omega arith;
        rest = inr (line, lines, fault, refl, sym e ∙ stops_at d n (nothing d) line lines fault is, first_fails n line fault is);
      })
      by_taken (Ok more) is further = by_said (first_takes n line more is)
        where
          on : (next : PartialScript) → more ≡ next → lines_from d (n + 1) next lines ≡ r
          on next same = ap (λ (m : PartialScript). lines_from d (n + 1) m lines) (sym same) ∙ goes_on d n (nothing d) more line lines (ap (numbered n) is) ∙ e

          by_said : (IsIgnored line × (more ≡ nothing d)) ⊎ FirstTakes line n more → Opened n (line ∷ lines) r
          by_said (inl (ignored, same)) = skip n line lines r ignored (further (on (nothing d) same))
          by_said (inr (t, up, says, same)) = open_with n line lines r t up says (on (started t up) same)

  -- ---- and back

  none_said : (before later : List (List ℕ)) (n : ℕ) → AreLines d n before [] → lines_from d n (nothing d) (before ++ later) ≡ lines_from d (n + length before) (nothing d) later
  none_said [] later n said = ap (λ m. lines_from d m (nothing d) later) (omega arith)
  none_said (line ∷ before) later n (inl (ignored, said)) =
      sym (goes_on d n (nothing d) (nothing d) line (before ++ later) (ap (numbered n) (ignored_again_here d n (nothing d) line ignored)))
      ∙ none_said before later (n + 1) said ∙ ap (λ m. lines_from d m (nothing d) later) (omega arith)
  none_said (line ∷ before) later n (inr (x, others, says, said, is)) = absurd cc

  fresh_all : (n : ℕ) (stamps : List StampLine) → AreFresh (replicate n None) stamps
  fresh_all n stamps = λ k s below. none_at n _

  started_said : (before later : List (List ℕ)) (n start t : ℕ) (up : Bool) (stamps : List StampLine) (more : List (ℕ × Event)) → AreLines d n before ((start, Starts t up) ∷ entries stamps more) → AreOnce stamps
      → lines_from d n (nothing d) (before ++ later) ≡ lines_from d (n + length before) (behind (t, up) (set_stamps (replicate (length d.anacrontab.lines) None) stamps) more) later
  started_said [] later n start t up stamps more said once = absurd cc
  started_said (line ∷ before) later n start t up stamps more (inl (ignored, said)) once =
      sym (goes_on d n (nothing d) (nothing d) line (before ++ later) (ap (numbered n) (ignored_again_here d n (nothing d) line ignored)))
      ∙ started_said before later (n + 1) start t up stamps more said once
      ∙ ap (λ m. lines_from d m (behind (t, up) (set_stamps (replicate (length d.anacrontab.lines) None) stamps) more) later) (omega arith)
  started_said (line ∷ before) later n start t up stamps more (inr (x, others, says, said, is)) once =
      let first : x ≡ Starts t up = sym (ap (λ (p : ℕ × Entry). p.1) (head_is (start, Starts t up) (n, x) (entries stamps more) others is)) in
      let rest : others ≡ entries stamps more = sym (tail_is (start, Starts t up) (n, x) (entries stamps more) others is) in
      sym (goes_on d n (nothing d) (started t up) line (before ++ later) (ap (numbered n) (first_again n line t up (subst (Says d line) first says))))
      ∙ lines_go d (t, up) before later (n + 1) (replicate (length d.anacrontab.lines) None) [] stamps more (subst (AreLines d (n + 1) before) rest said) (fresh_all (length d.anacrontab.lines) stamps) once (inr refl)
      ∙ ap (λ m. lines_from d m (behind (t, up) (set_stamps (replicate (length d.anacrontab.lines) None) stamps) more) later) (omega arith)

-- ---- the whole text

got_ok : {A B F : Type 0} (r : Result A F) (f : A → Result B F) (y : B) → (r >>= f) ≡ Ok y → (x : A) × (r ≡ Ok x) × (f x ≡ Ok y)
got_ok (Ok x) f y e = (x, refl, e)
got_ok (Err d) f y e = absurd cc

got_err : {A B F : Type 0} (r : Result A F) (f : A → Result B F) (d : F) → (r >>= f) ≡ Err d → (r ≡ Err d) ⊎ ((x : A) × (r ≡ Ok x) × (f x ≡ Err d))
got_err (Ok x) f d e = inr (x, refl, e)
got_err (Err g) f d e = inl cc

abbrev read : {A : Type 0} → A → Result A Fault
read x = Ok x

abbrev fails : {A : Type 0} → Fault → Result A Fault
fails f = Err f

read_is : {A : Type 0} (x y : A) → read x ≡ read y → x ≡ y
read_is x y e = cc

fails_is : {A : Type 0} (x y : Fault) → fails {A = A} x ≡ fails y → x ≡ y
fails_is x y e = cc

never : {A : Type 0} (x : A) (f : Fault) → read x ≡ fails f → ⊥
never x f e = cc

module _ (d : Declared) (text : List ℕ) where
  -- the script of a start, stamps and events that were read
  abbrev script_of_parts : ℕ → Bool → List StampLine → List (ℕ × Event) → Numbered
  script_of_parts t up stamps more = script_from (t, up) (set_stamps (replicate (length d.anacrontab.lines) None) stamps) more

  told_so : (start t : ℕ) (up : Bool) (stamps : List StampLine) (more : List (ℕ × Event)) → AreOnce stamps → AreEntriesOf d ((start, Starts t up) ∷ entries stamps more) (script_of_parts t up stamps more)
  told_so start t up stamps more once = record { number = start; stamps = stamps; order = refl; once = once; days = refl }

  whole_front : (before later : List (List ℕ)) → lines_of text ≡ before ++ later → later ≡ [] → before ≡ lines_of text
  whole_front before later parts none = sym (parts ∙ ap (λ (ls : List (List ℕ)). before ++ ls) none ∙ append-nil before)

  lines_taken : (draft : PartialScript) (s : Numbered) → length text ≤ MAX_SCRIPT → lines_from d 1 (nothing d) (lines_of text) ≡ Ok draft → finished draft ≡ Ok s → IsScript d text s
  unfolding Opened
  lines_taken draft s short is done = by_opened (opened d (Ok draft) (lines_of text) 1 is)
    where
      by_closed : (c : Closed d 1 (lines_of text) (Ok draft)) → IsScript d text s
      by_closed c = elim c.rest [
        | inl (none, same) ↦ absurd (never s (0, NoStart) (sym done ∙ ap finished (read_is draft (nothing d) same)))
        | inr (line, others, fault, later, same, stands) ↦ absurd (never draft (c.number, fault) same)
      ]

      by_started : (c : Started d 1 (lines_of text) (Ok draft)) → IsScript d text s
      by_started c = elim c.rest [
        | inl (none, same) ↦
            let made : script_of_parts c.t c.up c.stamps c.more ≡ s = read_is (script_of_parts c.t c.up c.stamps c.more) s (sym (ap finished (read_is draft (behind (c.t, c.up) (set_stamps (replicate (length d.anacrontab.lines) None) c.stamps) c.more) same)) ∙ done) in
            subst (IsScript d text) made
            (record {
              short = short;
              said = (c.start, Starts c.t c.up) ∷ entries c.stamps c.more;
              lines = subst (λ (ls : List (List ℕ)). AreLines d 1 ls ((c.start, Starts c.t c.up) ∷ entries c.stamps c.more)) (whole_front c.before c.later c.parts none) c.said;
              parts = told_so c.start c.t c.up c.stamps c.more c.once;
            })
        | inr (line, others, fault, later, same, stands) ↦ absurd (never draft (c.number, fault) same)
      ]

      by_opened : Opened d 1 (lines_of text) (Ok draft) → IsScript d text s
      by_opened (inl c) = by_closed c
      by_opened (inr c) = by_started c

  pub script_takes : (s : Numbered) → numbered_script_of d text ≡ Ok s → IsScript d text s
  unfolding numbered_script_of
  script_takes s e = by_length (nat_lt MAX_SCRIPT (length text)) refl e
    where
      by_length : (t : Bool) → nat_lt MAX_SCRIPT (length text) ≡ t → cond t (Err (0, TooLong)) (lines_from d 1 (nothing d) (lines_of text) >>= finished) ≡ Ok s → IsScript d text s
      by_length true is e = absurd cc
      by_length false is e =
          let b = got_ok (lines_from d 1 (nothing d) (lines_of text)) finished s e in
          lines_taken b.0 s (ltb-false MAX_SCRIPT (length text) is) b.1 b.2

  -- a fault after a front that was read
  stands_first : (line : List ℕ) (fault : ScriptFault) → StandsFirst d line fault → LineFails d [] line fault
  stands_first line fault (inl none) = inl none
  stands_first line fault (inr (form, is, fails)) = inr (form, is, inl (refl, fails))

  stands_behind : (said : List (ℕ × Entry)) (o : ℕ × Bool) (days : List (Option ℕ)) (events : List (ℕ × Event)) (line : List ℕ) (fault : ScriptFault) → AreEntriesOf d said (script_from o days events) → Stands d o days events line fault → LineFails d said line fault
  stands_behind said o days events line fault told (inl none) = inl none
  stands_behind said o days events line fault told (inr (form, is, fails)) = inr (form, is, inr (script_from o days events, told, fails))

  lines_fail : (number : ℕ) (fault : ScriptFault) → length text ≤ MAX_SCRIPT → lines_from d 1 (nothing d) (lines_of text) ≡ Err (number, fault) → IsFirstFault d text number fault
  unfolding Opened
  lines_fail number fault short is = by_opened (opened d (Err (number, fault)) (lines_of text) 1 is)
    where
      by_closed : (c : Closed d 1 (lines_of text) (Err (number, fault))) → IsFirstFault d text number fault
      by_closed c = elim c.rest [
        | inl (none, same) ↦ absurd (never (nothing d) (number, fault) (sym same))
        | inr (line, others, f, later, same, stands) ↦
            let one = fails_is {A = PartialScript} (number, fault) (c.number, f) same in
            let at : number ≡ c.number = ap (λ (x : Fault). x.0) one in
            record {
              short = short;
              before = c.before;
              line = line;
              later = others;
              parts = c.parts ∙ ap (λ (ls : List (List ℕ)). c.before ++ ls) later;
              place = omega (arith, at, c.place);
              said = [];
              fine = c.said;
              beginning = inl refl;
              stands = subst (LineFails d [] line) (sym (ap (λ (x : Fault). x.1) one)) (stands_first line f stands);
            }
      ]

      by_started : (c : Started d 1 (lines_of text) (Err (number, fault))) → IsFirstFault d text number fault
      by_started c = elim c.rest [
        | inl (none, same) ↦ absurd (never (behind (c.t, c.up) (set_stamps (replicate (length d.anacrontab.lines) None) c.stamps) c.more) (number, fault) (sym same))
        | inr (line, others, f, later, same, stands) ↦
            let one = fails_is {A = PartialScript} (number, fault) (c.number, f) same in
            let at : number ≡ c.number = ap (λ (x : Fault). x.0) one in
            let told = told_so c.start c.t c.up c.stamps c.more c.once in
            record {
              short = short;
              before = c.before;
              line = line;
              later = others;
              parts = c.parts ∙ ap (λ (ls : List (List ℕ)). c.before ++ ls) later;
              place = omega (arith, at, c.place);
              said = (c.start, Starts c.t c.up) ∷ entries c.stamps c.more;
              fine = c.said;
              beginning = inr (script_of_parts c.t c.up c.stamps c.more, told);
              stands =
                  subst (LineFails d ((c.start, Starts c.t c.up) ∷ entries c.stamps c.more) line) (sym (ap (λ (x : Fault). x.1) one))
                  (stands_behind ((c.start, Starts c.t c.up) ∷ entries c.stamps c.more) (c.t, c.up) (set_stamps (replicate (length d.anacrontab.lines) None) c.stamps) c.more line f told stands);
            }
      ]

      by_opened : Opened d 1 (lines_of text) (Err (number, fault)) → IsFirstFault d text number fault
      by_opened (inl c) = by_closed c
      by_opened (inr c) = by_started c

  no_start_read : (draft : PartialScript) (number : ℕ) (fault : ScriptFault) → length text ≤ MAX_SCRIPT → lines_from d 1 (nothing d) (lines_of text) ≡ Ok draft → finished draft ≡ Err (number, fault) → IsFault d text number fault
  unfolding Opened
  no_start_read draft number fault short is done = by_opened (opened d (Ok draft) (lines_of text) 1 is)
    where
      by_closed : (c : Closed d 1 (lines_of text) (Ok draft)) → IsFault d text number fault
      by_closed c = elim c.rest [
        | inl (none, same) ↦
            let one = fails_is {A = Numbered} (0, NoStart) (number, fault) (sym (ap finished (read_is draft (nothing d) same)) ∙ done) in
            inr (inl (
              record { short = short; none = subst (λ (ls : List (List ℕ)). AreLines d 1 ls []) (whole_front c.before c.later c.parts none) c.said },
              sym (ap (λ (x : Fault). x.0) one),
              sym (ap (λ (x : Fault). x.1) one),
            ))
        | inr (line, others, f, later, same, stands) ↦ absurd (never draft (c.number, f) same)
      ]

      by_started : (c : Started d 1 (lines_of text) (Ok draft)) → IsFault d text number fault
      by_started c = elim c.rest [
        | inl (none, same) ↦
            absurd (never (script_of_parts c.t c.up c.stamps c.more) (number, fault) (sym (ap finished (read_is draft (behind (c.t, c.up) (set_stamps (replicate (length d.anacrontab.lines) None) c.stamps) c.more) same)) ∙ done))
        | inr (line, others, f, later, same, stands) ↦ absurd (never draft (c.number, f) same)
      ]

      by_opened : Opened d 1 (lines_of text) (Ok draft) → IsFault d text number fault
      by_opened (inl c) = by_closed c
      by_opened (inr c) = by_started c

  pub script_fails : (number : ℕ) (fault : ScriptFault) → numbered_script_of d text ≡ Err (number, fault) → IsFault d text number fault
  unfolding numbered_script_of
  script_fails number fault e = by_length (nat_lt MAX_SCRIPT (length text)) refl e
    where
      by_length : (t : Bool) → nat_lt MAX_SCRIPT (length text) ≡ t → cond t (Err (0, TooLong)) (lines_from d 1 (nothing d) (lines_of text) >>= finished) ≡ Err (number, fault) → IsFault d text number fault
      by_length true is e =
          let one = fails_is {A = Numbered} (0, TooLong) (number, fault) e in
          inl (ltb-true MAX_SCRIPT (length text) is, sym (ap (λ (x : Fault). x.0) one), sym (ap (λ (x : Fault). x.1) one))
      by_length false is e =
          let short = ltb-false MAX_SCRIPT (length text) is in
          elim (got_err (lines_from d 1 (nothing d) (lines_of text)) finished (number, fault) e) [
            | inl here ↦ inr (inr (lines_fail number fault short here))
            | inr (draft, one, two) ↦ no_start_read draft number fault short one two
          ]

  -- ---- and what is written so is read

  abbrev draft_of : Numbered → PartialScript
  draft_of s = behind (s.start.now, s.start.up) s.start.stamps s.events

  told_read : (before later : List (List ℕ)) (said : List (ℕ × Entry)) (s : Numbered) → AreLines d 1 before said → AreEntriesOf d said s → lines_from d 1 (nothing d) (before ++ later) ≡ lines_from d (1 + length before) (draft_of s) later
  told_read before later said s lines told =
      started_said d before later 1 told.number s.start.now s.start.up told.stamps s.events (subst (AreLines d 1 before) told.order lines) told.once
      ∙ ap (λ (ds : List (Option ℕ)). lines_from d (1 + length before) (behind (s.start.now, s.start.up) ds s.events) later) (sym told.days)

  script_again : (s : Numbered) → IsScript d text s → numbered_script_of d text ≡ Ok s
  unfolding numbered_script_of
  script_again s is =
      let all : lines_from d 1 (nothing d) (lines_of text) ≡ Ok (draft_of s) =
      ap (lines_from d 1 (nothing d)) (sym (append-nil (lines_of text))) ∙ told_read (lines_of text) [] is.said s is.lines is.parts ∙ is_done d (1 + length (lines_of text)) (draft_of s)
      in
      rw (le-ltb MAX_SCRIPT (length text) is.short, all) refl

  -- the lines before the fault are read, and that line fails
  first_fault_again : (number : ℕ) (fault : ScriptFault) → IsFirstFault d text number fault → lines_from d 1 (nothing d) (lines_of text) ≡ Err (number, fault)
  first_fault_again number fault f =
      let at : 1 + length f.before ≡ number = omega (arith, f.place) in
      ap (lines_from d 1 (nothing d)) f.parts ∙ by_beginning f.said f.fine f.beginning f.stands ∙ ap (λ k. fails (k, fault)) at
    where
      stopped : (draft : PartialScript) → lines_from d 1 (nothing d) (f.before ++ f.line ∷ f.later) ≡ lines_from d (1 + length f.before) draft (f.line ∷ f.later) → taken d (1 + length f.before) draft f.line ≡ Err fault
          → lines_from d 1 (nothing d) (f.before ++ f.line ∷ f.later) ≡ Err (1 + length f.before, fault)
      stopped draft read stops = read ∙ stops_at d (1 + length f.before) draft f.line f.later fault stops

      behind_nothing : (said : List (ℕ × Entry)) → said ≡ [] → AreLines d 1 f.before said → StandsFirst d f.line fault → lines_from d 1 (nothing d) (f.before ++ f.line ∷ f.later) ≡ Err (1 + length f.before, fault)
      behind_nothing said none fine stands = stopped (nothing d) (none_said d f.before (f.line ∷ f.later) 1 (subst (AreLines d 1 f.before) none fine)) (first_stops d (1 + length f.before) f.line fault stands)

      behind_script : (said : List (ℕ × Entry)) (s : Numbered) → AreEntriesOf d said s → AreLines d 1 f.before said → Stands d (s.start.now, s.start.up) s.start.stamps s.events f.line fault → lines_from d 1 (nothing d) (f.before ++ f.line ∷ f.later) ≡ Err (1 + length f.before, fault)
      behind_script said s told fine stands =
          stopped (draft_of s) (told_read f.before (f.line ∷ f.later) said s fine told) (behind_stops d (s.start.now, s.start.up) s.start.stamps s.events (1 + length f.before) f.line fault stands)

      by_beginning : (said : List (ℕ × Entry)) → AreLines d 1 f.before said → IsBeginning d said → LineFails d said f.line fault → lines_from d 1 (nothing d) (f.before ++ f.line ∷ f.later) ≡ Err (1 + length f.before, fault)
      by_beginning said fine (inl none) (inl no_line) = behind_nothing said none fine (inl no_line)
      by_beginning said fine (inr (s, told)) (inl no_line) = behind_script said s told fine (inl no_line)
      by_beginning said fine beginning (inr (form, is, inl (none, fails))) = behind_nothing said none fine (inr (form, is, fails))
      by_beginning said fine beginning (inr (form, is, inr (s, told, fails))) = behind_script said s told fine (inr (form, is, fails))

  fault_again : (number : ℕ) (fault : ScriptFault) → IsFault d text number fault → numbered_script_of d text ≡ Err (number, fault)
  unfolding numbered_script_of
  fault_again number fault (inl (long, zero-line, is)) = rw (lt-ltb MAX_SCRIPT (length text) long, zero-line, is) refl
  fault_again number fault (inr (inl (empty, zero-line, is))) =
      let all : lines_from d 1 (nothing d) (lines_of text) ≡ Ok (nothing d) =
      ap (lines_from d 1 (nothing d)) (sym (append-nil (lines_of text))) ∙ none_said d (lines_of text) [] 1 empty.none ∙ is_done d (1 + length (lines_of text)) (nothing d)
      in
      rw (le-ltb MAX_SCRIPT (length text) empty.short, all, zero-line, is) refl
  fault_again number fault (inr (inr first)) = rw (le-ltb MAX_SCRIPT (length text) first.short, first_fault_again number fault first) refl

  -- ---- what a call answered

  pub answered : (r : Result Numbered ScriptError) → Denotes (λ s. s) (numbered_script_of d text) r → IfOk r (IsScript d text) × IfErr r (IsFaultOf d text)
  answered (Ok s) e = (script_takes s e, tt)
  answered (Err OutOfMemory) e = (tt, tt)
  answered (Err (At line fault)) e = (tt, script_fails line fault e)

  pub meant : (m : Result Numbered Fault) → Means d text m → numbered_script_of d text ≡ m
  meant (Ok s) is = script_again s is
  meant (Err (number, fault)) is = fault_again number fault is

  -- the same without numbers

  plain_takes : (r : Result Numbered Fault) (s : Script) → numbered_script_of d text ≡ r → (r >>= (λ script. read (plain script))) ≡ Ok s → (script : Numbered) × IsScript d text script × (s ≡ plain script)
  plain_takes (Ok script) s is e = (script, script_takes script is, sym (read_is (plain script) s e))
  plain_takes (Err f) s is e = absurd cc

  plain_fails : (r : Result Numbered Fault) (number : ℕ) (fault : ScriptFault) → numbered_script_of d text ≡ r → (r >>= (λ script. read (plain script))) ≡ Err (number, fault) → IsFault d text number fault
  plain_fails (Ok script) number fault is e = absurd cc
  plain_fails (Err f) number fault is e = script_fails number fault (is ∙ ap (λ (x : Fault). fails x) (fails_is {A = Script} f (number, fault) e))

  pub plain_means : (m : Result Script Fault) → script_of d text ≡ m → MeansPlain d text m
  unfolding script_of
  plain_means (Ok s) e = plain_takes (numbered_script_of d text) s refl e
  plain_means (Err (number, fault)) e = plain_fails (numbered_script_of d text) number fault refl e

  pub plain_answered : (r : Result Script ScriptError) → Denotes (λ s. s) (script_of d text) r → IfOk r (λ s. MeansPlain d text (Ok s)) × IfErr r (IsFaultOf d text)
  plain_answered (Ok s) e = (plain_means (Ok s) e, tt)
  plain_answered (Err OutOfMemory) e = (tt, tt)
  plain_answered (Err (At line fault)) e = (tt, plain_means (Err (line, fault)) e)

  pub plain_meant : (m : Result Script Fault) → MeansPlain d text m → script_of d text ≡ m
  unfolding script_of
  plain_meant (Ok s) (script, is, same) = rw (script_again script is) (ap (λ (x : Script). read x) (sym same))
  plain_meant (Err (number, fault)) is = rw (fault_again number fault is) refl
