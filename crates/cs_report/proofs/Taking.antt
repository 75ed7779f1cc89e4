-- One line after a draft: its content is added, and its fault is the draft's.
use Rattle.std.proofs.Common.{◌≡◌, ◌≢◌, ◌⊎◌, inl, inr, ℕ, Bool, true, false, not, ◌||◌, ◌==◌, cond, List, [], ◌∷◌, length, get_or, Option, Some, None, Result, Ok, Err, refl, sym, ap, ◌∙◌}
use Rattle.std.specs.Prelude.{is_some}
use Rattle.std.proofs.lemmas.Bool.{eqb-true, ne_eqb, false_from_ne_true}
use Rattle.std.proofs.lemmas.List.{nil_from_length}
use Rattle.cs_plan.specs.Plan.{Declared}
use Rattle.cs_history.specs.declared.event.Event.{Event}
use Rattle.cs_report.specs.Names.{place_of}
use Rattle.cs_report.specs.Grammar.{Form, Start, Stamp, Minute, Up, Down, Begin, Got, Catch, EndLine, EndJob, IsForm, form_text, Entry, FormSays, IsIgnored, Numbered}
use Rattle.cs_report.specs.Faults.{IsMisplaced, IsNoLine, FormFails, FailsBehind}
use Rattle.cs_report.specs.Reading.{form_of}
use Rattle.cs_report.specs.Entries.{◌>>=◌, or_fault, entry_of}
use Rattle.cs_report.specs.Script.{PartialScript, is_ignored, has_stamp, is_too_late, is_misplaced, behind_start, fitted, said_behind, with_entry, taken}
use Rattle.cs_report.specs.declared.script_fault.ScriptFault.{ScriptFault}
use Rattle.cs_report.specs.declared.script_fault.ScriptFault.TheVariants.{BadLine}
use Rattle.cs_report.proofs.Forms.{form_takes, form_again, no_form, no_form_again}
use Rattle.cs_report.proofs.Entries.{entry_takes, entry_again, entry_fails, entry_fails_again}

abbrev pub fine : {A : Type 0} → A → Result A ScriptFault
fine x = Ok x

abbrev pub wrong : {A : Type 0} → ScriptFault → Result A ScriptFault
wrong f = Err f

pub ok_is : {A : Type 0} (x y : A) → fine x ≡ fine y → x ≡ y
ok_is x y e = cc

pub err_is : {A : Type 0} (f g : ScriptFault) → wrong {A = A} f ≡ wrong g → f ≡ g
err_is f g e = cc

pub bind_ok : {A B : Type 0} (r : Result A ScriptFault) (f : A → Result B ScriptFault) (y : B) → (r >>= f) ≡ Ok y → (x : A) × (r ≡ Ok x) × (f x ≡ Ok y)
bind_ok (Ok x) f y e = (x, refl, e)
bind_ok (Err d) f y e = absurd cc

pub bind_err : {A B : Type 0} (r : Result A ScriptFault) (f : A → Result B ScriptFault) (d : ScriptFault) → (r >>= f) ≡ Err d → (r ≡ Err d) ⊎ ((x : A) × (r ≡ Ok x) × (f x ≡ Err d))
bind_err (Ok x) f d e = inr (x, refl, e)
bind_err (Err g) f d e = inl cc

guard_ok : {A : Type 0} (t : Bool) (f : ScriptFault) (r : Result A ScriptFault) (y : A) → cond t (Err f) r ≡ Ok y → (t ≡ false) × (r ≡ Ok y)
guard_ok true f r y e = absurd cc
guard_ok false f r y e = (refl, e)

pub guard_err : {A : Type 0} (t : Bool) (g : ScriptFault) (r : Result A ScriptFault) (d : ScriptFault) → cond t (Err g) r ≡ Err d → ((t ≡ true) × (g ≡ d)) ⊎ ((t ≡ false) × (r ≡ Err d))
guard_err true g r d e = inl (refl, cc)
guard_err false g r d e = inr (refl, e)

-- ---- lines that are ignored

pub ignored_takes : (line : List ℕ) → is_ignored line ≡ true → IsIgnored line
ignored_takes [] e = inl refl
ignored_takes (b ∷ bs) e = inr (bs, ap (λ (c : ℕ). c ∷ bs) (eqb-true b 35 e))

ignored_again : (line : List ℕ) → IsIgnored line → is_ignored line ≡ true
ignored_again line (inl empty) = ap is_ignored empty
ignored_again line (inr (comment, is)) = ap is_ignored is

pub unignored : (line : List ℕ) → ¬ (IsIgnored line) → is_ignored line ≡ false
unignored line none = false_from_ne_true (is_ignored line) (λ e. none (ignored_takes line e))

pub not_ignored : (line : List ℕ) → is_ignored line ≡ false → ¬ (IsIgnored line)
not_ignored line e ignored = true_false (sym (ignored_again line ignored) ∙ e)
  where
    true_false : true ≡ false → ⊥
    true_false e = cc

form_counts : (form : Form) → is_ignored (form_text form) ≡ false
form_counts (Start moment up) = refl
form_counts (Stamp identifier date) = refl
form_counts (Minute moment) = refl
form_counts (Up moment) = refl
form_counts Down = refl
form_counts (Begin number) = refl
form_counts (Got number moment) = refl
form_counts (Catch identifier) = refl
form_counts (EndLine number moment) = refl
form_counts (EndJob identifier moment) = refl

pub counts : (line : List ℕ) (form : Form) → IsForm line form → is_ignored line ≡ false
counts line form is = ap is_ignored is.0 ∙ form_counts form

-- ---- forms that are out of place

-- the draft after a start, stamps and events
abbrev pub behind : ℕ × Bool → List (Option ℕ) → List (ℕ × Event) → PartialScript
behind o days events = record { opening = Some o; stamps = days; events = events }

-- the script of such a draft
abbrev pub script_from : ℕ × Bool → List (Option ℕ) → List (ℕ × Event) → Numbered
script_from o days events = record { start = record { now = o.0; up = o.1; stamps = days }; events = events }

some_event : (events : List (ℕ × Event)) → not (length events == 0) ≡ true → events ≢ []
some_event [] e = absurd cc
some_event (x ∷ xs) e = λ n. cc

some_events : (events : List (ℕ × Event)) → events ≢ [] → not (length events == 0) ≡ true
some_events events some = ap not (ne_eqb (length events) 0 (λ e. some (nil_from_length events e)))

or_cases : (a b : Bool) → (a || b) ≡ true → (a ≡ true) ⊎ (b ≡ true)
or_cases true b e = inl refl
or_cases false b e = inr e

or_left : (a b : Bool) → a ≡ true → (a || b) ≡ true
or_left a b e = rw e refl

or_right : (a b : Bool) → b ≡ true → (a || b) ≡ true
or_right true b e = refl
or_right false b e = e

-- there is a stamp of that job
abbrev IsThere : Declared → List (Option ℕ) → List ℕ → Type 0
IsThere d days identifier = (place day : ℕ) × (place_of d identifier ≡ Some place) × (get_or days place None ≡ Some day)

there_takes : (d : Declared) (days : List (Option ℕ)) (identifier : List ℕ) → has_stamp days (place_of d identifier) ≡ true → IsThere d days identifier
there_takes d days identifier e = by_place (place_of d identifier) refl e
  where
    by_day : (place : ℕ) (o : Option ℕ) → place_of d identifier ≡ Some place → get_or days place None ≡ o → is_some o ≡ true → IsThere d days identifier
    by_day place None is held e = absurd cc
    by_day place (Some day) is held e = (place, day, is, held)

    by_place : (o : Option ℕ) → place_of d identifier ≡ o → has_stamp days o ≡ true → IsThere d days identifier
    by_place None is e = absurd cc
    by_place (Some place) is e = by_day place (get_or days place None) is refl e

there_again : (d : Declared) (days : List (Option ℕ)) (identifier : List ℕ) → IsThere d days identifier → has_stamp days (place_of d identifier) ≡ true
there_again d days identifier (place, day, is, held) = rw (is, held) refl

module _ (d : Declared) (o : ℕ × Bool) (days : List (Option ℕ)) (events : List (ℕ × Event)) where
  late_takes : (identifier : List ℕ) → is_too_late d (behind o days events) identifier ≡ true → (events ≢ []) ⊎ IsThere d days identifier
  unfolding is_too_late
  late_takes identifier e = elim (or_cases (not (length events == 0)) (has_stamp days (place_of d identifier)) e) [
    | inl some ↦ inl (some_event events some)
    | inr there ↦ inr (there_takes d days identifier there)
  ]

  late_again : (identifier : List ℕ) → (events ≢ []) ⊎ IsThere d days identifier → is_too_late d (behind o days events) identifier ≡ true
  unfolding is_too_late
  late_again identifier (inl some) = or_left (not (length events == 0)) (has_stamp days (place_of d identifier)) (some_events events some)
  late_again identifier (inr there) = or_right (not (length events == 0)) (has_stamp days (place_of d identifier)) (there_again d days identifier there)

  misplaced_takes : (form : Form) → is_misplaced d (behind o days events) form ≡ true → IsMisplaced d (script_from o days events) form
  misplaced_takes (Start moment up) e = tt
  misplaced_takes (Stamp identifier date) e = late_takes identifier e
  misplaced_takes (Minute moment) e = cc
  misplaced_takes (Up moment) e = cc
  misplaced_takes Down e = cc
  misplaced_takes (Begin number) e = cc
  misplaced_takes (Got number moment) e = cc
  misplaced_takes (Catch identifier) e = cc
  misplaced_takes (EndLine number moment) e = cc
  misplaced_takes (EndJob identifier moment) e = cc

  misplaced_again : (form : Form) → IsMisplaced d (script_from o days events) form → is_misplaced d (behind o days events) form ≡ true
  misplaced_again (Start moment up) is = refl
  misplaced_again (Stamp identifier date) is = late_again identifier is
  misplaced_again (Minute moment) is = absurd is
  misplaced_again (Up moment) is = absurd is
  misplaced_again Down is = absurd is
  misplaced_again (Begin number) is = absurd is
  misplaced_again (Got number moment) is = absurd is
  misplaced_again (Catch identifier) is = absurd is
  misplaced_again (EndLine number moment) is = absurd is
  misplaced_again (EndJob identifier moment) is = absurd is

  placed : (form : Form) → ¬ (IsMisplaced d (script_from o days events) form) → is_misplaced d (behind o days events) form ≡ false
  placed form not_so = false_from_ne_true (is_misplaced d (behind o days events) form) (λ e. not_so (misplaced_takes form e))

  well_placed : (form : Form) → is_misplaced d (behind o days events) form ≡ false → ¬ (IsMisplaced d (script_from o days events) form)
  well_placed form e is = true_false (sym (misplaced_again form is) ∙ e)
    where
      true_false : true ≡ false → ⊥
      true_false e = cc

  -- ---- a line after a start

  -- what is taken of a line that counts
  abbrev pub TakesBehind : ℕ → List ℕ → PartialScript → Type 0
  TakesBehind n line more =
      (form : Form) × (x : Entry) × IsForm line form × FormSays d form x × ¬ (IsMisplaced d (script_from o days events) form) × (more ≡ with_entry n x (behind o days events))

  pub behind_takes : (n : ℕ) (line : List ℕ) (more : PartialScript) → taken d n (behind o days events) line ≡ Ok more
      → (IsIgnored line × (more ≡ behind o days events)) ⊎ TakesBehind n line more
  unfolding taken said_behind
  behind_takes n line more e = by_ignored (is_ignored line) refl e
    where
      by_ignored : (t : Bool) → is_ignored line ≡ t → cond t (Ok (behind o days events)) ((or_fault BadLine (form_of line) >>= fitted d (behind o days events)) >>= (λ x. fine (with_entry n x (behind o days events)))) ≡ Ok more
          → (IsIgnored line × (more ≡ behind o days events)) ⊎ TakesBehind n line more
      by_ignored true is e = inl (ignored_takes line is, sym (ok_is (behind o days events) more e))
      by_ignored false is e =
          let a = bind_ok (or_fault BadLine (form_of line) >>= fitted d (behind o days events)) (λ x. fine (with_entry n x (behind o days events))) more e in
          inr (by_form (form_of line) refl a.0 a.1 (ok_is (with_entry n a.0 (behind o days events)) more a.2))
        where
          by_form : (f : Option Form) → form_of line ≡ f → (x : Entry) → (or_fault BadLine f >>= fitted d (behind o days events)) ≡ Ok x → with_entry n x (behind o days events) ≡ more → TakesBehind n line more
          by_form None is x e same = absurd cc
          by_form (Some form) is x e same =
              let g = guard_ok (is_misplaced d (behind o days events) form) BadLine (entry_of d form >>= behind_start true) x e in
              let b = bind_ok (entry_of d form) (behind_start true) x g.1 in
              let x-is : b.0 ≡ x = ok_is b.0 x b.2 in
              (form, x, form_takes line form is, entry_takes d form x (b.1 ∙ ap fine x-is), well_placed form g.0, sym same)

  pub behind_fails : (n : ℕ) (line : List ℕ) (fault : ScriptFault) → taken d n (behind o days events) line ≡ Err fault
      → (IsNoLine line × (fault ≡ BadLine)) ⊎ ((form : Form) × IsForm line form × FailsBehind d (script_from o days events) form fault)
  unfolding taken said_behind
  behind_fails n line fault e = by_ignored (is_ignored line) refl e
    where
      by_ignored : (t : Bool) → is_ignored line ≡ t → cond t (Ok (behind o days events)) ((or_fault BadLine (form_of line) >>= fitted d (behind o days events)) >>= (λ x. fine (with_entry n x (behind o days events)))) ≡ Err fault
          → (IsNoLine line × (fault ≡ BadLine)) ⊎ ((form : Form) × IsForm line form × FailsBehind d (script_from o days events) form fault)
      by_ignored true is e = absurd cc
      by_ignored false is e = elim (bind_err (or_fault BadLine (form_of line) >>= fitted d (behind o days events)) (λ x. fine (with_entry n x (behind o days events))) fault e) [
        | inl here ↦ by_form (form_of line) refl here
        | inr (x, one, two) ↦ absurd cc
      ]
        where
          by_form : (f : Option Form) → form_of line ≡ f → (or_fault BadLine f >>= fitted d (behind o days events)) ≡ Err fault
              → (IsNoLine line × (fault ≡ BadLine)) ⊎ ((form : Form) × IsForm line form × FailsBehind d (script_from o days events) form fault)
          by_form None none e = inl ((not_ignored line is, no_form line none), sym (err_is {A = Entry} BadLine fault e))
          by_form (Some form) found e = inr (form, form_takes line form found, by_place (guard_err (is_misplaced d (behind o days events) form) BadLine (entry_of d form >>= behind_start true) fault e))
            where
              by_entry : (entry_of d form ≡ Err fault) ⊎ ((x : Entry) × (entry_of d form ≡ Ok x) × (behind_start true x ≡ Err fault)) → FormFails d form fault
              by_entry (inl fails) = entry_fails d form fault fails
              by_entry (inr (x, one, two)) = absurd cc

              by_place : ((is_misplaced d (behind o days events) form ≡ true) × (BadLine ≡ fault)) ⊎ ((is_misplaced d (behind o days events) form ≡ false) × ((entry_of d form >>= behind_start true) ≡ Err fault)) → FailsBehind d (script_from o days events) form fault
              by_place (inl (misplaced, same)) = inl (misplaced_takes form misplaced, sym same)
              by_place (inr (not_so, fails)) = inr (well_placed form not_so, by_entry (bind_err (entry_of d form) (behind_start true) fault fails))

  pub behind_again : (n : ℕ) (line : List ℕ) (form : Form) (x : Entry) → IsForm line form → FormSays d form x → ¬ (IsMisplaced d (script_from o days events) form)
      → taken d n (behind o days events) line ≡ Ok (with_entry n x (behind o days events))
  unfolding taken said_behind
  behind_again n line form x is says not_so = rw (counts line form is, form_again line form is, placed form not_so, entry_again d form x says) refl

  pub behind_stops : (n : ℕ) (line : List ℕ) (fault : ScriptFault)
      → (IsNoLine line × (fault ≡ BadLine)) ⊎ ((form : Form) × IsForm line form × FailsBehind d (script_from o days events) form fault)
      → taken d n (behind o days events) line ≡ Err fault
  unfolding taken said_behind
  behind_stops n line fault (inl ((counted, none), is)) = rw (unignored line counted, no_form_again line none, is) refl
  behind_stops n line fault (inr (form, is, inl (misplaced, same))) = rw (counts line form is, form_again line form is, misplaced_again form misplaced, same) refl
  behind_stops n line fault (inr (form, is, inr (not_so, fails))) = rw (counts line form is, form_again line form is, placed form not_so, entry_fails_again d form fault fails) refl

pub ignored_again_here : (d : Declared) (n : ℕ) (draft : PartialScript) (line : List ℕ) → IsIgnored line → taken d n draft line ≡ Ok draft
unfolding taken
ignored_again_here d n draft line is = rw (ignored_again line is) refl
