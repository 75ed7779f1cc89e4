-- The lines of a script one by one: those read are written so, and those written so are read.
use Rattle.std.proofs.Common.{◌≡◌, ◌≢◌, ◌⊎◌, inl, inr, ℕ, suc, ◌+◌, ◌<◌, Bool, List, [], ◌∷◌, ◌++◌, length, get_or, set, fold, map, Option, Some, None, Result, Ok, Err, refl, sym, ap, subst, ◌∙◌, append_assoc, arith}
use Rattle.std.specs.Prelude.{All, AllPairs}
use Rattle.std.proofs.lemmas.List.{append-nil, length-set, get_or-set_same, get_or-set_other}
use Rattle.std.proofs.lemmas.List.Elements.{All-nil, All-cons}
use Rattle.std.proofs.lemmas.List.Kept.{AllPairs-cons}
use Rattle.std.proofs.lemmas.List.Quantifiers.{position-Some}
use Rattle.std.specs.Str.{bytes_eq}
use Rattle.cs_plan.specs.Plan.{Declared, no_line}
use Rattle.cs_history.specs.declared.event.Event.{Event}
use Rattle.cs_report.specs.Names.{place_of}
use Rattle.cs_report.specs.Grammar.{Form, Start, Stamp, Minute, Up, Down, Begin, Got, Catch, EndLine, EndJob, IsForm, Entry, Starts, Stamps, Happens, FormSays, Says, IsIgnored, AreLines, StampLine}
use Rattle.cs_report.specs.Faults.{IsMisplaced, IsNoLine, FailsBehind}
use Rattle.cs_report.specs.Script.{PartialScript, Fault, numbered, taken, with_entry, lines_from}
use Rattle.cs_report.specs.declared.script_fault.ScriptFault.{ScriptFault}
use Rattle.cs_report.specs.declared.script_fault.ScriptFault.TheVariants.{BadLine}
use Rattle.cs_report.proofs.Loop.{goes_on, stops_at, is_done}
use Rattle.cs_report.proofs.Taking.{behind, script_from, TakesBehind, behind_takes, behind_fails, behind_again, ignored_again_here}

-- ---- lists of stamps and events

abbrev pub stamp_entry : StampLine → ℕ × Entry
stamp_entry s = (s.number, Stamps s.place s.day)

abbrev pub event_entry : ℕ × Event → ℕ × Entry
event_entry e = (e.0, Happens e.1)

abbrev pub entries : List StampLine → List (ℕ × Event) → List (ℕ × Entry)
entries stamps events = map stamp_entry stamps ++ map event_entry events

abbrev pub set_stamp : List (Option ℕ) → StampLine → List (Option ℕ)
set_stamp days s = set days s.place (Some s.day)

abbrev pub set_stamps : List (Option ℕ) → List StampLine → List (Option ℕ)
set_stamps days stamps = fold set_stamp days stamps

abbrev pub AreOnce : List StampLine → Type 0
AreOnce stamps = AllPairs (λ x y. x.place ≢ y.place) stamps

-- none of these stamps is for a job that has one
abbrev pub AreFresh : List (Option ℕ) → List StampLine → Type 0
AreFresh days stamps = All (λ s. get_or days s.place None ≡ None) stamps

all_head : {X : Type 0} (P : X → Type 0) (x : X) (xs : List X) → All P (x ∷ xs) → P x
all_head P x xs all = all 0 x (omega arith)

all_tail : {X : Type 0} (P : X → Type 0) (x : X) (xs : List X) → All P (x ∷ xs) → All P xs
all_tail P x xs all = λ k d below. all (suc k) d (omega (arith, below))

pairs_head : {X : Type 0} (R : X → X → Type 0) (x : X) (xs : List X) → AllPairs R (x ∷ xs) → All (R x) xs
pairs_head R x xs all = λ k d below. all 0 (suc k) d (omega arith) (omega (arith, below))

pairs_tail : {X : Type 0} (R : X → X → Type 0) (x : X) (xs : List X) → AllPairs R (x ∷ xs) → AllPairs R xs
pairs_tail R x xs all = λ i j d low high. all (suc i) (suc j) d (omega (arith, low)) (omega (arith, high))

pairs_nil : {X : Type 0} (R : X → X → Type 0) → AllPairs R []
pairs_nil R = λ i j d low high. absurd (omega (arith, high))

all_map : {X : Type 0} (P Q : X → Type 0) → ((x : X) → P x → Q x) → (xs : List X) → All P xs → All Q xs
all_map P Q weaker xs all = λ k d below. weaker _ (all k d below)

all_both : {X : Type 0} (P Q S : X → Type 0) → ((x : X) → P x → Q x → S x) → (xs : List X) → All P xs → All Q xs → All S xs
all_both P Q S weaker xs one two = λ k d below. weaker _ (one k d below) (two k d below)

some_none : (day : ℕ) → ◌≡◌ {A = Option ℕ} (Some day) None → ⊥
some_none day e = cc

-- ---- the forms of a stamp and an event

module _ (d : Declared) (o : ℕ × Bool) (days : List (Option ℕ)) (events : List (ℕ × Event)) where
  start_misplaced : (form : Form) (t : ℕ) (up : Bool) → FormSays d form (Starts t up) → IsMisplaced d (script_from o days events) form
  start_misplaced (Start moment side) t up says = tt
  start_misplaced (Stamp identifier date) t up (s, j, date-is, name, is) = absurd cc
  start_misplaced (Minute moment) t up (s, j, date, name, is) = absurd cc
  start_misplaced (Up moment) t up (s, j, date, name, is) = absurd cc
  start_misplaced Down t up (s, j, date, name, is) = absurd cc
  start_misplaced (Begin number) t up (s, j, date, name, is) = absurd cc
  start_misplaced (Got number moment) t up (s, j, date, name, is) = absurd cc
  start_misplaced (Catch identifier) t up (s, j, date, name, is) = absurd cc
  start_misplaced (EndLine number moment) t up (s, j, date, name, is) = absurd cc
  start_misplaced (EndJob identifier moment) t up (s, j, date, name, is) = absurd cc

  pub event_placed : (form : Form) (e : Event) → FormSays d form (Happens e) → ¬ (IsMisplaced d (script_from o days events) form)
  event_placed (Start moment side) e (s, j, date, name, is) = absurd cc
  event_placed (Stamp identifier date) e (s, j, date-is, name, is) = absurd cc
  event_placed (Minute moment) e says = λ m. m
  event_placed (Up moment) e says = λ m. m
  event_placed Down e says = λ m. m
  event_placed (Begin number) e says = λ m. m
  event_placed (Got number moment) e says = λ m. m
  event_placed (Catch identifier) e says = λ m. m
  event_placed (EndLine number moment) e says = λ m. m
  event_placed (EndJob identifier moment) e says = λ m. m

  nothing_left : (xs : List (ℕ × Event)) → ¬ (xs ≢ []) → xs ≡ []
  nothing_left [] none = refl
  nothing_left (x ∷ xs) none = absurd (none (λ e. cc))

  none_there : (place : ℕ) → ((day : ℕ) → get_or days place None ≡ Some day → ⊥) → get_or days place None ≡ None
  none_there place none = by_day (get_or days place None) refl
    where
      by_day : (q : Option ℕ) → get_or days place None ≡ q → q ≡ None
      by_day None is = refl
      by_day (Some day) is = absurd (none day is)

  place_below : (identifier : List ℕ) (place : ℕ) → place_of d identifier ≡ Some place → place < length d.anacrontab.lines
  unfolding place_of
  place_below identifier place is = (position-Some (λ line. bytes_eq line.identifier identifier) d.anacrontab.lines place no_line is).0

  -- where a stamp is in place
  abbrev StampFits : ℕ → Type 0
  StampFits place = (events ≡ []) × (get_or days place None ≡ None) × (place < length d.anacrontab.lines)

  stamp_fits : (form : Form) (place day : ℕ) → FormSays d form (Stamps place day) → ¬ (IsMisplaced d (script_from o days events) form) → StampFits place
  stamp_fits (Start moment side) place day (s, j, date, name, is) placed = absurd cc
  stamp_fits (Stamp identifier date) place day (s, j, date-is, name, is) placed =
      let same : place ≡ j = cc in
      let named : place_of d identifier ≡ Some place = name ∙ ap (λ (k : ℕ). Some k) (sym same) in (
        nothing_left events (λ some. placed (inl some)),
        none_there place (λ e held. placed (inr (place, e, named, held))),
        place_below identifier place named,
      )
  stamp_fits (Minute moment) place day (s, j, date, name, is) placed = absurd cc
  stamp_fits (Up moment) place day (s, j, date, name, is) placed = absurd cc
  stamp_fits Down place day (s, j, date, name, is) placed = absurd cc
  stamp_fits (Begin number) place day (s, j, date, name, is) placed = absurd cc
  stamp_fits (Got number moment) place day (s, j, date, name, is) placed = absurd cc
  stamp_fits (Catch identifier) place day (s, j, date, name, is) placed = absurd cc
  stamp_fits (EndLine number moment) place day (s, j, date, name, is) placed = absurd cc
  stamp_fits (EndJob identifier moment) place day (s, j, date, name, is) placed = absurd cc

  pub stamp_placed : (form : Form) (place day : ℕ) → FormSays d form (Stamps place day) → events ≡ [] → get_or days place None ≡ None → ¬ (IsMisplaced d (script_from o days events) form)
  stamp_placed (Start moment side) place day (s, j, date, name, is) none free = absurd cc
  stamp_placed (Stamp identifier date) place day (s, j, date-is, name, is) none free = by_reason
    where
      by_reason : IsMisplaced d (script_from o days events) (Stamp identifier date) → ⊥
      by_reason (inl some) = some none
      by_reason (inr (q, other, named, held)) =
          let same : place ≡ j = cc in
          let one : q ≡ place = cc in
          some_none other (sym (ap (λ k. get_or days k None) (sym one) ∙ held) ∙ free)
  stamp_placed (Minute moment) place day (s, j, date, name, is) none free = absurd cc
  stamp_placed (Up moment) place day (s, j, date, name, is) none free = absurd cc
  stamp_placed Down place day (s, j, date, name, is) none free = absurd cc
  stamp_placed (Begin number) place day (s, j, date, name, is) none free = absurd cc
  stamp_placed (Got number moment) place day (s, j, date, name, is) none free = absurd cc
  stamp_placed (Catch identifier) place day (s, j, date, name, is) none free = absurd cc
  stamp_placed (EndLine number moment) place day (s, j, date, name, is) none free = absurd cc
  stamp_placed (EndJob identifier moment) place day (s, j, date, name, is) none free = absurd cc

-- ---- lines after a start

-- a front of the lines is written as stamps and then events, and of what is left this holds
pub record Front (d : Declared) (n : ℕ) (days : List (Option ℕ)) (events : List (ℕ × Event)) (lines : List (List ℕ)) (P : ℕ → List (Option ℕ) → List (ℕ × Event) → List (List ℕ) → Type 0) : Type 0 where
  pub before : List (List ℕ)
  pub later : List (List ℕ)
  pub parts : lines ≡ before ++ later
  pub stamps : List StampLine
  pub more : List (ℕ × Event)
  pub said : AreLines d n before (entries stamps more)
  pub fresh : AreFresh days stamps
  pub once : AreOnce stamps
  pub order : (stamps ≡ []) ⊎ (events ≡ [])
  pub number : ℕ
  pub place : number ≡ n + length before
  pub rest : P number (set_stamps days stamps) (events ++ more) later

module _ (d : Declared) (P : ℕ → List (Option ℕ) → List (ℕ × Event) → List (List ℕ) → Type 0) (n : ℕ) (days : List (Option ℕ)) (events : List (ℕ × Event)) (lines : List (List ℕ)) where
  front_here : P n days events lines → Front d n days events lines P
  front_here rest = record {
    before = [];
    later = lines;
    parts = refl;
    stamps = [];
    more = [];
    said = refl;
    fresh = All-nil (λ s. get_or days s.place None ≡ None);
    once = pairs_nil (λ x y. x.place ≢ y.place);
    order = inl refl;
    number = n;
    place = omega arith;
    rest = subst (λ (es : List (ℕ × Event)). P n days es lines) (sym (append-nil events)) rest;
  }

  front_ignored : (line : List ℕ) → IsIgnored line → Front d (n + 1) days events lines P → Front d n days events (line ∷ lines) P
  front_ignored line ignored f = record {
    before = line ∷ f.before;
    later = f.later;
    parts = ap (λ (ls : List (List ℕ)). line ∷ ls) f.parts;
    stamps = f.stamps;
    more = f.more;
    said = inl (ignored, f.said);
    fresh = f.fresh;
    once = f.once;
    order = f.order;
    number = f.number;
    place = omega (arith, f.place);
    rest = f.rest;
  }

  front_stamp : (line : List ℕ) (place day : ℕ) → Says d line (Stamps place day) → events ≡ [] → get_or days place None ≡ None → place < length days
      → Front d (n + 1) (set days place (Some day)) events lines P → Front d n days events (line ∷ lines) P
  front_stamp line place day says none free below f =
      let s : StampLine = record { number = n; place = place; day = day } in
      let other : (x : StampLine) → get_or (set days place (Some day)) x.place None ≡ None → place ≢ x.place =
      λ x fresh same. some_none day (sym (get_or-set_same days place (Some day) None below) ∙ ap (λ k. get_or (set days place (Some day)) k None) same ∙ fresh)
      in
      record {
        before = line ∷ f.before;
        later = f.later;
        parts = ap (λ (ls : List (List ℕ)). line ∷ ls) f.parts;
        stamps = s ∷ f.stamps;
        more = f.more;
        said = inr (Stamps place day, entries f.stamps f.more, says, f.said, refl);
        fresh =
            All-cons (λ x. get_or days x.place None ≡ None) s f.stamps free
            (all_map (λ x. get_or (set days place (Some day)) x.place None ≡ None) (λ x. get_or days x.place None ≡ None)
            (λ x fresh. sym (get_or-set_other days place x.place (Some day) None (λ e. other x fresh (sym e))) ∙ fresh) f.stamps f.fresh);
        once =
            AllPairs-cons (λ x y. x.place ≢ y.place) s f.stamps
            (all_map (λ x. get_or (set days place (Some day)) x.place None ≡ None) (λ x. place ≢ x.place) other f.stamps f.fresh) f.once;
        order = inr none;
        number = f.number;
        place = omega (arith, f.place);
        rest = f.rest;
      }

  front_event : (line : List ℕ) (e : Event) → Says d line (Happens e) → Front d (n + 1) days (events ++ (n, e) ∷ []) lines P → Front d n days events (line ∷ lines) P
  front_event line e says f = by_order f.order
    where
      some_last : (xs : List (ℕ × Event)) (x : ℕ × Event) → xs ++ x ∷ [] ≡ [] → ⊥
      some_last [] x e = cc
      some_last (y ∷ ys) x e = cc

      by_order : (f.stamps ≡ []) ⊎ (events ++ (n, e) ∷ [] ≡ []) → Front d n days events (line ∷ lines) P
      by_order (inr none) = absurd (some_last events (n, e) none)
      by_order (inl none) = record {
        before = line ∷ f.before;
        later = f.later;
        parts = ap (λ (ls : List (List ℕ)). line ∷ ls) f.parts;
        stamps = [];
        more = (n, e) ∷ f.more;
        said = inr (Happens e, entries [] f.more, says, subst (λ (ss : List StampLine). AreLines d (n + 1) f.before (entries ss f.more)) none f.said, refl);
        fresh = All-nil (λ s. get_or days s.place None ≡ None);
        once = pairs_nil (λ x y. x.place ≢ y.place);
        order = inl refl;
        number = f.number;
        place = omega (arith, f.place);
        rest =
            subst (λ (es : List (ℕ × Event)). P f.number days es f.later) (append_assoc events ((n, e) ∷ []) f.more)
            (subst (λ (ss : List StampLine). P f.number (set_stamps days ss) ((events ++ (n, e) ∷ []) ++ f.more) f.later) none f.rest);
      }

-- ---- what is read is written so

-- why a line is the first with a fault, after a start, these stamps and these events
abbrev pub Stands : Declared → ℕ × Bool → List (Option ℕ) → List (ℕ × Event) → List ℕ → ScriptFault → Type 0
Stands d o days events line fault = (IsNoLine line × (fault ≡ BadLine)) ⊎ ((form : Form) × IsForm line form × FailsBehind d (script_from o days events) form fault)

-- nothing is left, and the draft is the answer; or the next line has the fault
abbrev pub Ends : Declared → ℕ × Bool → Result PartialScript Fault → ℕ → List (Option ℕ) → List (ℕ × Event) → List (List ℕ) → Type 0
Ends d o r number days events later =
    ((later ≡ []) × (r ≡ Ok (behind o days events)))
    ⊎ ((line : List ℕ) × (others : List (List ℕ)) × (fault : ScriptFault) × (later ≡ line ∷ others) × (r ≡ Err (number, fault)) × Stands d o days events line fault)

-- those after this line are written so
abbrev pub Further : Declared → ℕ × Bool → ℕ → List (List ℕ) → Result PartialScript Fault → Type 0
Further d o n lines r = (days : List (Option ℕ)) (events : List (ℕ × Event)) → length days ≡ length d.anacrontab.lines → lines_from d n (behind o days events) lines ≡ r → Front d n days events lines (Ends d o r)

module _ (d : Declared) (o : ℕ × Bool) (n : ℕ) (days : List (Option ℕ)) (events : List (ℕ × Event)) (line : List ℕ) (lines : List (List ℕ)) (r : Result PartialScript Fault) where
  line_told : length days ≡ length d.anacrontab.lines → lines_from d n (behind o days events) (line ∷ lines) ≡ r → Further d o (n + 1) lines r → Front d n days events (line ∷ lines) (Ends d o r)
  line_told long e further = by_taken (taken d n (behind o days events) line) refl
    where
      by_taken : (t : Result PartialScript ScriptFault) → taken d n (behind o days events) line ≡ t → Front d n days events (line ∷ lines) (Ends d o r)
      by_taken (Err fault) is =
          front_here d (Ends d o r) n days events (line ∷ lines)
          (inr (line, lines, fault, refl, sym e ∙ stops_at d n (behind o days events) line lines fault is, behind_fails d o days events n line fault is))
      by_taken (Ok more) is = by_said (behind_takes d o days events n line more is)
        where
          on : (next : PartialScript) → more ≡ next → lines_from d (n + 1) next lines ≡ r
          on next same = ap (λ (m : PartialScript). lines_from d (n + 1) m lines) (sym same) ∙ goes_on d n (behind o days events) more line lines (ap (numbered n) is) ∙ e

          by_entry : (form : Form) (x : Entry) → IsForm line form → FormSays d form x → ¬ (IsMisplaced d (script_from o days events) form) → more ≡ with_entry n x (behind o days events) → Front d n days events (line ∷ lines) (Ends d o r)
          by_entry form (Starts t up) written says placed same = absurd (placed (start_misplaced d o days events form t up says))
          by_entry form (Stamps place day) written says placed same =
              let f = stamp_fits d o days events form place day says placed in
              front_stamp d (Ends d o r) n days events lines line place day (form, written, says) f.0 f.1 (omega (arith, f.2, long))
              (further (set days place (Some day)) events (length-set days place (Some day) ∙ long) (on (behind o (set days place (Some day)) events) same))
          by_entry form (Happens event) written says placed same =
              front_event d (Ends d o r) n days events lines line event (form, written, says)
              (further days (events ++ (n, event) ∷ []) long (on (behind o days (events ++ (n, event) ∷ [])) same))

          by_said : (IsIgnored line × (more ≡ behind o days events)) ⊎ TakesBehind d o days events n line more → Front d n days events (line ∷ lines) (Ends d o r)
          by_said (inl (ignored, same)) = front_ignored d (Ends d o r) n days events lines line ignored (further days events long (on (behind o days events) same))
          by_said (inr (form, x, written, says, placed, same)) = by_entry form x written says placed same

pub lines_told : (d : Declared) (o : ℕ × Bool) (r : Result PartialScript Fault) (lines : List (List ℕ)) (n : ℕ) → Further d o n lines r
lines_told d o r [] n days events long e = front_here d (Ends d o r) n days events [] (inl (refl, sym e ∙ is_done d n (behind o days events)))
lines_told d o r (line ∷ lines) n days events long e = line_told d o n days events line lines r long e (lines_told d o r lines (n + 1))

-- ---- what is written so is read

abbrev pub Goes : Declared → ℕ × Bool → ℕ → List (List ℕ) → List (List ℕ) → Type 0
Goes d o n before later =
    (days : List (Option ℕ)) (events : List (ℕ × Event)) (stamps : List StampLine) (more : List (ℕ × Event)) → AreLines d n before (entries stamps more) → AreFresh days stamps → AreOnce stamps → (stamps ≡ []) ⊎ (events ≡ [])
    → lines_from d n (behind o days events) (before ++ later) ≡ lines_from d (n + length before) (behind o (set_stamps days stamps) (events ++ more)) later

pub head_is : (x y : ℕ × Entry) (xs ys : List (ℕ × Entry)) → x ∷ xs ≡ y ∷ ys → x ≡ y
head_is x y xs ys e = cc

pub tail_is : (x y : ℕ × Entry) (xs ys : List (ℕ × Entry)) → x ∷ xs ≡ y ∷ ys → xs ≡ ys
tail_is x y xs ys e = cc

module _ (d : Declared) (o : ℕ × Bool) (n : ℕ) (line : List ℕ) (before later : List (List ℕ)) (further : Goes d o (n + 1) before later) where
  abbrev at_end : (n + 1) + length before ≡ n + length (line ∷ before)
  at_end = omega arith

  go_ignored : IsIgnored line → (days : List (Option ℕ)) (events : List (ℕ × Event)) (stamps : List StampLine) (more : List (ℕ × Event)) → AreLines d (n + 1) before (entries stamps more) → AreFresh days stamps → AreOnce stamps → (stamps ≡ []) ⊎ (events ≡ [])
      → lines_from d n (behind o days events) ((line ∷ before) ++ later) ≡ lines_from d (n + length (line ∷ before)) (behind o (set_stamps days stamps) (events ++ more)) later
  go_ignored ignored days events stamps more said fresh once order =
      sym (goes_on d n (behind o days events) (behind o days events) line (before ++ later) (ap (numbered n) (ignored_again_here d n (behind o days events) line ignored)))
      ∙ further days events stamps more said fresh once order
      ∙ ap (λ m. lines_from d m (behind o (set_stamps days stamps) (events ++ more)) later) at_end

  go_stamp : (days : List (Option ℕ)) (events : List (ℕ × Event)) (s : StampLine) (stamps : List StampLine) (more : List (ℕ × Event)) → Says d line (Stamps s.place s.day) → AreLines d (n + 1) before (entries stamps more)
      → AreFresh days (s ∷ stamps) → AreOnce (s ∷ stamps) → events ≡ []
      → lines_from d n (behind o days events) ((line ∷ before) ++ later) ≡ lines_from d (n + length (line ∷ before)) (behind o (set_stamps days (s ∷ stamps)) (events ++ more)) later
  go_stamp days events s stamps more (form, written, says) said fresh once none =
      let next : List (Option ℕ) = set days s.place (Some s.day) in
      let free = all_head (λ x. get_or days x.place None ≡ None) s stamps fresh in
      let placed = stamp_placed d o days events form s.place s.day says none free in
      sym (goes_on d n (behind o days events) (behind o next events) line (before ++ later) (ap (numbered n) (behind_again d o days events n line form (Stamps s.place s.day) written says placed)))
      ∙ further next events stamps more said
      (all_both (λ x. get_or days x.place None ≡ None) (λ x. s.place ≢ x.place) (λ x. get_or next x.place None ≡ None)
      (λ x free other. get_or-set_other days s.place x.place (Some s.day) None (λ e. other (sym e)) ∙ free) stamps
      (all_tail (λ x. get_or days x.place None ≡ None) s stamps fresh) (pairs_head (λ x y. x.place ≢ y.place) s stamps once))
      (pairs_tail (λ x y. x.place ≢ y.place) s stamps once) (inr none)
      ∙ ap (λ m. lines_from d m (behind o (set_stamps next stamps) (events ++ more)) later) at_end

  go_event : (days : List (Option ℕ)) (events : List (ℕ × Event)) (e : Event) (more : List (ℕ × Event)) → Says d line (Happens e) → AreLines d (n + 1) before (entries [] more)
      → lines_from d n (behind o days events) ((line ∷ before) ++ later) ≡ lines_from d (n + length (line ∷ before)) (behind o days (events ++ (n, e) ∷ more)) later
  go_event days events e more (form, written, says) said =
      sym (goes_on d n (behind o days events) (behind o days (events ++ (n, e) ∷ [])) line (before ++ later) (ap (numbered n) (behind_again d o days events n line form (Happens e) written says (event_placed d o days events form e says))))
      ∙ further days (events ++ (n, e) ∷ []) [] more said (All-nil (λ s. get_or days s.place None ≡ None)) (pairs_nil (λ x y. x.place ≢ y.place)) (inl refl)
      ∙ ap (λ m. lines_from d m (behind o days ((events ++ (n, e) ∷ []) ++ more)) later) at_end
      ∙ ap (λ (es : List (ℕ × Event)). lines_from d (n + length (line ∷ before)) (behind o days es) later) (append_assoc events ((n, e) ∷ []) more)

  go_line : (days : List (Option ℕ)) (events : List (ℕ × Event)) (stamps : List StampLine) (more : List (ℕ × Event)) → AreLines d n (line ∷ before) (entries stamps more) → AreFresh days stamps → AreOnce stamps → (stamps ≡ []) ⊎ (events ≡ [])
      → lines_from d n (behind o days events) ((line ∷ before) ++ later) ≡ lines_from d (n + length (line ∷ before)) (behind o (set_stamps days stamps) (events ++ more)) later
  go_line days events stamps more (inl (ignored, said)) fresh once order = go_ignored ignored days events stamps more said fresh once order
  go_line days events [] [] (inr (x, others, says, said, is)) fresh once order = absurd cc
  go_line days events [] (e ∷ more) (inr (x, others, says, said, is)) fresh once order =
      let first = head_is (event_entry e) (n, x) (entries [] more) others is in
      let behind-is = tail_is (event_entry e) (n, x) (entries [] more) others is in
      let number : n ≡ e.0 = sym (ap (λ (p : ℕ × Entry). p.0) first) in
      go_event days events e.1 more (subst (Says d line) (sym (ap (λ (p : ℕ × Entry). p.1) first)) says) (subst (AreLines d (n + 1) before) (sym behind-is) said)
      ∙ ap (λ k. lines_from d (n + length (line ∷ before)) (behind o days (events ++ (k, e.1) ∷ more)) later) number
  go_line days events (s ∷ stamps) more (inr (x, others, says, said, is)) fresh once order =
      let first = head_is (stamp_entry s) (n, x) (entries stamps more) others is in
      let behind-is = tail_is (stamp_entry s) (n, x) (entries stamps more) others is in
      go_stamp days events s stamps more (subst (Says d line) (sym (ap (λ (p : ℕ × Entry). p.1) first)) says) (subst (AreLines d (n + 1) before) (sym behind-is) said) fresh once (by_order order)
    where
      by_order : (s ∷ stamps ≡ []) ⊎ (events ≡ []) → events ≡ []
      by_order (inl e) = absurd cc
      by_order (inr none) = none

pub lines_go : (d : Declared) (o : ℕ × Bool) (before later : List (List ℕ)) (n : ℕ) → Goes d o n before later
lines_go d o [] later n days events [] [] said fresh once order =
    ap (λ m. lines_from d m (behind o days events) later) (omega arith) ∙ ap (λ (es : List (ℕ × Event)). lines_from d (n + 0) (behind o days es) later) (sym (append-nil events))
lines_go d o [] later n days events [] (e ∷ more) said fresh once order = absurd cc
lines_go d o [] later n days events (s ∷ stamps) more said fresh once order = absurd cc
lines_go d o (line ∷ before) later n days events stamps more said fresh once order = go_line d o n line before later (lines_go d o before later (n + 1)) days events stamps more said fresh once order
