-- Five fields: what is read is written so, and what is written so is read.
use Rattle.std.proofs.Common.{◌≡◌, ◌≢◌, ℕ, Bool, true, false, not, ◌&&◌, List, [], ◌∷◌, ◌++◌, length, Result, Ok, refl, sym, ap, subst, ◌∙◌}
use Rattle.std.specs.List.{list_all}
use Rattle.cs_schedule.specs.Times.{Choice, Times}
use Rattle.cs_schedule.specs.declared.part.Part.{Part}
use Rattle.cs_schedule.specs.declared.part.Part.TheVariants as parts
use Rattle.cs_crontab.specs.declared.fault.LineFault.{LineFault}
use Rattle.cs_crontab.specs.declared.fault.LineFault.TheVariants as faults
use Rattle.cs_table.specs.Text.{front, after, is_blank, is_solid, Are, StopsAt, is_nothing}
use Rattle.cs_crontab.specs.Reading.{field_of, field_at, schedule_at}
use Rattle.cs_table.specs.declared.fault.Wrong.{Wrong}
use Rattle.cs_table.specs.Wrong.{◌>>=◌, at_end, moved}
use Rattle.cs_crontab.specs.Grammar.{IsField, AreFields, fields_of}
use Rattle.cs_table.proofs.Spans.{front_again, after_again, parts_joined, front_passes, after_stops, some_from, some_to, front_some, gap_some, gap_stops, joined_some}
use Rattle.cs_table.proofs.Results.{bind_ok, guard_ok, ok_is, moved_ok}
use Rattle.cs_crontab.proofs.Fields.{field_takes, field_again}

abbrev done : {A : Type 0} → A → Result A (Wrong LineFault)
done x = Ok x

-- what a field takes of the text, where something follows it
abbrev Step : Part → List ℕ → Choice → List ℕ → Type 0
Step part text field rest = (word gap : List ℕ) × (text ≡ word ++ (gap ++ rest)) × Are is_solid word × Are is_blank gap × StopsAt is_blank rest × IsField part word field

field_some : (part : Part) (text : List ℕ) (x : Choice × List ℕ) → field_at part text ≡ Ok x → text ≢ []
unfolding field_at
field_some part text x e = some_from text (guard_ok (is_nothing text) (at_end faults.MissingField) (moved (length (after is_solid text)) (field_of part (front is_solid text)) >>= λ field. Ok (field, after is_blank (after is_solid text))) x e).0

field_step : (part : Part) (text : List ℕ) (x : Choice × List ℕ) → StopsAt is_blank text → field_at part text ≡ Ok x → x.1 ≢ [] → Step part text x.0 x.1
unfolding field_at
field_step part text x stop e some =
    let rest : List ℕ = after is_solid text in
    let g = guard_ok (is_nothing text) (at_end faults.MissingField) (moved (length rest) (field_of part (front is_solid text)) >>= λ field. Ok (field, after is_blank rest)) x e in
    let one = bind_ok (moved (length rest) (field_of part (front is_solid text))) (λ field. Ok (field, after is_blank rest)) x g.1 in
    let is : (one.0, after is_blank rest) ≡ x = ok_is (one.0, after is_blank rest) x one.2 in
    let follows : after is_blank rest ≢ [] = λ empty. some (sym (ap (λ (p : Choice × List ℕ). p.1) is) ∙ empty) in
    let joined : text ≡ front is_solid text ++ (front is_blank rest ++ after is_blank rest) = sym (parts_joined is_solid text) ∙ ap (λ (l : List ℕ). front is_solid text ++ l) (sym (parts_joined is_blank rest)) in
    let made : Step part text one.0 (after is_blank rest) =
    (front is_solid text, front is_blank rest, joined, (front_passes is_solid text, front_some text (some_from text g.0) stop), (front_passes is_blank rest, gap_some rest (after_stops is_solid text) follows), after_stops is_blank rest, field_takes part (front is_solid text) one.0 (moved_ok (length rest) (field_of part (front is_solid text)) one.0 one.1))
    in
    subst (λ (p : Choice × List ℕ). Step part text p.0 p.1) is made

step_again : (part : Part) (text rest : List ℕ) (field : Choice) → Step part text field rest → field_at part text ≡ Ok (field, rest)
unfolding field_at
step_again part text rest field (word, gap, is, solid, blank, stop, written) =
    ap (field_at part) is
    ∙ rw (some_to (word ++ (gap ++ rest)) (joined_some word (gap ++ rest) solid.1), front_again is_solid word (gap ++ rest) solid.0 (gap_stops gap rest blank), after_again is_solid word (gap ++ rest) solid.0 (gap_stops gap rest blank), after_again is_blank gap rest blank.0 stop, field_again part word field written) refl

pub schedule_takes : (text : List ℕ) (x : Times × List ℕ) → StopsAt is_blank text → schedule_at text ≡ Ok x → x.1 ≢ [] → AreFields (fields_of x.0) text x.1
unfolding schedule_at
schedule_takes text x stop e some =
    let a = bind_ok (field_at parts.Minute text) (λ minute. field_at parts.Hour minute.1 >>= λ hour. field_at parts.Dom hour.1 >>= λ dom. field_at parts.Month dom.1 >>= λ month. field_at parts.Dow month.1 >>= λ dow. Ok (record { minute = minute.0; hour = hour.0; dom = dom.0; month = month.0; dow = dow.0 }, dow.1)) x e in
    let b = bind_ok (field_at parts.Hour a.0.1) (λ hour. field_at parts.Dom hour.1 >>= λ dom. field_at parts.Month dom.1 >>= λ month. field_at parts.Dow month.1 >>= λ dow. Ok (record { minute = a.0.0; hour = hour.0; dom = dom.0; month = month.0; dow = dow.0 }, dow.1)) x a.2 in
    let c = bind_ok (field_at parts.Dom b.0.1) (λ dom. field_at parts.Month dom.1 >>= λ month. field_at parts.Dow month.1 >>= λ dow. Ok (record { minute = a.0.0; hour = b.0.0; dom = dom.0; month = month.0; dow = dow.0 }, dow.1)) x b.2 in
    let d = bind_ok (field_at parts.Month c.0.1) (λ month. field_at parts.Dow month.1 >>= λ dow. Ok (record { minute = a.0.0; hour = b.0.0; dom = c.0.0; month = month.0; dow = dow.0 }, dow.1)) x c.2 in
    let f = bind_ok (field_at parts.Dow d.0.1) (λ dow. Ok (record { minute = a.0.0; hour = b.0.0; dom = c.0.0; month = d.0.0; dow = dow.0 }, dow.1)) x d.2 in
    let made : Times × List ℕ = (record { minute = a.0.0; hour = b.0.0; dom = c.0.0; month = d.0.0; dow = f.0.0 }, f.0.1) in
    let is : made ≡ x = ok_is made x f.2 in
    let last : f.0.1 ≢ [] = λ empty. some (sym (ap (λ (p : Times × List ℕ). p.1) is) ∙ empty) in
    let s1 = field_step parts.Minute text a.0 stop a.1 (field_some parts.Hour a.0.1 b.0 b.1) in
    let s2 = field_step parts.Hour a.0.1 b.0 s1.5 b.1 (field_some parts.Dom b.0.1 c.0 c.1) in
    let s3 = field_step parts.Dom b.0.1 c.0 s2.5 c.1 (field_some parts.Month c.0.1 d.0 d.1) in
    let s4 = field_step parts.Month c.0.1 d.0 s3.5 d.1 (field_some parts.Dow d.0.1 f.0 f.1) in
    let s5 = field_step parts.Dow d.0.1 f.0 s4.5 f.1 last in
    subst (λ (p : Times × List ℕ). AreFields (fields_of p.0) text p.1) is (
      s1.0,
      s1.1,
      a.0.1,
      s1.2,
      s1.3,
      s1.4,
      s1.5,
      s1.6,
      (
        s2.0,
        s2.1,
        b.0.1,
        s2.2,
        s2.3,
        s2.4,
        s2.5,
        s2.6,
        (
          s3.0,
          s3.1,
          c.0.1,
          s3.2,
          s3.3,
          s3.4,
          s3.5,
          s3.6,
          (
            s4.0,
            s4.1,
            d.0.1,
            s4.2,
            s4.3,
            s4.4,
            s4.5,
            s4.6,
            (s5.0, s5.1, f.0.1, s5.2, s5.3, s5.4, s5.5, s5.6, refl),
          ),
        ),
      ),
    )

pub schedule_again : (text command : List ℕ) (s : Times) → AreFields (fields_of s) text command → schedule_at text ≡ Ok (s, command)
unfolding schedule_at
schedule_again text command s (w1, g1, r1, e1, a1, b1, c1, f1, (w2, g2, r2, e2, a2, b2, c2, f2, (w3, g3, r3, e3, a3, b3, c3, f3, (w4, g4, r4, e4, a4, b4, c4, f4, (w5, g5, r5, e5, a5, b5, c5, f5, e6))))) =
    rw (step_again parts.Minute text r1 s.minute (w1, g1, e1, a1, b1, c1, f1), step_again parts.Hour r1 r2 s.hour (w2, g2, e2, a2, b2, c2, f2), step_again parts.Dom r2 r3 s.dom (w3, g3, e3, a3, b3, c3, f3), step_again parts.Month r3 r4 s.month (w4, g4, e4, a4, b4, c4, f4), step_again parts.Dow r4 r5 s.dow (w5, g5, e5, a5, b5, c5, f5))
    (ap (λ (l : List ℕ). done (s, l)) e6)
