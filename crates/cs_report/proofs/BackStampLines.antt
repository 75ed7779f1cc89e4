-- The lines of stamps are read back as these stamps.
use Rattle.std.proofs.Common.{◌≡◌, ℕ, suc, ◌+◌, ◌≤◌, Bool, true, ◌&&◌, nat_le, List, [], ◌∷◌, ◌++◌, length, get_or, replicate, Option, Some, None, refl, sym, ap, ◌∙◌, arith}
use Rattle.std.specs.Prelude.{AllPairs, ◌≢◌}
use Rattle.std.proofs.lemmas.Bool.{leb-true}
use Rattle.std.proofs.lemmas.List.{append_assoc, length-append}
use Rattle.cs_civil.specs.Calendar.{last_day}
use Rattle.cs_anacrontab.specs.Anacrontab.{JobLine}
use Rattle.cs_plan.specs.Plan.{Declared, no_line}
use Rattle.cs_report.specs.Script.{lines_from, numbered}
use Rattle.cs_report.specs.Reading.{is_word}
use Rattle.cs_report.specs.Names.{place_of}
use Rattle.cs_report.specs.ScriptText.{is_name, are_nameable_stamps}
use Rattle.cs_report.proofs.NamedJobs.{and_left, and_right}
use Rattle.cs_report.specs.Grammar.{IsWord}
use Rattle.cs_report.proofs.Forms.{is_word_takes}
use Rattle.cs_report.proofs.Loop.{goes_on}
use Rattle.cs_report.proofs.BackNames.{place_back}
use Rattle.cs_report.proofs.BackStamps.{reading, stamp_text, taken_stamp}

abbrev pub stamp_texts : List JobLine → List (Option ℕ) → List (List ℕ)
stamp_texts [] stamps = []
stamp_texts (line ∷ lines) [] = []
stamp_texts (line ∷ lines) (None ∷ stamps) = stamp_texts lines stamps
stamp_texts (line ∷ lines) (Some day ∷ stamps) = stamp_text line.identifier day ∷ stamp_texts lines stamps

here : (before lines : List JobLine) (line : JobLine) → get_or (before ++ line ∷ lines) (length before) no_line ≡ line
here [] lines line = refl
here (l ∷ before) lines line = here before lines line

named_word : (text : List ℕ) → is_name text ≡ true → IsWord text
unfolding is_name
named_word text h = is_word_takes text (and_left (is_word text) _ h)

module _ (d : Declared) (distinct : AllPairs (λ x y. x.identifier ≢ y.identifier) d.anacrontab.lines) (o : ℕ × Bool) where
  place_here : (before lines : List JobLine) (line : JobLine) → d.anacrontab.lines ≡ before ++ line ∷ lines → place_of d line.identifier ≡ Some (length before)
  place_here before lines line e =
      let there : get_or d.anacrontab.lines (length before) no_line ≡ line = ap (λ (ls : List JobLine). get_or ls (length before) no_line) e ∙ here before lines line in
      let long : length d.anacrontab.lines ≡ length before + suc (length lines) = ap (λ (ls : List JobLine). length ls) e ∙ length-append before (line ∷ lines) in
      ap (λ (l : JobLine). place_of d l.identifier) (sym there) ∙ place_back d (length before) distinct (omega (arith, long))

  pub stamps_read : (lines : List JobLine) (n : ℕ) (before : List JobLine) (done stamps : List (Option ℕ)) (rest : List (List ℕ))
      → d.anacrontab.lines ≡ before ++ lines → length before ≡ length done → are_nameable_stamps lines stamps ≡ true
      → lines_from d n (reading o (done ++ replicate (length lines) None)) (stamp_texts lines stamps ++ rest) ≡ lines_from d (n + length (stamp_texts lines stamps)) (reading o (done ++ stamps)) rest
  unfolding are_nameable_stamps
  stamps_read [] n before done [] rest e same h = ap (λ (m : ℕ). lines_from d m (reading o (done ++ [])) rest) (omega arith)
  stamps_read [] n before done (s ∷ stamps) rest e same h = absurd cc
  stamps_read (line ∷ lines) n before done [] rest e same h = absurd cc
  stamps_read (line ∷ lines) n before done (None ∷ stamps) rest e same h =
      ap (λ (ss : List (Option ℕ)). lines_from d n (reading o ss) (stamp_texts lines stamps ++ rest)) (sym (append_assoc done (None ∷ []) (replicate (length lines) None)))
      ∙ stamps_read lines n (before ++ line ∷ []) (done ++ None ∷ []) stamps rest (e ∙ sym (append_assoc before (line ∷ []) lines))
      (length-append before (line ∷ []) ∙ ap (λ (m : ℕ). m + 1) same ∙ sym (length-append done (None ∷ []))) h
      ∙ ap (λ (ss : List (Option ℕ)). lines_from d (n + length (stamp_texts lines stamps)) (reading o ss) rest) (append_assoc done (None ∷ []) stamps)
  stamps_read (line ∷ lines) n before done (Some day ∷ stamps) rest e same h =
      let here : Bool = nat_le 1 day && (nat_le day last_day && is_name line.identifier) in
      let nameable = and_left here (are_nameable_stamps lines stamps) h in
      let bounded = and_right (nat_le 1 day) (nat_le day last_day && is_name line.identifier) nameable in
      let word : IsWord line.identifier = named_word line.identifier (and_right (nat_le day last_day) (is_name line.identifier) bounded) in
      let from : 1 ≤ day = leb-true 1 day (and_left (nat_le 1 day) (nat_le day last_day && is_name line.identifier) nameable) in
      let to : day ≤ last_day = leb-true day last_day (and_left (nat_le day last_day) (is_name line.identifier) bounded) in
      let place : place_of d line.identifier ≡ Some (length done) = place_here before lines line e ∙ ap (λ (m : ℕ). Some m) same in
      let more : List (Option ℕ) = replicate (length lines) None in
      let taken_here = taken_stamp d n o done (replicate (length lines) None) line.identifier day word place from to in
      sym (goes_on d n (reading o (done ++ None ∷ replicate (length lines) None)) (reading o (done ++ Some day ∷ replicate (length lines) None)) (stamp_text line.identifier day) (stamp_texts lines stamps ++ rest) (ap (numbered n) taken_here))
      ∙ ap (λ (ss : List (Option ℕ)). lines_from d (n + 1) (reading o ss) (stamp_texts lines stamps ++ rest)) (sym (append_assoc done (Some day ∷ []) (replicate (length lines) None)))
      ∙ stamps_read lines (n + 1) (before ++ line ∷ []) (done ++ Some day ∷ []) stamps rest (e ∙ sym (append_assoc before (line ∷ []) lines))
      (length-append before (line ∷ []) ∙ ap (λ (m : ℕ). m + 1) same ∙ sym (length-append done (Some day ∷ []))) (and_right here (are_nameable_stamps lines stamps) h)
      ∙ ap (λ (ss : List (Option ℕ)). lines_from d (n + 1 + length (stamp_texts lines stamps)) (reading o ss) rest) (append_assoc done (Some day ∷ []) stamps)
      ∙ ap (λ (m : ℕ). lines_from d m (reading o (done ++ Some day ∷ stamps)) rest) (omega arith)
