-- Forms: a form that is read is written so, and one that is written so is read.
use Rattle.std.proofs.Common.{◌≡◌, ◌≢◌, ◌⊎◌, inl, inr, ℕ, ◌-◌, Bool, true, false, not, ◌&&◌, ◌==◌, nat_eq, cond, List, [], ◌∷◌, ◌++◌, length, take, get_or, Option, Some, None, refl, sym, ap, subst, ◌∙◌, append_assoc, arith}
use Rattle.std.specs.Prelude.{codes}
use Rattle.std.specs.Cmp.{unsigned_Decides}
use Rattle.std.specs.List.{list_all, ends_with}
use Rattle.std.specs.Str.{bytes_eq}
use Rattle.std.proofs.lemmas.Bool.{eqb-true, ne_eqb, false_from_ne_true}
use Rattle.std.proofs.lemmas.Bool.Decides.{nat_tests}
use Rattle.std.proofs.lemmas.List.{length-append, nil_from_length}
use Rattle.std.proofs.lemmas.List.Folds.{list_all-append}
use Rattle.std.proofs.lemmas.Slice.Eq.{bytes_eq-Decides, ends_is}
use Rattle.std.proofs.Math.Seq.{take-append_seam, get_or-append_seam}
use Rattle.cs_table.specs.Text.{Are, StopsAt, front, after, is_digit}
use Rattle.cs_table.proofs.Spans.{front_again, after_again, parts_joined, front_passes, after_stops, list_all_weaker}
use Rattle.cs_report.specs.Grammar.{is_word_byte, IsWord, IsNumber, IsMoment, Form, Start, Stamp, Minute, Up, Down, Begin, Got, Catch, EndLine, EndJob, side, form_text, IsWhole, IsForm}
use Rattle.cs_report.specs.Reading.{◌>>=◌, is_nothing, parted, first_word, is_word, is_number, is_word_behind, is_moment, start_at, start_form, stamp_form, minute_form, up_form, begin_form, line_run, job_run, got_form, catch_form, ended, end_form, form_behind, form_of}
use Rattle.cs_report.proofs.NamedJobs.{and_left, and_right}

abbrev found : {A : Type 0} → A → Option A
found x = Some x

some_is : {A : Type 0} (x y : A) → found x ≡ found y → x ≡ y
some_is x y e = cc

-- what a test that passed was followed by
guarded : {A : Type 0} (t : Bool) (x y : A) → cond t (found x) None ≡ found y → (t ≡ true) × (x ≡ y)
guarded true x y e = (refl, cc)
guarded false x y e = absurd cc

bind_some : {A B : Type 0} (o : Option A) (f : A → Option B) (y : B) → (o >>= f) ≡ Some y → (x : A) × (o ≡ Some x) × (f x ≡ Some y)
bind_some (Some x) f y e = (x, refl, e)
bind_some None f y e = absurd cc

same_text : (xs ys : List ℕ) → bytes_eq xs ys ≡ true → xs ≡ ys
same_text xs ys e = (bytes_eq-Decides xs ys).0 e

-- ---- words

something : (w : List ℕ) → w ≢ [] → is_nothing w ≡ false
something w some = ne_eqb (length w) 0 (λ e. some (nil_from_length w e))

pub word_again : (w rest : List ℕ) → IsWord w → first_word (w ++ 32 ∷ rest) ≡ Some (w, rest)
unfolding first_word
word_again w rest (all, some) =
    rw (front_again is_word_byte w (32 ∷ rest) all refl, after_again is_word_byte w (32 ∷ rest) all refl, something w some) refl

space_is : (b : ℕ) → is_word_byte b ≡ false → b ≡ 32
space_is b e = eqb-true b 32 (turned (b == 32) e)
  where
    turned : (t : Bool) → not t ≡ false → t ≡ true
    turned true e = refl
    turned false e = absurd cc

not_nothing : (w : List ℕ) → is_nothing w ≡ false → w ≢ []
not_nothing [] e = absurd cc
not_nothing (b ∷ bs) e = λ n. cc

pub word_takes : (text w rest : List ℕ) → first_word text ≡ Some (w, rest) → (text ≡ w ++ 32 ∷ rest) × IsWord w
unfolding first_word
word_takes text w rest e = by_rest (after is_word_byte text) refl e
  where
    by_rest : (r : List ℕ) → after is_word_byte text ≡ r → parted (front is_word_byte text) r ≡ Some (w, rest) → (text ≡ w ++ 32 ∷ rest) × IsWord w
    by_rest [] is e = absurd cc
    by_rest (b ∷ bs) is e = by_word (is_nothing (front is_word_byte text)) refl e
      where
        by_word : (t : Bool) → is_nothing (front is_word_byte text) ≡ t → cond t None (found {A = List ℕ × List ℕ} (front is_word_byte text, bs)) ≡ Some (w, rest) → (text ≡ w ++ 32 ∷ rest) × IsWord w
        by_word true none e = absurd cc
        by_word false some e =
            let same = some_is {A = List ℕ × List ℕ} (front is_word_byte text, bs) (w, rest) e in
            let word : front is_word_byte text ≡ w = ap (λ (p : List ℕ × List ℕ). p.0) same in
            let behind : bs ≡ rest = ap (λ (p : List ℕ × List ℕ). p.1) same in
            let space : b ≡ 32 = space_is b (subst (StopsAt is_word_byte) is (after_stops is_word_byte text)) in (
              sym (parts_joined is_word_byte text) ∙ ap (λ (l : List ℕ). l ++ after is_word_byte text) word ∙ ap (λ (l : List ℕ). w ++ l) is
                  ∙ ap (λ (c : ℕ). w ++ c ∷ bs) space ∙ ap (λ (l : List ℕ). w ++ 32 ∷ l) behind,
              subst IsWord word (front_passes is_word_byte text, not_nothing (front is_word_byte text) some),
            )

are_takes : (p : ℕ → Bool) (text : List ℕ) → (not (is_nothing text) && list_all p text) ≡ true → Are p text
are_takes p [] e = absurd cc
are_takes p (b ∷ bs) e = (and_right (not (is_nothing (b ∷ bs))) (list_all p (b ∷ bs)) e, λ n. cc)

are_again : (p : ℕ → Bool) (text : List ℕ) → Are p text → (not (is_nothing text) && list_all p text) ≡ true
are_again p text (all, some) = rw (something text some, all) refl

pub is_word_takes : (text : List ℕ) → is_word text ≡ true → IsWord text
unfolding is_word
is_word_takes text e = are_takes is_word_byte text e

is_word_again : (text : List ℕ) → IsWord text → is_word text ≡ true
unfolding is_word
is_word_again text is = are_again is_word_byte text is

number_takes : (text : List ℕ) → is_number text ≡ true → IsNumber text
unfolding is_number
number_takes text e = are_takes is_digit text e

number_again : (text : List ℕ) → IsNumber text → is_number text ≡ true
unfolding is_number
number_again text is = are_again is_digit text is

moment_takes : (text : List ℕ) → is_moment text ≡ true → IsMoment text
unfolding is_moment
moment_takes text e = by_first (first_word text) refl e
  where
    by_first : (o : Option (List ℕ × List ℕ)) → first_word text ≡ o → is_word_behind o ≡ true → IsMoment text
    by_first None is e = absurd cc
    by_first (Some (date, time)) is e = let p = word_takes text date time is in (date, time, p.0, p.1, is_word_takes time e)

moment_again : (text : List ℕ) → IsMoment text → is_moment text ≡ true
unfolding is_moment
moment_again text (date, time, is, first, second) =
    ap (λ (l : List ℕ). is_word_behind (first_word l)) is ∙ rw (word_again date time first) (is_word_again time second)

no_digit_is_space : (b : ℕ) → is_digit b ≡ true → is_word_byte b ≡ true
no_digit_is_space b h = grind (arith, nat_tests)

pub number_word : (text : List ℕ) → IsNumber text → IsWord text
number_word text (all, some) = (list_all_weaker is_digit is_word_byte no_digit_is_space text all, some)

-- ---- starts

other_end : (xs ys : List ℕ) → xs ++ codes " down" ≡ ys ++ codes " up" → ⊥
other_end xs ys e =
    let a : List ℕ = xs ++ codes " dow" in
    let b : List ℕ = ys ++ codes " u" in
    let joined : a ++ 110 ∷ [] ≡ b ++ 112 ∷ [] = append_assoc xs (codes " dow") (110 ∷ []) ∙ e ∙ sym (append_assoc ys (codes " u") (112 ∷ [])) in
    let lengths : length a ≡ length b = omega (arith, ap (length {A = ℕ}) joined, length-append a (110 ∷ []), length-append b (112 ∷ [])) in
    let n : 110 ≡ 112 =
    sym (get_or-append_seam a 110 [] 0) ∙ ap (λ (l : List ℕ). get_or l (length a) 0) joined
    ∙ ap (λ k. get_or (b ++ 112 ∷ []) k 0) lengths ∙ get_or-append_seam b 112 [] 0
    in
    omega (arith, n)

-- what a start that was read is
abbrev IsStartOf : List ℕ → Form → Type 0
IsStartOf text form = (moment : List ℕ) × (up : Bool) × (form ≡ Start moment up) × (text ≡ moment ++ side up) × IsMoment moment

start_takes : (text : List ℕ) (form : Form) → start_form text ≡ Some form → IsStartOf text form
unfolding start_form
start_takes text form e = by_up (ends_with nat_eq text (codes " up")) refl e
  where
    by_down : (t : Bool) → ends_with nat_eq text (codes " down") ≡ t → cond t (start_at (take (length text - 5) text) false) None ≡ Some form → IsStartOf text form
    by_down true is e =
        let g = guarded (is_moment (take (length text - 5) text)) (Start (take (length text - 5) text) false) form e in
        (take (length text - 5) text, false, sym g.1, (ends_is unsigned_Decides text (codes " down") true (sym is)).0 refl, moment_takes (take (length text - 5) text) g.0)
    by_down false is e = absurd cc

    by_up : (t : Bool) → ends_with nat_eq text (codes " up") ≡ t → cond t (start_at (take (length text - 3) text) true) (cond (ends_with nat_eq text (codes " down")) (start_at (take (length text - 5) text) false) None) ≡ Some form → IsStartOf text form
    by_up true is e =
        let g = guarded (is_moment (take (length text - 3) text)) (Start (take (length text - 3) text) true) form e in
        (take (length text - 3) text, true, sym g.1, (ends_is unsigned_Decides text (codes " up") true (sym is)).0 refl, moment_takes (take (length text - 3) text) g.0)
    by_up false is e = by_down (ends_with nat_eq text (codes " down")) refl e

taken_front : (moment end : List ℕ) (n : ℕ) → n ≡ length end → take (length (moment ++ end) - n) (moment ++ end) ≡ moment
taken_front moment end n is =
    let k : length (moment ++ end) - n ≡ length moment = omega (arith, is, length-append moment end) in
    ap (λ i. take i (moment ++ end)) k ∙ take-append_seam moment end

start_again : (moment : List ℕ) (up : Bool) → IsMoment moment → start_form (moment ++ side up) ≡ Some (Start moment up)
unfolding start_form
start_again moment true is =
    let ends : ends_with nat_eq (moment ++ codes " up") (codes " up") ≡ true = (ends_is unsigned_Decides (moment ++ codes " up") (codes " up") (ends_with nat_eq (moment ++ codes " up") (codes " up")) refl).1 moment refl in
    rw (ends, taken_front moment (codes " up") 3 refl, moment_again moment is) refl
start_again moment false is =
    let text : List ℕ = moment ++ codes " down" in
    let ends : ends_with nat_eq text (codes " down") ≡ true = (ends_is unsigned_Decides text (codes " down") (ends_with nat_eq text (codes " down")) refl).1 moment refl in
    let other : ends_with nat_eq text (codes " up") ≡ false =
    false_from_ne_true (ends_with nat_eq text (codes " up")) (λ e. other_end moment (take (length text - 3) text) ((ends_is unsigned_Decides text (codes " up") (ends_with nat_eq text (codes " up")) refl).0 e))
    in
    rw (other, ends, taken_front moment (codes " down") 5 refl, moment_again moment is) refl

-- ---- what follows a first word

-- the words of a text that has two or more
abbrev Parts : List ℕ → List ℕ × List ℕ → Type 0
Parts text p = (text ≡ p.0 ++ 32 ∷ p.1) × IsWord p.0

first_takes : {B : Type 0} (text : List ℕ) (f : List ℕ × List ℕ → Option B) (y : B) → (first_word text >>= f) ≡ Some y → (p : List ℕ × List ℕ) × Parts text p × (f p ≡ Some y)
first_takes text f y e = let b = bind_some (first_word text) f y e in (b.0, word_takes text b.0.0 b.0.1 b.1, b.2)

line_run_takes : (text : List ℕ) (run : List ℕ × List ℕ) → line_run text ≡ Some run → (text ≡ run.0 ++ 32 ∷ run.1) × IsNumber run.0 × IsMoment run.1
unfolding line_run
line_run_takes text run e =
    let f = first_takes text (λ parts. cond (is_number parts.0 && is_moment parts.1) (Some parts) None) run e in
    let g = guarded (is_number f.0.0 && is_moment f.0.1) f.0 run f.2 in
    subst (λ (p : List ℕ × List ℕ). (text ≡ p.0 ++ 32 ∷ p.1) × IsNumber p.0 × IsMoment p.1) g.1
    (f.1.0, number_takes f.0.0 (and_left (is_number f.0.0) (is_moment f.0.1) g.0), moment_takes f.0.1 (and_right (is_number f.0.0) (is_moment f.0.1) g.0))

line_run_again : (number moment : List ℕ) → IsNumber number → IsMoment moment → line_run (number ++ 32 ∷ moment) ≡ Some (number, moment)
unfolding line_run
line_run_again number moment n m = rw (word_again number moment (number_word number n), number_again number n, moment_again moment m) refl

job_run_takes : (text : List ℕ) (run : List ℕ × List ℕ) → job_run text ≡ Some run → (text ≡ run.0 ++ 32 ∷ run.1) × IsWord run.0 × IsMoment run.1
unfolding job_run
job_run_takes text run e =
    let f = first_takes text (λ parts. cond (is_moment parts.1) (Some parts) None) run e in
    let g = guarded (is_moment f.0.1) f.0 run f.2 in
    subst (λ (p : List ℕ × List ℕ). (text ≡ p.0 ++ 32 ∷ p.1) × IsWord p.0 × IsMoment p.1) g.1
    (f.1.0, f.1.1, moment_takes f.0.1 g.0)

job_run_again : (identifier moment : List ℕ) → IsWord identifier → IsMoment moment → job_run (identifier ++ 32 ∷ moment) ≡ Some (identifier, moment)
unfolding job_run
job_run_again identifier moment i m = rw (word_again identifier moment i, moment_again moment m) refl

-- ---- forms after their first words

-- a form that is written after a front of its text
abbrev IsBehind : List ℕ → List ℕ → Form → Type 0
IsBehind front text form = IsForm (front ++ text) form

start_behind : (text : List ℕ) (form : Form) → start_form text ≡ Some form → IsBehind (codes "start ") text form
start_behind text form e =
    let s = start_takes text form e in
    subst (IsBehind (codes "start ") text) (sym s.2) (ap (λ (l : List ℕ). codes "start " ++ l) s.3, s.4)

stamp_behind : (text : List ℕ) (form : Form) → stamp_form text ≡ Some form → IsBehind (codes "stamp ") text form
unfolding stamp_form
stamp_behind text form e =
    let f = first_takes text (λ parts. cond (is_word parts.1) (Some (Stamp parts.0 parts.1)) None) form e in
    let g = guarded (is_word f.0.1) (Stamp f.0.0 f.0.1) form f.2 in
    subst (IsBehind (codes "stamp ") text) g.1 (ap (λ (l : List ℕ). codes "stamp " ++ l) f.1.0, (f.1.1, is_word_takes f.0.1 g.0))

minute_behind : (text : List ℕ) (form : Form) → minute_form text ≡ Some form → IsBehind (codes "minute ") text form
minute_behind text form e =
    let g = guarded (is_moment text) (Minute text) form e in
    subst (IsBehind (codes "minute ") text) g.1 (refl, moment_takes text g.0)

up_behind : (text : List ℕ) (form : Form) → up_form text ≡ Some form → IsBehind (codes "up ") text form
up_behind text form e =
    let g = guarded (is_moment text) (Up text) form e in
    subst (IsBehind (codes "up ") text) g.1 (refl, moment_takes text g.0)

begin_behind : (text : List ℕ) (form : Form) → begin_form text ≡ Some form → IsBehind (codes "begin ") text form
unfolding begin_form
begin_behind text form e =
    let f = first_takes text (λ parts. cond (bytes_eq parts.0 (codes "line") && is_number parts.1) (Some (Begin parts.1)) None) form e in
    let g = guarded (bytes_eq f.0.0 (codes "line") && is_number f.0.1) (Begin f.0.1) form f.2 in
    let line : f.0.0 ≡ codes "line" = same_text f.0.0 (codes "line") (and_left (bytes_eq f.0.0 (codes "line")) (is_number f.0.1) g.0) in
    subst (IsBehind (codes "begin ") text) g.1
    (ap (λ (l : List ℕ). codes "begin " ++ l) (f.1.0 ∙ ap (λ (l : List ℕ). l ++ 32 ∷ f.0.1) line), number_takes f.0.1 (and_right (bytes_eq f.0.0 (codes "line")) (is_number f.0.1) g.0))

got_behind : (text : List ℕ) (form : Form) → got_form text ≡ Some form → IsBehind (codes "got ") text form
unfolding got_form
got_behind text form e =
    let f = first_takes text (λ parts. cond (bytes_eq parts.0 (codes "line")) (line_run parts.1 >>= (λ run. Some (Got run.0 run.1))) None) form e in
    by_line f.0 f.1 (bytes_eq f.0.0 (codes "line")) refl f.2
  where
    by_line : (p : List ℕ × List ℕ) → Parts text p → (t : Bool) → bytes_eq p.0 (codes "line") ≡ t → cond t (line_run p.1 >>= (λ run. Some (Got run.0 run.1))) None ≡ Some form → IsBehind (codes "got ") text form
    by_line p parts false is e = absurd cc
    by_line p parts true is e =
        let r = bind_some (line_run p.1) (λ run. Some (Got run.0 run.1)) form e in
        let run = line_run_takes p.1 r.0 r.1 in
        subst (IsBehind (codes "got ") text) (some_is (Got r.0.0 r.0.1) form r.2)
        (ap (λ (l : List ℕ). codes "got " ++ l) (parts.0 ∙ ap (λ (l : List ℕ). l ++ 32 ∷ p.1) (same_text p.0 (codes "line") is) ∙ ap (λ (l : List ℕ). codes "line " ++ l) run.0), (run.1, run.2))

catch_behind : (text : List ℕ) (form : Form) → catch_form text ≡ Some form → IsBehind (codes "catch ") text form
catch_behind text form e =
    let g = guarded (is_word text) (Catch text) form e in
    subst (IsBehind (codes "catch ") text) g.1 (refl, is_word_takes text g.0)

end_behind : (text : List ℕ) (form : Form) → end_form text ≡ Some form → IsBehind (codes "end ") text form
unfolding end_form
end_behind text form e =
    let f = first_takes text (λ parts. ended parts.0 parts.1) form e in
    by_line f.0 f.1 (bytes_eq f.0.0 (codes "line")) refl f.2
  where
    by_job : (p : List ℕ × List ℕ) → Parts text p → (t : Bool) → bytes_eq p.0 (codes "job") ≡ t → cond t (job_run p.1 >>= (λ run. Some (EndJob run.0 run.1))) None ≡ Some form → IsBehind (codes "end ") text form
    by_job p parts false is e = absurd cc
    by_job p parts true is e =
        let r = bind_some (job_run p.1) (λ run. Some (EndJob run.0 run.1)) form e in
        let run = job_run_takes p.1 r.0 r.1 in
        subst (IsBehind (codes "end ") text) (some_is (EndJob r.0.0 r.0.1) form r.2)
        (ap (λ (l : List ℕ). codes "end " ++ l) (parts.0 ∙ ap (λ (l : List ℕ). l ++ 32 ∷ p.1) (same_text p.0 (codes "job") is) ∙ ap (λ (l : List ℕ). codes "job " ++ l) run.0), (run.1, run.2))

    by_line : (p : List ℕ × List ℕ) → Parts text p → (t : Bool) → bytes_eq p.0 (codes "line") ≡ t
        → cond t (line_run p.1 >>= (λ run. Some (EndLine run.0 run.1))) (cond (bytes_eq p.0 (codes "job")) (job_run p.1 >>= (λ run. Some (EndJob run.0 run.1))) None) ≡ Some form → IsBehind (codes "end ") text form
    by_line p parts false is e = by_job p parts (bytes_eq p.0 (codes "job")) refl e
    by_line p parts true is e =
        let r = bind_some (line_run p.1) (λ run. Some (EndLine run.0 run.1)) form e in
        let run = line_run_takes p.1 r.0 r.1 in
        subst (IsBehind (codes "end ") text) (some_is (EndLine r.0.0 r.0.1) form r.2)
        (ap (λ (l : List ℕ). codes "end " ++ l) (parts.0 ∙ ap (λ (l : List ℕ). l ++ 32 ∷ p.1) (same_text p.0 (codes "line") is) ∙ ap (λ (l : List ℕ). codes "line " ++ l) run.0), (run.1, run.2))

-- ---- lines

-- the first of two choices that gives something
chosen : {A : Type 0} (t : Bool) (x y : Option A) (z : A) → cond t x y ≡ Some z → ((t ≡ true) × (x ≡ Some z)) ⊎ (y ≡ Some z)
chosen true x y z e = inl (refl, e)
chosen false x y z e = inr e

-- a verb that was tested is in front
in_front : (verb word text line : List ℕ) (form : Form) → bytes_eq verb word ≡ true → line ≡ verb ++ 32 ∷ text → IsForm (word ++ 32 ∷ text) form → IsForm line form
in_front verb word text line form is parts whole =
    subst (λ (l : List ℕ). IsForm l form) (ap (λ (l : List ℕ). l ++ 32 ∷ text) (sym (same_text verb word is)) ∙ sym parts) whole

behind_takes : (verb text line : List ℕ) (form : Form) → line ≡ verb ++ 32 ∷ text → form_behind verb text ≡ Some form → IsForm line form
unfolding form_behind
behind_takes verb text line form parts e =
    elim (chosen (bytes_eq verb (codes "start")) _ _ form e) [
      | inl here ↦ in_front verb (codes "start") text line form here.0 parts (start_behind text form here.1)
      | inr e ↦ elim (chosen (bytes_eq verb (codes "stamp")) _ _ form e) [
        | inl here ↦ in_front verb (codes "stamp") text line form here.0 parts (stamp_behind text form here.1)
        | inr e ↦ elim (chosen (bytes_eq verb (codes "minute")) _ _ form e) [
          | inl here ↦ in_front verb (codes "minute") text line form here.0 parts (minute_behind text form here.1)
          | inr e ↦ elim (chosen (bytes_eq verb (codes "up")) _ _ form e) [
            | inl here ↦ in_front verb (codes "up") text line form here.0 parts (up_behind text form here.1)
            | inr e ↦ elim (chosen (bytes_eq verb (codes "begin")) _ _ form e) [
              | inl here ↦ in_front verb (codes "begin") text line form here.0 parts (begin_behind text form here.1)
              | inr e ↦ elim (chosen (bytes_eq verb (codes "got")) _ _ form e) [
                | inl here ↦ in_front verb (codes "got") text line form here.0 parts (got_behind text form here.1)
                | inr e ↦ elim (chosen (bytes_eq verb (codes "catch")) _ _ form e) [
                  | inl here ↦ in_front verb (codes "catch") text line form here.0 parts (catch_behind text form here.1)
                  | inr e ↦ elim (chosen (bytes_eq verb (codes "end")) _ _ form e) [
                    | inl here ↦ in_front verb (codes "end") text line form here.0 parts (end_behind text form here.1)
                    | inr e ↦ absurd cc
                  ]
                ]
              ]
            ]
          ]
        ]
      ]
    ]

pub form_takes : (line : List ℕ) (form : Form) → form_of line ≡ Some form → IsForm line form
unfolding form_of
form_takes line form e =
    elim (chosen (bytes_eq line (codes "down")) _ _ form e) [
      | inl here ↦ subst (IsForm line) (some_is Down form here.1) (same_text line (codes "down") here.0, tt)
      | inr e ↦ let f = first_takes line (λ parts. form_behind parts.0 parts.1) form e in behind_takes f.0.0 f.0.1 line form f.1.0 f.2
    ]

longer : (verb text : List ℕ) → bytes_eq (verb ++ 32 ∷ text) (codes "down") ≡ false
longer verb text = false_from_ne_true (bytes_eq (verb ++ 32 ∷ text) (codes "down")) (λ e. true_false (sym (no_space (same_text (verb ++ 32 ∷ text) (codes "down") e))))
  where
    and_false : (t : Bool) → (t && false) ≡ false
    and_false true = refl
    and_false false = refl

    true_false : true ≡ false → ⊥
    true_false e = cc

    no_space : verb ++ 32 ∷ text ≡ codes "down" → false ≡ true
    no_space e = sym (and_false (list_all is_word_byte verb)) ∙ sym (list_all-append is_word_byte verb (32 ∷ text)) ∙ ap (list_all is_word_byte) e

read_behind : (verb text : List ℕ) (form : Form) → IsWord verb → form_behind verb text ≡ Some form → form_of (verb ++ 32 ∷ text) ≡ Some form
unfolding form_of
read_behind verb text form word is = rw (longer verb text, word_again verb text word) is

form_read : (form : Form) → IsWhole form → form_of (form_text form) ≡ Some form
unfolding form_of form_behind stamp_form begin_form got_form end_form
form_read (Start moment up) m = read_behind (codes "start") (moment ++ side up) (Start moment up) (refl, λ e. cc) (start_again moment up m)
form_read (Stamp identifier date) (i, d) = read_behind (codes "stamp") (identifier ++ 32 ∷ date) (Stamp identifier date) (refl, λ e. cc) (rw (word_again identifier date i, is_word_again date d) refl)
form_read (Minute moment) m = read_behind (codes "minute") moment (Minute moment) (refl, λ e. cc) (rw (moment_again moment m) refl)
form_read (Up moment) m = read_behind (codes "up") moment (Up moment) (refl, λ e. cc) (rw (moment_again moment m) refl)
form_read Down whole = refl
form_read (Begin number) n = read_behind (codes "begin") (codes "line " ++ number) (Begin number) (refl, λ e. cc) (rw (word_again (codes "line") number (refl, λ e. cc), number_again number n) refl)
form_read (Got number moment) (n, m) =
    read_behind (codes "got") (codes "line " ++ (number ++ 32 ∷ moment)) (Got number moment) (refl, λ e. cc)
    (rw (word_again (codes "line") (number ++ 32 ∷ moment) (refl, λ e. cc), line_run_again number moment n m) refl)
form_read (Catch identifier) i = read_behind (codes "catch") identifier (Catch identifier) (refl, λ e. cc) (rw (is_word_again identifier i) refl)
form_read (EndLine number moment) (n, m) =
    read_behind (codes "end") (codes "line " ++ (number ++ 32 ∷ moment)) (EndLine number moment) (refl, λ e. cc)
    (rw (word_again (codes "line") (number ++ 32 ∷ moment) (refl, λ e. cc), line_run_again number moment n m) refl)
form_read (EndJob identifier moment) (i, m) =
    read_behind (codes "end") (codes "job " ++ (identifier ++ 32 ∷ moment)) (EndJob identifier moment) (refl, λ e. cc)
    (rw (word_again (codes "job") (identifier ++ 32 ∷ moment) (refl, λ e. cc), job_run_again identifier moment i m) refl)

pub form_again : (line : List ℕ) (form : Form) → IsForm line form → form_of line ≡ Some form
form_again line form (is, whole) = ap form_of is ∙ form_read form whole

pub no_form : (line : List ℕ) → form_of line ≡ None → (form : Form) → IsForm line form → ⊥
no_form line none form is = some_none form (sym (form_again line form is) ∙ none)
  where
    some_none : (x : Form) → Some x ≡ None → ⊥
    some_none x e = cc

pub no_form_again : (line : List ℕ) → ((form : Form) → IsForm line form → ⊥) → form_of line ≡ None
no_form_again line none = by_read (form_of line) refl
  where
    by_read : (o : Option Form) → form_of line ≡ o → o ≡ None
    by_read None is = refl
    by_read (Some form) is = absurd (none form (form_takes line form is))
