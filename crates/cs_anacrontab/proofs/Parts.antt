-- The parts of a job: what is read is written so, and what is written so is read.
use Rattle.std.proofs.Common.{◌≡◌, ◌≢◌, ℕ, ◌≤◌, Bool, true, false, cond, not, ◌&&◌, ◌||◌, nat_eq, nat_lt, List, [], ◌∷◌, ◌++◌, length, Option, Some, None, Result, Ok, Err, refl, sym, ap, subst, ◌∙◌, arith, inl, inr}
use Rattle.std.specs.Prelude.{codes}
use Rattle.std.specs.List.{list_all, list_any}
use Rattle.std.specs.Cmp.{unsigned_Decides}
use Rattle.std.specs.Str.{bytes_eq, is_utf8}
use Rattle.std.proofs.lemmas.Bool.{le-ltb, ltb-false, eqb-true, false_from_ne_true}
use Rattle.std.proofs.lemmas.Bool.Decides.{nat_tests}
use Rattle.std.proofs.lemmas.Slice.Eq.{bytes_eq-Decides, ends_is}
use Rattle.std.proofs.lemmas.Str.{is_utf8-from_IsUtf8, IsUtf8-from_is_utf8}
use Rattle.cs_table.specs.Text.{front, after, is_blank, is_solid, is_digit, decimal, Are, StopsAt}
use Rattle.cs_table.proofs.Spans.{some_from, some_to, front_again, after_again, parts_joined, front_passes, after_stops, and_left, and_right, front_some, gap_some, gap_stops, joined_some}
use Rattle.cs_table.specs.Wrong.{at_end}
use Rattle.cs_table.proofs.Results.{ok_is, guard_ok}
use Rattle.cs_anacrontab.specs.declared.limits.TheConstants.{MAX_PERIOD, MAX_IDENTIFIER}
use Rattle.cs_anacrontab.specs.declared.period.Period.{Period}
use Rattle.cs_anacrontab.specs.declared.period.Period.TheVariants.{Days, Monthly}
use Rattle.cs_anacrontab.specs.declared.fault.JobFault.{JobFault}
use Rattle.cs_anacrontab.specs.declared.fault.JobFault.TheVariants as faults
use Rattle.cs_anacrontab.specs.Reading.{number_of, period_of_word, or_fault, days_of, period_of, is_folder, is_identifier, is_continued, behind_word, word_at}
use Rattle.cs_table.specs.Text.{is_nothing}
use Rattle.cs_anacrontab.specs.Grammar.{IsNumber, IsPeriod, IsIdentifier, HasWord, IsContinued}

-- ---- tests and steps that did not fail

abbrev done : {A : Type 0} → A → Result A JobFault
done x = Ok x

pub fault_some : {A : Type 0} (d : JobFault) (o : Option A) (x : A) → or_fault d o ≡ Ok x → o ≡ Some x
fault_some d None x e = absurd cc
fault_some d (Some y) x e = ap (λ z. Some z) (ok_is y x e)

abbrev there : {A : Type 0} → A → Option A
there x = Some x

some_is : {A : Type 0} (x y : A) → there x ≡ there y → x ≡ y
some_is x y e = cc

guard_some : {A : Type 0} (b : Bool) (o : Option A) (y : A) → cond b None o ≡ Some y → (b ≡ false) × (o ≡ Some y)
guard_some true o y e = absurd cc
guard_some false o y e = (refl, e)

guard_true : (b r : Bool) → cond b false r ≡ true → (b ≡ false) × (r ≡ true)
guard_true true r e = absurd cc
guard_true false r e = (refl, e)

or_false : (a b : Bool) → (a || b) ≡ false → (a ≡ false) × (b ≡ false)
or_false true b e = absurd cc
or_false false b e = (refl, e)

not_false : (t : Bool) → not t ≡ false → t ≡ true
not_false true e = refl
not_false false e = absurd cc

not_true : (t : Bool) → not t ≡ true → t ≡ false
not_true true e = absurd cc
not_true false e = refl

-- ---- numbers

pub number_takes : (highest : ℕ) (word : List ℕ) (n : ℕ) → number_of highest word ≡ Some n → IsNumber highest word n
unfolding number_of
number_takes highest word n e =
    let one = guard_some (is_nothing word || not (list_all is_digit word)) (cond (nat_lt highest (decimal word)) None (Some (decimal word))) n e in
    let two = guard_some (nat_lt highest (decimal word)) (Some (decimal word)) n one.1 in
    let both = or_false (is_nothing word) (not (list_all is_digit word)) one.0 in
    let value : decimal word ≡ n = some_is (decimal word) n two.1 in
    record { digits = (not_false (list_all is_digit word) both.1, some_from word both.0); value = sym value; high = omega (arith, value, ltb-false highest (decimal word) two.0) }

pub number_again : (highest : ℕ) (word : List ℕ) (n : ℕ) → IsNumber highest word n → number_of highest word ≡ Some n
unfolding number_of
number_again highest word n is =
    let high : decimal word ≤ highest = omega (arith, is.value, is.high) in
    rw (some_to word is.digits.1, is.digits.0, le-ltb highest (decimal word) high) (ap (λ (k : ℕ). there k) (sym is.value))

-- ---- periods

-- a period begins with a digit or `@`
abbrev pub begins_job : ℕ → Bool
begins_job b = nat_eq b 64 || is_digit b

abbrev pub Begins : List ℕ → Type 0
Begins text = (b : ℕ) × (more : List ℕ) × (text ≡ b ∷ more) × (begins_job b ≡ true)

digit_begins : (b : ℕ) → is_digit b ≡ true → begins_job b ≡ true
digit_begins b digit = rw digit (any_true (nat_eq b 64))
  where
    any_true : (t : Bool) → (t || true) ≡ true
    any_true true = refl
    any_true false = refl

digits_begin : (word : List ℕ) → Are is_digit word → Begins word
digits_begin [] are = absurd (are.1 refl)
digits_begin (b ∷ bs) are = (b, bs, refl, digit_begins b (and_left (is_digit b) (list_all is_digit bs) are.0))

pub period_begins : (word : List ℕ) (period : Period) → IsPeriod word period → Begins word
period_begins word (Days n) (inl (number, positive)) = digits_begin word number.digits
period_begins word (Days n) (inr (inl (is, one))) = (64, codes "daily", is, refl)
period_begins word (Days n) (inr (inr (is, seven))) = (64, codes "weekly", is, refl)
period_begins word Monthly is = (64, codes "monthly", is, refl)

named_takes : (name : List ℕ) (period : Period) → period_of_word name ≡ Some period → IsPeriod (64 ∷ name) period
named_takes name period e = by_daily (bytes_eq name (codes "daily")) refl e
  where
    behind_at : (word : List ℕ) → bytes_eq name word ≡ true → 64 ∷ name ≡ 64 ∷ word
    behind_at word same = ap (λ (l : List ℕ). 64 ∷ l) ((bytes_eq-Decides name word).0 same)

    by_monthly : (t : Bool) → bytes_eq name (codes "monthly") ≡ t → cond t (Some Monthly) None ≡ there period → IsPeriod (64 ∷ name) period
    by_monthly true same e = subst (IsPeriod (64 ∷ name)) (some_is Monthly period e) (behind_at (codes "monthly") same)
    by_monthly false same e = absurd cc

    by_weekly : (t : Bool) → bytes_eq name (codes "weekly") ≡ t → cond t (Some (Days 7)) (cond (bytes_eq name (codes "monthly")) (Some Monthly) None) ≡ there period → IsPeriod (64 ∷ name) period
    by_weekly true same e = subst (IsPeriod (64 ∷ name)) (some_is (Days 7) period e) (inr (inr (behind_at (codes "weekly") same, refl)))
    by_weekly false same e = by_monthly (bytes_eq name (codes "monthly")) refl e

    by_daily : (t : Bool) → bytes_eq name (codes "daily") ≡ t → cond t (Some (Days 1)) (cond (bytes_eq name (codes "weekly")) (Some (Days 7)) (cond (bytes_eq name (codes "monthly")) (Some Monthly) None)) ≡ there period → IsPeriod (64 ∷ name) period
    by_daily true same e = subst (IsPeriod (64 ∷ name)) (some_is (Days 1) period e) (inr (inl (behind_at (codes "daily") same, refl)))
    by_daily false same e = by_weekly (bytes_eq name (codes "weekly")) refl e

days_takes : (word : List ℕ) (period : Period) → days_of (number_of MAX_PERIOD word) ≡ Some period → IsPeriod word period
days_takes word period e = by_number (number_of MAX_PERIOD word) refl e
  where
    by_number : (o : Option ℕ) → number_of MAX_PERIOD word ≡ o → days_of o ≡ Some period → IsPeriod word period
    by_number None is e = absurd cc
    by_number (Some n) is e =
        let one = guard_some (nat_lt n 1) (Some (Days n)) period e in
        subst (IsPeriod word) (some_is (Days n) period one.1) (inl (number_takes MAX_PERIOD word n is, ltb-false n 1 one.0))

pub period_takes : (word : List ℕ) (period : Period) → period_of word ≡ Ok period → IsPeriod word period
unfolding period_of
period_takes [] period e = absurd cc
period_takes (b ∷ bs) period e = by_at (nat_eq b 64) refl e
  where
    by_at : (t : Bool) → nat_eq b 64 ≡ t → cond t (or_fault faults.UnknownWord (period_of_word bs)) (or_fault faults.BadPeriod (days_of (number_of MAX_PERIOD (b ∷ bs)))) ≡ done period → IsPeriod (b ∷ bs) period
    by_at true is e =
        let named : IsPeriod (64 ∷ bs) period = named_takes bs period (fault_some faults.UnknownWord (period_of_word bs) period e) in
        let P : ℕ → Type 0 = λ k. IsPeriod (k ∷ bs) period in
        subst P (sym (eqb-true b 64 is)) named
    by_at false is e = days_takes (b ∷ bs) period (fault_some faults.BadPeriod (days_of (number_of MAX_PERIOD (b ∷ bs))) period e)

not_at : (b : ℕ) → is_digit b ≡ true → nat_eq b 64 ≡ false
not_at b digit = grind (arith, nat_tests)

pub period_again : (word : List ℕ) (period : Period) → IsPeriod word period → period_of word ≡ Ok period
unfolding period_of
period_again [] (Days n) (inl (number, positive)) = absurd (number.digits.1 refl)
period_again (b ∷ bs) (Days n) (inl (number, positive)) =
    rw (not_at b (and_left (is_digit b) (list_all is_digit bs) number.digits.0), number_again MAX_PERIOD (b ∷ bs) n number, le-ltb n 1 positive) refl
period_again word (Days n) (inr (inl (is, one))) = ap period_of is ∙ ap (λ (k : ℕ). done (Days k)) (sym one)
period_again word (Days n) (inr (inr (is, seven))) = ap period_of is ∙ ap (λ (k : ℕ). done (Days k)) (sym seven)
period_again word Monthly is = ap period_of is

-- ---- identifiers

bytes_other : (word other : List ℕ) → bytes_eq word other ≡ false → word ≢ other
bytes_other word other differ same = let e : bytes_eq word other ≡ true = (bytes_eq-Decides word other).1 same in cc

other_bytes : (word other : List ℕ) → word ≢ other → bytes_eq word other ≡ false
other_bytes word other differ = false_from_ne_true (bytes_eq word other) (λ e. differ ((bytes_eq-Decides word other).0 e))

pub identifier_takes : (word : List ℕ) → is_identifier word ≡ true → IsIdentifier word
unfolding is_identifier
identifier_takes word e =
    let one = guard_true (nat_lt MAX_IDENTIFIER (length word) || list_any (λ b. nat_eq b 47) word) (not (is_folder word) && is_utf8 word) e in
    let both = or_false (nat_lt MAX_IDENTIFIER (length word)) (list_any (λ b. nat_eq b 47) word) one.0 in
    let dots = or_false (bytes_eq word (codes ".")) (bytes_eq word (codes "..")) (not_true (is_folder word) (and_left (not (is_folder word)) (is_utf8 word) one.1)) in
    record {
      short = ltb-false MAX_IDENTIFIER (length word) both.0;
      utf8 = IsUtf8-from_is_utf8 word (and_right (not (is_folder word)) (is_utf8 word) one.1);
      no_slash = both.1;
      no_dot = bytes_other word (codes ".") dots.0;
      no_dots = bytes_other word (codes "..") dots.1;
    }

pub identifier_again : (word : List ℕ) → IsIdentifier word → is_identifier word ≡ true
unfolding is_identifier
identifier_again word is =
    rw (le-ltb MAX_IDENTIFIER (length word) is.short, is.no_slash, other_bytes word (codes ".") is.no_dot, other_bytes word (codes "..") is.no_dots, is_utf8-from_IsUtf8 word is.utf8) refl

-- ---- words

pub word_some : (text : List ℕ) (x : List ℕ × List ℕ) → word_at text ≡ Ok x → text ≢ []
unfolding word_at
word_some text x e = some_from text (guard_ok (is_nothing text) (at_end faults.MissingField) (Ok (front is_solid text, after is_blank (after is_solid text))) x e).0

pub word_takes : (text : List ℕ) (x : List ℕ × List ℕ) → StopsAt is_blank text → word_at text ≡ Ok x → x.1 ≢ [] → HasWord text x.0 x.1
unfolding word_at
word_takes text x stop e some =
    let rest : List ℕ = after is_solid text in
    let g = guard_ok (is_nothing text) (at_end faults.MissingField) (Ok (front is_solid text, after is_blank rest)) x e in
    let is : (front is_solid text, after is_blank rest) ≡ x = ok_is (front is_solid text, after is_blank rest) x g.1 in
    let follows : after is_blank rest ≢ [] = λ empty. some (sym (ap (λ (p : List ℕ × List ℕ). p.1) is) ∙ empty) in
    let made : HasWord text (front is_solid text) (after is_blank rest) =
    record {
      gap = front is_blank rest;
      parts = sym (parts_joined is_solid text) ∙ ap (λ (l : List ℕ). front is_solid text ++ l) (sym (parts_joined is_blank rest));
      solid = (front_passes is_solid text, front_some text (some_from text g.0) stop);
      blank = (front_passes is_blank rest, gap_some rest (after_stops is_solid text) follows);
      stops = after_stops is_blank rest;
    }
    in
    subst (λ (p : List ℕ × List ℕ). HasWord text p.0 p.1) is made

pub word_again : (text word rest : List ℕ) → HasWord text word rest → word_at text ≡ Ok (word, rest)
unfolding word_at
word_again text word rest is =
    let stop = gap_stops is.gap rest is.blank in
    ap word_at is.parts
    ∙ rw (some_to (word ++ (is.gap ++ rest)) (joined_some word (is.gap ++ rest) is.solid.1), front_again is_solid word (is.gap ++ rest) is.solid.0 stop, after_again is_solid word (is.gap ++ rest) is.solid.0 stop, after_again is_blank is.gap rest is.blank.0 is.stops) refl

pub word_behind : (text word rest : List ℕ) → HasWord text word rest → behind_word text ≡ rest
word_behind text word rest is =
    let stop = gap_stops is.gap rest is.blank in
    ap behind_word is.parts ∙ ap (after is_blank) (after_again is_solid word (is.gap ++ rest) is.solid.0 stop) ∙ after_again is_blank is.gap rest is.blank.0 is.stops

-- ---- a backslash at the end

pub ends_elsewhere : (text : List ℕ) → is_continued text ≡ false → IsContinued text → ⊥
ends_elsewhere text e (front, is) = let t : is_continued text ≡ true = (ends_is unsigned_Decides text (92 ∷ []) (is_continued text) refl).1 front is in cc

pub elsewhere_ends : (text : List ℕ) → (IsContinued text → ⊥) → is_continued text ≡ false
elsewhere_ends text other = false_from_ne_true (is_continued text) (λ e. other (_, (ends_is unsigned_Decides text (92 ∷ []) (is_continued text) refl).0 e))

pub continued_takes : (text : List ℕ) → is_continued text ≡ true → IsContinued text
continued_takes text e = (_, (ends_is unsigned_Decides text (92 ∷ []) (is_continued text) refl).0 e)

pub continued_again : (text : List ℕ) → IsContinued text → is_continued text ≡ true
continued_again text (front, is) = (ends_is unsigned_Decides text (92 ∷ []) (is_continued text) refl).1 front is
