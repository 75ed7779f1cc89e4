-- What is read of a field is written so, and what is written so is read.
use Rattle.std.proofs.Common.{◌≡◌, ◌≢◌, ℕ, ◌+◌, ◌<◌, ◌≤◌, ◌⊎◌, Bool, true, false, cond, ◌||◌, nat_eq, nat_lt, nat_le, List, [], ◌∷◌, ◌++◌, length, take, drop, Option, Some, None, Result, Ok, Err, refl, sym, ap, subst, ◌∙◌, arith, inl, inr}
use Rattle.std.specs.Prelude.{IfOk, IsErr}
use Rattle.std.specs.List.{list_all}
use Rattle.std.proofs.Math.Seq.{take-append_seam, drop-append_seam}
use Rattle.std.proofs.lemmas.Bool.{le-ltb, ltb-false, leb-true, eqb-true, eqb-false, ne_eqb, false_from_ne_true}
use Rattle.std.proofs.lemmas.List.{append-nil, nil_from_length, take-append-drop}
use Rattle.cs_schedule.specs.Numbers.{numbers_where, is_every}
use Rattle.cs_schedule.specs.declared.part.Part.{Part}
use Rattle.cs_schedule.specs.Part.{first_of, last_of}
use Rattle.cs_crontab.specs.declared.fault.LineFault.{LineFault}
use Rattle.cs_crontab.specs.declared.fault.LineFault.TheVariants as faults
use Rattle.cs_table.specs.Text.{front, after, is_digit, decimal, decimal_from, StopsAt, is_nothing}
use Rattle.cs_crontab.specs.Format.{place_of}
use Rattle.cs_crontab.specs.Reading.{named, number_at, step_at, every, end_at, range_at, numbers_at, item_at, item_of}
use Rattle.cs_table.specs.Wrong.{◌>>=◌}
use Rattle.cs_crontab.specs.Grammar.{IsNumber, IsStep, IsItem}
use Rattle.cs_crontab.proofs.Names.{is_letter, letter_no_digit, letter_other, name_letters, name_length}
use Rattle.cs_table.proofs.Results.{bind_ok, guard_ok, ok_is, ok_no_err}
use Rattle.cs_table.proofs.Spans.{front_again, after_again, parts_joined, front_passes, and_left, some_from, some_to}

abbrev done : {A : Type 0} → A → Result A LineFault
done x = Ok x

or_false : (a b : Bool) → (a || b) ≡ false → (a ≡ false) × (b ≡ false)
or_false true b e = absurd cc
or_false false b e = (refl, e)

-- ---- numbers

pub number_takes : (part : Part) (text : List ℕ) (a : ℕ × List ℕ) → number_at part text ≡ Ok a → (x : List ℕ) × (text ≡ x ++ a.1) × IsNumber part x a.0
unfolding number_at
number_takes part text a e = by_digits (nat_eq (length (front is_digit text)) 0) refl e
  where
    digits : List ℕ
    digits = front is_digit text

    by_place : (o : Option ℕ) → place_of part (take 3 text) ≡ o → named part o (drop 3 text) ≡ Ok a → (x : List ℕ) × (text ≡ x ++ a.1) × IsNumber part x a.0
    by_place None is e = absurd cc
    by_place (Some place) is e =
        let same : (first_of part + place, drop 3 text) ≡ a = ok_is (first_of part + place, drop 3 text) a e in
        (take 3 text, sym (take-append-drop 3 text) ∙ ap (λ (p : ℕ × List ℕ). take 3 text ++ p.1) same, inr (place, name_length part (take 3 text) place is, is, sym (ap (λ (p : ℕ × List ℕ). p.0) same)))

    by_digits : (t : Bool) → nat_eq (length (front is_digit text)) 0 ≡ t
        → cond t (named part (place_of part (take 3 text)) (drop 3 text)) (cond (nat_lt (decimal (front is_digit text)) (first_of part) || nat_lt (last_of part) (decimal (front is_digit text))) (Err faults.OutOfField) (Ok (decimal (front is_digit text), after is_digit text))) ≡ Ok a
        → (x : List ℕ) × (text ≡ x ++ a.1) × IsNumber part x a.0
    by_digits true is e = by_place (place_of part (take 3 text)) refl e
    by_digits false is e =
        let n : ℕ = decimal (front is_digit text) in
        let two = guard_ok (nat_lt n (first_of part) || nat_lt (last_of part) n) faults.OutOfField (Ok (n, after is_digit text)) a e in
        let within = or_false (nat_lt n (first_of part)) (nat_lt (last_of part) n) two.0 in
        let same : (n, after is_digit text) ≡ a = ok_is (n, after is_digit text) a two.1 in
        let found : (x : List ℕ) × (text ≡ x ++ after is_digit text) × IsNumber part x n =
        (front is_digit text, sym (parts_joined is_digit text), inl (record { digits = (front_passes is_digit text, some_from (front is_digit text) is); value = refl; low = ltb-false n (first_of part) within.0; high = ltb-false (last_of part) n within.1 }))
        in
        subst (λ (b : ℕ × List ℕ). (x : List ℕ) × (text ≡ x ++ b.1) × IsNumber part x b.0) same found

no_digits : (text : List ℕ) → list_all is_letter text ≡ true → text ≢ [] → (rest : List ℕ) → front is_digit (text ++ rest) ≡ []
unfolding front
no_digits [] letters some rest = absurd (some refl)
no_digits (b ∷ bs) letters some rest = rw (letter_no_digit b (and_left (is_letter b) (list_all is_letter bs) letters)) refl

long_some : (text : List ℕ) → length text ≡ 3 → text ≢ []
long_some text three empty = absurd (omega (arith, three, ap (length {A = ℕ}) empty))

pub number_again : (part : Part) (x rest : List ℕ) (n : ℕ) → IsNumber part x n → StopsAt is_digit rest → number_at part (x ++ rest) ≡ Ok (n, rest)
unfolding number_at
number_again part x rest n (inl is) stop =
    let low : first_of part ≤ decimal x = omega (arith, is.low, is.value) in
    let high : decimal x ≤ last_of part = omega (arith, is.high, is.value) in
    rw (front_again is_digit x rest is.digits.0 stop, after_again is_digit x rest is.digits.0 stop, some_to x is.digits.1, le-ltb (decimal x) (first_of part) low, le-ltb (last_of part) (decimal x) high)
    (ap (λ (v : ℕ). done (v, rest)) (sym is.value))
number_again part x rest n (inr (place, three, found, value)) stop =
    let name : take 3 (x ++ rest) ≡ x = ap (λ k. take k (x ++ rest)) (sym three) ∙ take-append_seam x rest in
    let behind : drop 3 (x ++ rest) ≡ rest = ap (λ k. drop k (x ++ rest)) (sym three) ∙ drop-append_seam x rest in
    rw (no_digits x (name_letters part x place found) (long_some x three) rest, name, behind, found) (ap (λ (v : ℕ). done (v, rest)) (sym value))

-- ---- steps

nothing_counts : nat_eq (decimal (front is_digit [])) 0 ≡ false → ⊥
unfolding front decimal_from
nothing_counts e = absurd cc

pub step_takes : (text : List ℕ) (n : ℕ) → step_at text ≡ Ok (n, []) → IsStep text n
unfolding step_at
step_takes [] n e = inl (refl, sym (ap (λ (p : ℕ × List ℕ). p.0) (ok_is (1, []) (n, []) e)))
step_takes (b ∷ bs) n e = by_test (nat_eq b 47) refl e
  where
    digits : List ℕ
    digits = front is_digit bs

    by_test : (t : Bool) → nat_eq b 47 ≡ t → cond {A = Result (ℕ × List ℕ) LineFault} t (cond (nat_eq (decimal (front is_digit bs)) 0) (Err faults.BadStep) (Ok (decimal (front is_digit bs), after is_digit bs))) (Ok (1, b ∷ bs)) ≡ Ok (n, []) → IsStep (b ∷ bs) n
    by_test true is e =
        let g = guard_ok (nat_eq (decimal (front is_digit bs)) 0) faults.BadStep (Ok (decimal (front is_digit bs), after is_digit bs)) (n, []) e in
        let both = ok_is (decimal (front is_digit bs), after is_digit bs) (n, []) g.1 in
        let n-is : decimal (front is_digit bs) ≡ n = ap (λ (p : ℕ × List ℕ). p.0) both in
        let nothing : after is_digit bs ≡ [] = ap (λ (p : ℕ × List ℕ). p.1) both in
        let whole : front is_digit bs ≡ bs = sym (append-nil (front is_digit bs)) ∙ ap (λ (l : List ℕ). front is_digit bs ++ l) (sym nothing) ∙ parts_joined is_digit bs in
        let positive : 0 < n = omega (arith, n-is, eqb-false (decimal (front is_digit bs)) 0 g.0) in
        let some : bs ≢ [] = λ empty. let P : List ℕ → Type 0 = λ l. nat_eq (decimal (front is_digit l)) 0 ≡ false in nothing_counts (subst P empty g.0) in
        inr (bs, ap (λ (c : ℕ). c ∷ bs) (eqb-true b 47 is), (ap (list_all is_digit) (sym whole) ∙ front_passes is_digit bs, some), sym n-is ∙ ap decimal whole, positive)
    by_test false is e = absurd (cc (ap (λ (p : ℕ × List ℕ). p.1) (ok_is (1, b ∷ bs) (n, []) e)))

pub step_again : (text : List ℕ) (n : ℕ) → IsStep text n → step_at text ≡ Ok (n, [])
unfolding step_at
step_again text n (inl none) = rw (none.0, none.1) refl
step_again text n (inr (digits, is, are, value, positive)) =
    let whole : front is_digit digits ≡ digits = ap (front is_digit) (sym (append-nil digits)) ∙ front_again is_digit digits [] are.0 tt in
    let nothing : after is_digit digits ≡ [] = ap (after is_digit) (sym (append-nil digits)) ∙ after_again is_digit digits [] are.0 tt in
    let some : nat_eq (decimal digits) 0 ≡ false = false_from_ne_true (nat_eq (decimal digits) 0) (λ e. absurd (omega (arith, value, positive, eqb-true (decimal digits) 0 e))) in
    ap step_at is ∙ rw (whole, nothing, some) (ap (λ (v : ℕ). done (v, [])) (sym value))

step_stops : (text : List ℕ) (n : ℕ) → IsStep text n → StopsAt is_digit text
step_stops text n (inl none) = rw none.0 tt
step_stops text n (inr (digits, is, are, value, positive)) = rw is refl

-- ---- items

-- `z` and a step, after `a-`
end_takes : (part : Part) (a : ℕ) (text : List ℕ) (ns : List ℕ) → end_at part a text ≡ Ok (ns, []) → (y step : List ℕ) × (z n : ℕ) × (text ≡ y ++ step) × IsNumber part y z × (a ≤ z) × IsStep step n × (ns ≡ numbers_where (is_every a z n))
unfolding end_at
end_takes part a text ns e =
    let one = bind_ok (number_at part text) (λ z. cond (nat_lt z.0 a) (Err faults.Reversed) (every a z.0 (step_at z.1))) (ns, []) e in
    let z = one.0 in
    let two = guard_ok (nat_lt z.0 a) faults.Reversed (every a z.0 (step_at z.1)) (ns, []) one.2 in
    let three = bind_ok (step_at z.1) (λ n. Ok (numbers_where (is_every a z.0 n.0), n.1)) (ns, []) two.1 in
    let n = three.0 in
    let both = ok_is (numbers_where (is_every a z.0 n.0), n.1) (ns, []) three.2 in
    let nothing : n.1 ≡ [] = ap (λ (p : List ℕ × List ℕ). p.1) both in
    let number = number_takes part text z one.1 in
    let stepped : step_at z.1 ≡ Ok (n.0, []) = three.1 ∙ ap (λ (l : List ℕ). done (n.0, l)) nothing in
    (number.0, z.1, z.0, n.0, number.1, number.2, ltb-false z.0 a two.0, step_takes z.1 n.0 stepped, sym (ap (λ (p : List ℕ × List ℕ). p.0) both))

end_again : (part : Part) (a : ℕ) (y step : List ℕ) (z n : ℕ) → IsNumber part y z → a ≤ z → IsStep step n → end_at part a (y ++ step) ≡ Ok (numbers_where (is_every a z n), [])
unfolding end_at
end_again part a y step z n number ordered stepped =
    rw (number_again part y step z number (step_stops step n stepped), le-ltb z a ordered, step_again step n stepped) refl

-- what follows a number of an item: nothing, or `-`
abbrev Tail : Part → ℕ → List ℕ → List ℕ → Type 0
Tail part a text ns =
    ((text ≡ []) × (ns ≡ numbers_where (is_every a a 1))) ⊎
    ((y step : List ℕ) × (z n : ℕ) × (text ≡ 45 ∷ (y ++ step)) × IsNumber part y z × (a ≤ z) × IsStep step n × (ns ≡ numbers_where (is_every a z n)))

single_is : (a : ℕ) (rest ns : List ℕ) → every a a (Ok (1, rest)) ≡ Ok (ns, []) → (rest ≡ []) × (ns ≡ numbers_where (is_every a a 1))
single_is a rest ns e =
    let both = ok_is (numbers_where (is_every a a 1), rest) (ns, []) e in
    (ap (λ (p : List ℕ × List ℕ). p.1) both, sym (ap (λ (p : List ℕ × List ℕ). p.0) both))

range_takes : (part : Part) (a : ℕ) (text ns : List ℕ) → range_at part a text ≡ Ok (ns, []) → Tail part a text ns
unfolding range_at
range_takes part a [] ns e = inl (refl, (single_is a [] ns e).1)
range_takes part a (b ∷ bs) ns e = by_test (nat_eq b 45) refl e
  where
    by_slash : (t : Bool) → cond t (Err faults.StepOnNumber) (every a a (Ok (1, b ∷ bs))) ≡ Ok (ns, []) → Tail part a (b ∷ bs) ns
    by_slash true e = absurd cc
    by_slash false e = absurd (cons_not_nil (single_is a (b ∷ bs) ns e).0)
      where
        cons_not_nil : b ∷ bs ≡ [] → ⊥
        cons_not_nil q = cc

    by_test : (t : Bool) → nat_eq b 45 ≡ t → cond t (end_at part a bs) (cond (nat_eq b 47) (Err faults.StepOnNumber) (every a a (Ok (1, b ∷ bs)))) ≡ Ok (ns, []) → Tail part a (b ∷ bs) ns
    by_test true is e =
        let r = end_takes part a bs ns e in
        inr (r.0, r.1, r.2, r.3, ap (λ (c : ℕ). c ∷ bs) (eqb-true b 45 is) ∙ ap (λ (l : List ℕ). 45 ∷ l) r.4, r.5, r.6, r.7, r.8)
    by_test false is e = by_slash (nat_eq b 47) e

pub item_takes : (part : Part) (text ns : List ℕ) → item_at part text ≡ Ok (ns, []) → IsItem part text ns
unfolding item_at numbers_at
item_takes part [] ns e = absurd cc
item_takes part (b ∷ bs) ns e = by_test (nat_eq b 42) refl e
  where
    star : Result (List ℕ × List ℕ) LineFault
    star = every (first_of part) (last_of part) (step_at bs)

    by_test : (t : Bool) → nat_eq b 42 ≡ t → cond t (every (first_of part) (last_of part) (step_at bs)) (number_at part (b ∷ bs) >>= λ a. range_at part a.0 a.1) ≡ Ok (ns, []) → IsItem part (b ∷ bs) ns
    by_test true is e =
        let one = bind_ok (step_at bs) (λ n. Ok (numbers_where (is_every (first_of part) (last_of part) n.0), n.1)) (ns, []) e in
        let n = one.0 in
        let both = ok_is (numbers_where (is_every (first_of part) (last_of part) n.0), n.1) (ns, []) one.2 in
        let nothing : n.1 ≡ [] = ap (λ (p : List ℕ × List ℕ). p.1) both in
        let stepped : step_at bs ≡ Ok (n.0, []) = one.1 ∙ ap (λ (l : List ℕ). done (n.0, l)) nothing in
        inl (bs, n.0, ap (λ (c : ℕ). c ∷ bs) (eqb-true b 42 is), step_takes bs n.0 stepped, sym (ap (λ (p : List ℕ × List ℕ). p.0) both))
    by_test false is e =
        let one = bind_ok (number_at part (b ∷ bs)) (λ a. range_at part a.0 a.1) (ns, []) e in
        let a = one.0 in
        let number = number_takes part (b ∷ bs) a one.1 in
        elim (range_takes part a.0 a.1 ns one.2) [
          | inl last ↦
              let whole : b ∷ bs ≡ number.0 = number.1 ∙ ap (λ (l : List ℕ). number.0 ++ l) last.0 ∙ append-nil number.0 in
              let P : List ℕ → Type 0 = λ l. IsNumber part l a.0 in
              inr (inl (a.0, subst P (sym whole) number.2, last.1))
          | inr r ↦ inr (inr (number.0, r.0, r.1, a.0, r.2, r.3, number.1 ∙ ap (λ (l : List ℕ). number.0 ++ l) r.4, number.2, r.5, r.6, r.7, r.8))
        ]

-- a number begins with a digit or a letter
pub number_first : (part : Part) (x : List ℕ) (n : ℕ) → IsNumber part x n → (b : ℕ) × (more : List ℕ) × (x ≡ b ∷ more) × ((is_digit b ≡ true) ⊎ (is_letter b ≡ true))
number_first part [] n (inl is) = absurd (is.digits.1 refl)
number_first part (b ∷ bs) n (inl is) = (b, bs, refl, inl (and_left (is_digit b) (list_all is_digit bs) is.digits.0))
number_first part x n (inr (place, three, found, value)) = by_text x (long_some x three) (name_letters part x place found)
  where
    by_text : (y : List ℕ) → y ≢ [] → list_all is_letter y ≡ true → (b : ℕ) × (more : List ℕ) × (y ≡ b ∷ more) × ((is_digit b ≡ true) ⊎ (is_letter b ≡ true))
    by_text [] some letters = absurd (some refl)
    by_text (b ∷ bs) some letters = (b, bs, refl, inr (and_left (is_letter b) (list_all is_letter bs) letters))

no_star : (b : ℕ) → (is_digit b ≡ true) ⊎ (is_letter b ≡ true) → nat_eq b 42 ≡ false
no_star b (inl digit) = let low = leb-true 48 b (and_left (nat_le 48 b) (nat_le b 57) digit) in ne_eqb b 42 (λ same. absurd (omega (arith, low, same)))
no_star b (inr letter) = letter_other b 42 (omega arith) letter

numbers_first : (part : Part) (x rest : List ℕ) (n : ℕ) → IsNumber part x n → item_at part (x ++ rest) ≡ numbers_at part (x ++ rest)
unfolding item_at
numbers_first part x rest n is =
    let f = number_first part x n is in
    let star : nat_eq f.0 42 ≡ false = no_star f.0 f.3 in
    let P : List ℕ → Type 0 = λ y. item_at part (y ++ rest) ≡ numbers_at part (y ++ rest) in
    subst P (sym f.2) (rw star refl)

pub item_again : (part : Part) (text ns : List ℕ) → IsItem part text ns → item_at part text ≡ Ok (ns, [])
unfolding item_at numbers_at range_at
item_again part text ns (inl (step, n, is, stepped, value)) = ap (item_at part) is ∙ rw (step_again step n stepped) (ap (λ (l : List ℕ). done (l, [])) (sym value))
item_again part text ns (inr (inl (a, number, value))) =
    ap (item_at part) (sym (append-nil text)) ∙ numbers_first part text [] a number ∙ rw (number_again part text [] a number tt) (ap (λ (l : List ℕ). done (l, [])) (sym value))
item_again part text ns (inr (inr (x, y, step, a, z, n, is, first, last, ordered, stepped, value))) =
    ap (item_at part) is ∙ numbers_first part x (45 ∷ (y ++ step)) a first
    ∙ rw (number_again part x (45 ∷ (y ++ step)) a first refl, end_again part a y step z n last ordered stepped) (ap (λ (l : List ℕ). done (l, [])) (sym value))

-- ---- items that are all of their text

pub whole_takes : (part : Part) (text numbers : List ℕ) → item_of part text ≡ Ok numbers → IsItem part text numbers
unfolding item_of
whole_takes part text numbers e =
    let one = bind_ok (item_at part text) (λ item. cond (is_nothing item.1) (Ok item.0) (Err faults.BadNumber)) numbers e in
    let item = one.0 in
    let two = chosen (is_nothing item.1) item.0 numbers one.2 in
    let nothing : item.1 ≡ [] = nil_from_length item.1 (eqb-true (length item.1) 0 two.0) in
    item_takes part text numbers (one.1 ∙ ap (λ (l : List ℕ). done (item.0, l)) nothing ∙ ap (λ (ns : List ℕ). done (ns, [])) two.1)
  where
    chosen : (b : Bool) (x y : List ℕ) → cond b (Ok x) (Err faults.BadNumber) ≡ Ok y → (b ≡ true) × (x ≡ y)
    chosen true x y e = (refl, ok_is x y e)
    chosen false x y e = absurd cc

pub whole_again : (part : Part) (text numbers : List ℕ) → IsItem part text numbers → item_of part text ≡ Ok numbers
unfolding item_of
whole_again part text numbers is = rw (item_again part text numbers is) refl

-- ---- what a call answered

pub item_answers : (part : Part) (text : List ℕ) (r : Result (List ℕ) LineFault) → r ≡ item_of part text → IfOk r (IsItem part text) × (IsErr r → (numbers : List ℕ) → IsItem part text numbers → ⊥)
item_answers part text (Ok numbers) is = (whole_takes part text numbers (sym is), λ failed. absurd (impossible failed))
  where
    impossible : IsErr {T = List ℕ} {E = LineFault} (Ok numbers) → ⊥
    impossible e = cc
item_answers part text (Err fault) is = (tt, λ failed numbers item. ok_no_err numbers fault (sym (whole_again part text numbers item) ∙ sym is))
