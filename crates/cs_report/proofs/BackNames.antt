-- Numbers and names that are written are read back.
use Rattle.std.proofs.Common.{◌≡◌, ℕ, suc, ◌+◌, ◌-◌, ◌*◌, ◌/◌, ◌%◌, ◌<◌, ◌≤◌, ◌^◌, Bool, true, false, not, ◌==◌, List, [], ◌∷◌, ◌++◌, length, get_or, position, Option, Some, None, nat_lt, cond, refl, sym, ap, ◌∙◌, arith}
use Rattle.std.specs.Prelude.{AllPairs, ◌≢◌}
use Rattle.std.specs.Fmt.{decimal as numeral}
use Rattle.std.specs.List.{list_all, position_or_len}
use Rattle.std.proofs.lemmas.Bool.{lt-ltb, le-leb, ne_eqb, eq-eqb, eqb-true, ltb-true}
use Rattle.std.proofs.lemmas.Fmt.{decimal_by_steps}
use Rattle.std.proofs.lemmas.List.{get_or_read}
use Rattle.std.proofs.lemmas.List.Folds.{list_all-append}
use Rattle.std.proofs.lemmas.List.Sums.{position_or_len_is}
use Rattle.cs_crontab.specs.Crontab.{CommandLine}
use Rattle.cs_table.specs.Text.{decimal_from, is_digit}
use Rattle.cs_table.proofs.Fronts.{decimal_next, decimal_end}
use Rattle.cs_plan.specs.Plan.{Declared, crons, command_of, no_command, no_line}
use Rattle.std.specs.Str.{bytes_eq}
use Rattle.std.proofs.lemmas.Slice.Eq.{bytes_eq-Decides}
use Rattle.cs_report.specs.Names.{job_on, place_of}
use Rattle.cs_report.specs.ReadBack.{is_job, tells_command}
use Rattle.cs_report.specs.Reading.{is_nothing}
use Rattle.cs_report.proofs.BackWords.{both, digit_byte, is_date_byte}

-- ---- numbers

digits_then : (n : ℕ) (xs ys : List ℕ) → decimal_from n (xs ++ ys) ≡ decimal_from (decimal_from n xs) ys
digits_then n [] ys = ap (λ (k : ℕ). decimal_from k ys) (sym (decimal_end n))
digits_then n (x ∷ xs) ys =
    decimal_next n x (xs ++ ys) ∙ digits_then (10 * n + (x - 48)) xs ys ∙ ap (λ (k : ℕ). decimal_from k ys) (sym (decimal_next n x xs))

one_digit : (m : ℕ) → m < 10 → is_digit (48 + m) ≡ true
one_digit m l = both _ _ (le-leb 48 (48 + m) (omega arith)) (le-leb (48 + m) 57 (omega (arith, l)))

-- the digits of a number
pub record IsNumeral (n : ℕ) (ds : List ℕ) : Type 0 where
  pub some : not (is_nothing ds) ≡ true
  pub digits : list_all is_digit ds ≡ true
  pub bytes : list_all is_date_byte ds ≡ true
  pub value : decimal_from 0 ds ≡ n

first_digit : (n : ℕ) → n < 10 → IsNumeral n ((48 + n) ∷ [])
first_digit n l = record {
  some = refl;
  digits = both _ _ (one_digit n l) refl;
  bytes = both _ _ (digit_byte n) refl;
  value = decimal_next 0 (48 + n) [] ∙ decimal_end (10 * 0 + (48 + n - 48)) ∙ omega arith;
}

some_more : (ds : List ℕ) (d : ℕ) → not (is_nothing (ds ++ d ∷ [])) ≡ true
some_more [] d = refl
some_more (x ∷ ds) d = rw (ne_eqb (suc (length (ds ++ d ∷ []))) 0 (λ e. omega (arith, e))) refl

next_digit : (n : ℕ) (ds : List ℕ) → 10 ≤ n → IsNumeral (n / 10) ds → IsNumeral n (ds ++ (48 + n % 10) ∷ [])
next_digit n ds g h = record {
  some = some_more ds (48 + n % 10);
  digits = list_all-append is_digit ds ((48 + n % 10) ∷ []) ∙ both _ _ h.digits (both _ _ (one_digit (n % 10) (omega arith)) refl);
  bytes = list_all-append is_date_byte ds ((48 + n % 10) ∷ []) ∙ both _ _ h.bytes (both _ _ (digit_byte (n % 10)) refl);
  value =
      digits_then 0 ds ((48 + n % 10) ∷ []) ∙ decimal_next (decimal_from 0 ds) (48 + n % 10) []
      ∙ decimal_end (10 * decimal_from 0 ds + (48 + n % 10 - 48)) ∙ ap (λ (k : ℕ). 10 * k + (48 + n % 10 - 48)) h.value ∙ omega arith;
}

pub numeral_is : (n : ℕ) → n < 2 ^ 64 → IsNumeral n (numeral n)
numeral_is = decimal_by_steps IsNumeral first_digit next_digit

-- ---- places

pub position_is : {X : Type 0} (p : X → Bool) (xs : List X) (i : ℕ) (d : X) → i < length xs → p (get_or xs i d) ≡ true → ((k : ℕ) → k < i → p (get_or xs k d) ≡ false) → position p xs ≡ Some i
position_is p xs i d below passes before =
    let first : position_or_len p xs ≡ i = position_or_len_is p xs i d (omega (arith, below)) before (λ l. passes) in
    rw (first, lt-ltb i (length xs) below) refl

pub job_back : (d : Declared) (j : ℕ) → AllPairs (λ x y. x.number < y.number) d.crontab.lines → j < crons d → (command_of d j).number < 4_294_967_296 → job_on d (command_of d j).number ≡ Some j
unfolding job_on
job_back d j rising below small =
    rw (lt-ltb (command_of d j).number 4_294_967_296 small)
    (position_is (λ line. line.number == (command_of d j).number) d.crontab.lines j no_command below (eq-eqb _ _ refl) (λ k l. ne_eqb _ _ (λ e. omega (arith, e, rising k j no_command l below))))

-- a command has the number of its line to itself
pub command_told : (d : Declared) (j : ℕ) (line : CommandLine) → AllPairs (λ x y. x.number < y.number) d.crontab.lines → nat_lt j (crons d) ≡ true → line ≡ get_or d.crontab.lines j line → line.number < 4_294_967_296 → tells_command d j ≡ true
unfolding tells_command
command_told d j line rising is at small =
    let below : j < crons d = ltb-true j (crons d) is in
    let same : line ≡ command_of d j = get_or_read d.crontab.lines j line below at no_command in
    let fits : (command_of d j).number < 4_294_967_296 = omega (arith, ap (λ (l : CommandLine). l.number) same, small) in
    rw (job_back d j rising below fits) (eq-eqb j j refl)

pub told_back : (d : Declared) (j : ℕ) → tells_command d j ≡ true → job_on d (command_of d j).number ≡ Some j
unfolding tells_command
told_back d j = found (job_on d (command_of d j).number)
  where
    found : (o : Option ℕ) → is_job j o ≡ true → o ≡ Some j
    found None is = absurd cc
    found (Some i) is = ap (λ (n : ℕ). Some n) (eqb-true i j is)

pub told_small : (d : Declared) (j : ℕ) → tells_command d j ≡ true → (command_of d j).number < 4_294_967_296
unfolding tells_command job_on
told_small d j = by_size (nat_lt (command_of d j).number 4_294_967_296) refl
  where
    by_size : (b : Bool) → nat_lt (command_of d j).number 4_294_967_296 ≡ b → is_job j (cond b (position (λ line. line.number == (command_of d j).number) d.crontab.lines) None) ≡ true → (command_of d j).number < 4_294_967_296
    by_size true e is = ltb-true (command_of d j).number 4_294_967_296 e
    by_size false e is = absurd cc

not_same : (xs ys : List ℕ) → xs ≢ ys → bytes_eq xs ys ≡ false
not_same xs ys h = by_test (bytes_eq xs ys) refl
  where
    by_test : (t : Bool) → bytes_eq xs ys ≡ t → t ≡ false
    by_test true e = absurd (h ((bytes_eq-Decides xs ys).0 e))
    by_test false e = refl

pub same_bytes : (xs : List ℕ) → bytes_eq xs xs ≡ true
same_bytes xs = (bytes_eq-Decides xs xs).1 refl

pub place_back : (d : Declared) (i : ℕ) → AllPairs (λ x y. x.identifier ≢ y.identifier) d.anacrontab.lines → i < length d.anacrontab.lines → place_of d (get_or d.anacrontab.lines i no_line).identifier ≡ Some i
unfolding place_of
place_back d i distinct below =
    position_is (λ line. bytes_eq line.identifier (get_or d.anacrontab.lines i no_line).identifier) d.anacrontab.lines i no_line below
    (same_bytes (get_or d.anacrontab.lines i no_line).identifier) (λ k l. not_same _ _ (distinct k i no_line l below))
