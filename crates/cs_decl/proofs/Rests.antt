-- The rest of a crontab is the table without the numbers of the lines that are left out.
use Rattle.std.proofs.Common.{◌≡◌, ℕ, zero, suc, ◌<◌, ◌≤◌, List, [], ◌∷◌, Bool, true, false, not, cond, eqb, map, length, get_or, refl, ap, ◌∙◌, arith}
use Rattle.std.specs.Prelude.{All, AllPairs}
use Rattle.std.specs.List.{list_any, filter, count_by}
use Rattle.std.proofs.lemmas.Bool.{ne_eqb, eq-eqb}
use Rattle.std.proofs.lemmas.List.Elements.{All-nil, All-cons, All-head, All-tail, All-map, All-filter, All-weaker}
use Rattle.std.proofs.lemmas.List.Folds.{list_any_none}
use Rattle.std.proofs.lemmas.List.Sums.{count_by-le-length}
use Rattle.cs_crontab.specs.Crontab.{Table as Crontab, CommandLine, without}
use Rattle.cs_decl.specs.declared.entries.Entries.{Entries}
use Rattle.cs_decl.specs.Join.{is_left_out, rest, lines_left_out}

pub count_within : {X : Type 0} (p : X → Bool) (xs : List X) → count_by p xs ≤ length xs
count_within p xs = count_by-le-length p xs

kept_same : {X : Type 0} (p q : X → Bool) (xs : List X) → All (λ x. p x ≡ q x) xs → filter p xs ≡ filter q xs
kept_same p q [] each = refl
kept_same p q (x ∷ xs) each = rw (All-head (λ y. p y ≡ q y) x xs each, kept_same p q xs (All-tail (λ y. p y ≡ q y) x xs each)) refl

pub first_is_least : {X : Type 0} (R : X → X → Type 0) (x : X) (xs : List X) → AllPairs R (x ∷ xs) → All (R x) xs
first_is_least R x xs pairs = λ k d low. pairs zero (suc k) d (omega arith) (omega (arith, low))

pub later_pairs : {X : Type 0} (R : X → X → Type 0) (x : X) (xs : List X) → AllPairs R (x ∷ xs) → AllPairs R xs
later_pairs R x xs pairs = λ i j d low high. pairs (suc i) (suc j) d (omega (arith, low)) (omega (arith, high))

module _ (q : CommandLine → Bool) where
  abbrev numbers_of : List CommandLine → List ℕ
  numbers_of lines = map (λ line. line.number) (filter q lines)

  none_later : (n : ℕ) (lines : List CommandLine) → All (λ l. n < l.number) lines → list_any (λ m. eqb m n) (numbers_of lines) ≡ false
  none_later n lines later =
      list_any_none (λ m. eqb m n) (numbers_of lines)
      (All-map (λ m. eqb m n ≡ false) (λ line. line.number) (filter q lines) (All-filter q (λ line. eqb line.number n ≡ false) lines (All-weaker (λ l. n < l.number) (λ line. eqb line.number n ≡ false) (λ line above. ne_eqb line.number n (λ same. absurd (omega (arith, above, same)))) lines later)))

  first_step : (line : CommandLine) (lines : List CommandLine) (b : Bool) → list_any (λ m. eqb m line.number) (numbers_of lines) ≡ false → list_any (λ m. eqb m line.number) (map (λ l. l.number) (cond b (line ∷ filter q lines) (filter q lines))) ≡ b
  first_step line lines true none = rw (eq-eqb line.number line.number refl) refl
  first_step line lines false none = none

  later_step : (line other : CommandLine) (lines : List CommandLine) (b : Bool) → line.number < other.number
      → list_any (λ m. eqb m other.number) (map (λ l. l.number) (cond b (line ∷ filter q lines) (filter q lines))) ≡ list_any (λ m. eqb m other.number) (numbers_of lines)
  later_step line other lines true below = rw (ne_eqb line.number other.number (λ same. absurd (omega (arith, below, same)))) refl
  later_step line other lines false below = refl

  -- a line's number is among those of the lines that pass exactly if the line passes
  each_number : (lines : List CommandLine) → AllPairs (λ x y. x.number < y.number) lines → All (λ line. list_any (λ n. eqb n line.number) (numbers_of lines) ≡ q line) lines
  each_number [] rising = All-nil (λ line. list_any (λ n. eqb n line.number) (numbers_of []) ≡ q line)
  each_number (line ∷ lines) rising =
      let least = first_is_least (λ x y. x.number < y.number) line lines rising in
      let later = each_number lines (later_pairs (λ x y. x.number < y.number) line lines rising) in
      All-cons (λ l. list_any (λ n. eqb n l.number) (numbers_of (line ∷ lines)) ≡ q l) line lines (first_step line lines (q line) (none_later line.number lines least))
      (λ k d low. later_step line (get_or lines k d) lines (q line) (least k d low) ∙ later k d low)

pub rest_is : (d : Entries) (table : Crontab) → AllPairs (λ x y. x.number < y.number) table.lines → without (lines_left_out d table) table ≡ rest d table
rest_is d table rising =
    let numbers = lines_left_out d table in
    let each : All (λ line. not (list_any (λ n. eqb n line.number) numbers) ≡ not (is_left_out d line)) table.lines = λ k x low. ap not (each_number (is_left_out d) table.lines rising k x low) in
    rw (kept_same (λ line. not (list_any (λ n. eqb n line.number) numbers)) (λ line. not (is_left_out d line)) table.lines each) refl
