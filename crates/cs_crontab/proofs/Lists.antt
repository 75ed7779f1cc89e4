-- Items one after the other, as the loop reads them.
use Rattle.std.proofs.Common.{◌≡◌, ℕ, zero, suc, ◌<◌, Bool, true, false, ◌||◌, List, [], ◌∷◌, length, get_or, take, drop, Result, Ok, Err, refl, sym, ap, ◌∙◌, arith}
use Rattle.std.specs.List.{list_any, slice_split, onto_first, join_with_byte}
use Rattle.std.proofs.lemmas.Bool.{false_from_ne_true}
use Rattle.std.proofs.lemmas.List.Splits.{join_with_byte-slice_split}
use Rattle.cs_schedule.specs.Numbers.{numbers_where, has}
use Rattle.cs_schedule.proofs.Ranges.{numbers_same, has-numbers_where}
use Rattle.cs_schedule.specs.declared.part.Part.{Part}
use Rattle.cs_crontab.specs.declared.fault.LineFault.{LineFault}
use Rattle.cs_crontab.specs.Format.{is_comma}
use Rattle.cs_crontab.specs.Reading.{item_of, items_of}
use Rattle.cs_table.specs.declared.fault.Wrong.{Wrong}
use Rattle.cs_table.specs.Wrong.{◌>>=◌, marked}

pub no_comma : (xs : List ℕ) → ((k : ℕ) → k < length xs → is_comma (get_or xs k 0) ≡ true → ⊥) → slice_split is_comma xs ≡ xs ∷ []
no_comma [] none = refl
no_comma (x ∷ xs) none =
    let e : is_comma x ≡ false = false_from_ne_true (is_comma x) (none 0 (omega arith)) in
    rw e (ap (onto_first x) (no_comma xs (λ k below is. none (suc k) (omega arith) is)))

pub comma_at : (xs : List ℕ) (k : ℕ) → k < length xs → ((j : ℕ) → j < k → is_comma (get_or xs j 0) ≡ true → ⊥) → is_comma (get_or xs k 0) ≡ true → slice_split is_comma xs ≡ take k xs ∷ slice_split is_comma (drop (suc k) xs)
comma_at [] k below none is = absurd (omega arith)
comma_at (x ∷ xs) zero below none is = rw is refl
comma_at (x ∷ xs) (suc k) below none is =
    let e : is_comma x ≡ false = false_from_ne_true (is_comma x) (none 0 (omega arith)) in
    rw e (ap (onto_first x) (comma_at xs k (omega arith) (λ j lt at. none (suc j) (omega arith) at) is))

-- the numbers so far, with those of the items that are left
abbrev pub with_numbers : List ℕ → Result (List (List ℕ)) (Wrong LineFault) → Result (List ℕ) (Wrong LineFault)
with_numbers numbers read = read >>= λ items. Ok (numbers_where (λ n. has numbers n || list_any (λ item. has item n) items))

or_assoc : (a b c : Bool) → (a || (b || c)) ≡ ((a || b) || c)
or_assoc true b c = refl
or_assoc false b c = refl

or_none : (a : Bool) → (a || false) ≡ a
or_none true = refl
or_none false = refl

joined : (numbers item : List ℕ) (items : List (List ℕ)) → numbers_where (λ n. has numbers n || (has item n || list_any (λ i. has i n) items)) ≡ numbers_where (λ n. has (numbers_where (λ m. has numbers m || has item m)) n || list_any (λ i. has i n) items)
joined numbers item items =
    numbers_same (λ n. has numbers n || (has item n || list_any (λ i. has i n) items)) (λ n. has (numbers_where (λ m. has numbers m || has item m)) n || list_any (λ i. has i n) items) (λ n below.
    or_assoc (has numbers n) (has item n) (list_any (λ i. has i n) items) ∙ ap (λ b. b || list_any (λ i. has i n) items) (sym (has-numbers_where (λ m. has numbers m || has item m) n below)))

pub goes_on : (part : Part) (numbers item : List ℕ) (text : List ℕ) (texts : List (List ℕ)) (total : Result (List ℕ) (Wrong LineFault)) → item_of part text ≡ Ok item
    → with_numbers numbers (items_of part (text ∷ texts)) ≡ total → with_numbers (numbers_where (λ n. has numbers n || has item n)) (items_of part texts) ≡ total
unfolding items_of
goes_on part numbers item text texts total h so_far = sym (step (items_of part texts)) ∙ ap (with_numbers numbers) (sym whole) ∙ so_far
  where
    whole : items_of part (text ∷ texts) ≡ (items_of part texts >>= λ items. Ok (item ∷ items))
    whole = rw h refl

    step : (read : Result (List (List ℕ)) (Wrong LineFault)) → with_numbers numbers (read >>= λ items. Ok (item ∷ items)) ≡ with_numbers (numbers_where (λ n. has numbers n || has item n)) read
    step (Ok items) = ap (λ (ns : List ℕ). Ok ns) (joined numbers item items)
    step (Err f) = refl

pub ends : (part : Part) (numbers rest text : List ℕ) (texts : List (List ℕ)) (wrong : Wrong LineFault) (total : Result (List ℕ) (Wrong LineFault)) → slice_split is_comma rest ≡ text ∷ texts → marked (length rest) (length text) (item_of part text) ≡ Err wrong
    → with_numbers numbers (items_of part (slice_split is_comma rest)) ≡ total → total ≡ Err wrong
unfolding items_of
ends part numbers rest text texts wrong total parted h so_far =
    let left : length (join_with_byte 44 (text ∷ texts)) ≡ length rest = ap (λ (ts : List (List ℕ)). length (join_with_byte 44 ts)) (sym parted) ∙ ap (length {A = ℕ}) (join_with_byte-slice_split 44 rest) in
    let here : marked (length (join_with_byte 44 (text ∷ texts))) (length text) (item_of part text) ≡ Err wrong = ap (λ n. marked n (length text) (item_of part text)) left ∙ h in
    sym so_far ∙ ap (λ (ts : List (List ℕ)). with_numbers numbers (items_of part ts)) parted ∙ rw here refl

pub is_done : (part : Part) (test : ℕ → Bool) (total : Result (List ℕ) (Wrong LineFault)) → with_numbers (numbers_where test) (items_of part []) ≡ total → total ≡ Ok (numbers_where test)
unfolding items_of
is_done part test total so_far =
    sym so_far ∙ ap (λ (ns : List ℕ). Ok ns) (numbers_same (λ n. has (numbers_where test) n || false) test (λ n below. or_none (has (numbers_where test) n) ∙ has-numbers_where test n below))
