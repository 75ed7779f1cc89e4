-- Tables: what is read is written so, what is written so is read, and which fault is the first.
use Rattle.std.proofs.Common.{◌≡◌, ℕ, ◌+◌, ◌-◌, ◌<◌, ◌≤◌, ◌⊎◌, Bool, true, false, cond, nat_lt, List, [], ◌∷◌, ◌++◌, length, get_or, take, drop, Result, Ok, Err, refl, sym, ap, subst, ◌∙◌, arith, inl, inr}
use Rattle.std.specs.Prelude.{IfOk, IfErr, All, AllPairs}
use Rattle.std.proofs.lemmas.Bool.{le-ltb, lt-ltb, ltb-true, ltb-false}
use Rattle.std.proofs.lemmas.List.{length-append, length-drop, length-take-le, take-append-drop}
use Rattle.std.proofs.lemmas.List.Elements.{All-nil, All-push, All-weaker}
use Rattle.std.proofs.lemmas.List.Quantifiers.{all_pairs_push}
use Rattle.cs_table.specs.declared.fault.Wrong.{Wrong}
use Rattle.cs_table.specs.declared.fault.TableFault.{TableFault}
use Rattle.cs_table.specs.declared.fault.TableFault.TheVariants.{At, OutOfMemory}
use Rattle.cs_table.specs.declared.limits.TheConstants.{MAX_TABLE}
use Rattle.cs_table.specs.Text.{lines_of}
use Rattle.cs_table.specs.Wrong.{◌>>=◌, IsWithin}
use Rattle.cs_table.specs.Table.{Found, nowhere, Meaning, Kind, AreAdded, IsTable, IsFault, Means, IsFaultOf, Denotes, found_at, at_line, lines_from, table_of}

-- reading a line adds, and fails, as the kind of table defines, and the wrong text is a part of the
-- line
pub record Agrees {T F : Type 0} (kind : Kind T F) (added : ℕ → T → List ℕ → Result T (Wrong F)) : Type 0 where
  pub takes : (n : ℕ) (table more : T) (line : List ℕ) → added n table line ≡ Ok more → kind.Adds n table line more
  pub again : (n : ℕ) (table more : T) (line : List ℕ) → kind.Adds n table line more → added n table line ≡ Ok more
  pub fails : (n : ℕ) (table : T) (line : List ℕ) (wrong : Wrong F) → added n table line ≡ Err wrong → kind.Fails table line wrong
  pub fails_again : (n : ℕ) (table : T) (line : List ℕ) (wrong : Wrong F) → kind.Fails table line wrong → added n table line ≡ Err wrong
  pub within : (n : ℕ) (table : T) (line : List ℕ) (wrong : Wrong F) → added n table line ≡ Err wrong → IsWithin line wrong

-- ---- the place of a fault

-- the parts of a line before, at and after what is wrong
record Parts {F : Type 0} (line : List ℕ) (wrong : Wrong F) : Type 0 where
  front : List ℕ
  text : List ℕ
  behind : List ℕ
  whole : line ≡ front ++ (text ++ behind)
  column : length line - wrong.left + 1 ≡ length front + 1
  size : wrong.length ≡ length text
  left : wrong.left ≡ length (text ++ behind)

parts_of : {F : Type 0} (line : List ℕ) (wrong : Wrong F) → IsWithin line wrong → Parts line wrong
parts_of line wrong within =
    let at : ℕ = length line - wrong.left in
    let rest : List ℕ = drop at line in
    let rest_length : length rest ≡ wrong.left = omega (arith, length-drop at line, within.0) in
    let joined : take wrong.length rest ++ drop wrong.length rest ≡ rest = take-append-drop wrong.length rest in
    record {
      front = take at line;
      text = take wrong.length rest;
      behind = drop wrong.length rest;
      whole = sym (take-append-drop at line) ∙ ap (λ (l : List ℕ). take at line ++ l) (sym joined);
      column = omega (arith, length-take-le at line (omega (arith, within.0)));
      size = sym (length-take-le wrong.length rest (omega (arith, rest_length, within.1)));
      left = sym (ap (length {A = ℕ}) joined ∙ rest_length);
    }

module _ {T F : Type 0} (kind : Kind T F) where
  -- what each line keeps, the lines keep
  pub kept : (P : ℕ → T → Type 0) → ((n : ℕ) (table more : T) (line : List ℕ) → kind.Adds n table line more → P n table → P (n + 1) more)
      → (n : ℕ) (table total : T) (lines : List (List ℕ)) → AreAdded kind n table lines total → P n table → (m : ℕ) × P m total
  kept P keeps n table total [] none p = (n, subst (P n) (sym none) p)
  kept P keeps n table total (line ∷ lines) (more, adds, rest) p = kept P keeps (n + 1) more total lines rest (keeps n table more line adds p)

  -- the lines before the fault, the line, and why it has the fault
  record FailsFrom (n : ℕ) (table : T) (lines : List (List ℕ)) (found : Found F) : Type 0 where
    before : List (List ℕ)
    line : List ℕ
    later : List (List ℕ)
    parts : lines ≡ before ++ (line ∷ later)
    total : T
    fine : AreAdded kind n table before total
    wrong : Wrong F
    within : IsWithin line wrong
    fails : kind.Fails total line wrong
    is : found ≡ found_at (n + length before) line wrong

  module _ (added : ℕ → T → List ℕ → Result T (Wrong F)) (agrees : Agrees kind added) where
    ok_is : (x y : T) → ◌≡◌ {A = Meaning T F} (Ok x) (Ok y) → x ≡ y
    ok_is x y e = cc

    err_is : (d f : Found F) → ◌≡◌ {A = Meaning T F} (Err d) (Err f) → d ≡ f
    err_is d f e = cc

    -- ---- the lines

    lines_take : (n : ℕ) (table total : T) (lines : List (List ℕ)) → lines_from added n table lines ≡ Ok total → AreAdded kind n table lines total
    unfolding lines_from
    lines_take n table total [] e = sym (ok_is table total e)
    lines_take n table total (line ∷ lines) e = by_line (added n table line) refl e (λ more. lines_take (n + 1) more total lines)
      where
        by_line : (r : Result T (Wrong F)) → added n table line ≡ r → (at_line n line r >>= λ more. lines_from added (n + 1) more lines) ≡ Ok total
            → ((more : T) → lines_from added (n + 1) more lines ≡ Ok total → AreAdded kind (n + 1) more lines total) → AreAdded kind n table (line ∷ lines) total
        by_line (Ok more) is e rest = (more, agrees.takes n table more line is, rest more e)
        by_line (Err f) is e rest = absurd cc

    lines_again : (n : ℕ) (table total : T) (lines : List (List ℕ)) → AreAdded kind n table lines total → lines_from added n table lines ≡ Ok total
    unfolding lines_from
    lines_again n table total [] none = ap (λ (t : T). Ok t) (sym none)
    lines_again n table total (line ∷ lines) (more, adds, rest) = rw (agrees.again n table more line adds) (lines_again (n + 1) more total lines rest)

    lines_fail : (n : ℕ) (table : T) (lines : List (List ℕ)) (found : Found F) → lines_from added n table lines ≡ Err found → FailsFrom n table lines found
    unfolding lines_from
    lines_fail n table [] found e = absurd cc
    lines_fail n table (line ∷ lines) found e = by_line (added n table line) refl e (λ more. lines_fail (n + 1) more lines found)
      where
        by_line : (r : Result T (Wrong F)) → added n table line ≡ r → (at_line n line r >>= λ more. lines_from added (n + 1) more lines) ≡ Err found
            → ((more : T) → lines_from added (n + 1) more lines ≡ Err found → FailsFrom (n + 1) more lines found) → FailsFrom n table (line ∷ lines) found
        by_line (Err wrong) is e rest =
            let same : n ≡ n + 0 = omega arith in
            record {
              before = [];
              line = line;
              later = lines;
              parts = refl;
              total = table;
              fine = refl;
              wrong = wrong;
              within = agrees.within n table line wrong is;
              fails = agrees.fails n table line wrong is;
              is = sym (err_is (found_at n line wrong) found e) ∙ ap (λ k. found_at k line wrong) same;
            }
        by_line (Ok more) is e rest =
            let s = rest more e in
            let place : n + 1 + length s.before ≡ n + length (line ∷ s.before) = omega arith in
            record {
              before = line ∷ s.before;
              line = s.line;
              later = s.later;
              parts = ap (λ (ls : List (List ℕ)). line ∷ ls) s.parts;
              total = s.total;
              fine = (more, agrees.takes n table more line is, s.fine);
              wrong = s.wrong;
              within = s.within;
              fails = s.fails;
              is = s.is ∙ ap (λ k. found_at k s.line s.wrong) place;
            }

    lines_stop : (n m : ℕ) (table total : T) (before : List (List ℕ)) (line : List ℕ) (later : List (List ℕ)) (wrong : Wrong F) → AreAdded kind n table before total → m ≡ n + length before → kind.Fails total line wrong
        → lines_from added n table (before ++ (line ∷ later)) ≡ Err (found_at m line wrong)
    unfolding lines_from
    lines_stop n m table total [] line later wrong none place fails =
        let here : added n table line ≡ Err wrong = agrees.fails_again n table line wrong (subst (λ (t : T). kind.Fails t line wrong) none fails) in
        let same : n ≡ m = omega (arith, place) in
        rw here (ap (λ (k : ℕ). Err (found_at k line wrong)) same)
    lines_stop n m table total (l ∷ before) line later wrong (more, adds, rest) place fails =
        rw (agrees.again n table more l adds) (lines_stop (n + 1) m more total before line later wrong rest (omega (arith, place)) fails)

    -- ---- the whole text

    pub table_takes : (text : List ℕ) (table : T) → table_of added kind.empty kind.too_long text ≡ Ok table → IsTable kind text table
    unfolding table_of
    table_takes text table e = by_length (nat_lt MAX_TABLE (length text)) refl e
      where
        by_length : (t : Bool) → nat_lt MAX_TABLE (length text) ≡ t → cond t (Err (nowhere kind.too_long)) (lines_from added 1 kind.empty (lines_of text)) ≡ Ok table → IsTable kind text table
        by_length true is e = absurd cc
        by_length false is e = record { short = ltb-false MAX_TABLE (length text) is; lines = lines_take 1 kind.empty table (lines_of text) e }

    table_fails : (text : List ℕ) (found : Found F) → table_of added kind.empty kind.too_long text ≡ Err found → IsFault kind text found
    unfolding table_of
    table_fails text found e = by_length (nat_lt MAX_TABLE (length text)) refl e
      where
        by_length : (t : Bool) → nat_lt MAX_TABLE (length text) ≡ t → cond t (Err (nowhere kind.too_long)) (lines_from added 1 kind.empty (lines_of text)) ≡ Err found → IsFault kind text found
        by_length true is e = inl (ltb-true MAX_TABLE (length text) is, sym (err_is (nowhere kind.too_long) found e))
        by_length false is e =
            let s = lines_fail 1 kind.empty (lines_of text) found e in
            let p = parts_of s.line s.wrong s.within in
            let fault : s.wrong.fault ≡ found.fault = sym (ap (λ (f : Found F). f.fault) s.is) in
            let placed : ◌≡◌ {A = Wrong F} s.wrong (record { fault = found.fault; left = length (p.text ++ p.behind); length = length p.text }) =
            ap (λ (f : F). record { fault = f; left = s.wrong.left; length = s.wrong.length }) fault
            ∙ ap (λ k. record { fault = found.fault; left = k; length = s.wrong.length }) p.left ∙ ap (λ k. record { fault = found.fault; left = length (p.text ++ p.behind); length = k }) p.size
            in
            inr (record {
              short = ltb-false MAX_TABLE (length text) is;
              before = s.before;
              line = s.line;
              later = s.later;
              parts = s.parts;
              number = omega (arith, ap (λ (f : Found F). f.line) s.is);
              table = s.total;
              fine = s.fine;
              front = p.front;
              wrong = p.text;
              behind = p.behind;
              line_parts = p.whole;
              column = ap (λ (f : Found F). f.column) s.is ∙ p.column;
              size = ap (λ (f : Found F). f.size) s.is ∙ p.size;
              fails = subst (kind.Fails s.total s.line) placed s.fails;
            })

    -- the text has no other meaning than the one that is read
    pub meant : (text : List ℕ) (m : Meaning T F) → Means kind text m → table_of added kind.empty kind.too_long text ≡ m
    unfolding table_of
    meant text (Ok table) is = rw (le-ltb MAX_TABLE (length text) is.short) (lines_again 1 kind.empty table (lines_of text) is.lines)
    meant text (Err found) (inl (long, is)) = rw (lt-ltb MAX_TABLE (length text) long) (ap (λ (f : Found F). Err f) (sym is))
    meant text (Err found) (inr first) =
        let wrong : Wrong F = record { fault = found.fault; left = length (first.wrong ++ first.behind); length = length first.wrong } in
        let whole : length first.line ≡ length first.front + length (first.wrong ++ first.behind) = ap (length {A = ℕ}) first.line_parts ∙ length-append first.front (first.wrong ++ first.behind) in
        let column : length first.line - length (first.wrong ++ first.behind) + 1 ≡ found.column = omega (arith, whole, first.column) in
        let placed : found_at found.line first.line wrong ≡ found =
        ap (λ k. record { line = found.line; column = k; size = length first.wrong; fault = found.fault }) column
        ∙ ap (λ k. record { line = found.line; column = found.column; size = k; fault = found.fault }) (sym first.size)
        in
        rw (le-ltb MAX_TABLE (length text) first.short, first.parts)
        (lines_stop 1 found.line kind.empty first.table first.before first.line first.later wrong first.fine (omega (arith, first.number)) first.fails ∙ ap (λ (f : Found F). Err f) placed)

    -- ---- what a call answered

    pub answered : (text : List ℕ) (r : Result T (TableFault F)) → Denotes (λ t. t) (table_of added kind.empty kind.too_long text) r → IfOk r (IsTable kind text) × IfErr r (IsFaultOf kind text)
    answered text (Ok t) e = (table_takes text t e, tt)
    answered text (Err OutOfMemory) e = (tt, tt)
    answered text (Err (At line column size fault)) e = (tt, table_fails text (record { line = line; column = column; size = size; fault = fault }) e)

-- ---- the order of the lines

-- numbers rise, and are below n
pub record Rises {X : Type 0} (number : X → ℕ) (n : ℕ) (xs : List X) : Type 0 where
  pub rising : AllPairs (λ x y. number x < number y) xs
  pub below : All (λ x. number x < n) xs

module _ {X : Type 0} (number : X → ℕ) where
  pub rises_nothing : (n : ℕ) → Rises number n []
  rises_nothing n = record { rising = λ i j d low high. absurd (omega (arith, high)); below = All-nil (λ x. number x < n) }

  pub rises_on : (n : ℕ) (xs : List X) → Rises number n xs → Rises number (n + 1) xs
  rises_on n xs rises = record { rising = rises.rising; below = All-weaker (λ x. number x < n) (λ x. number x < n + 1) (λ x low. omega (arith, low)) xs rises.below }

  pub rises_push : (n : ℕ) (xs : List X) (y : X) → number y ≡ n → Rises number n xs → Rises number (n + 1) (xs ++ y ∷ [])
  rises_push n xs y is rises =
      record {
        rising = all_pairs_push (λ x z. number x < number z) xs y rises.rising (λ k d low. subst (λ m. number (get_or xs k d) < m) (sym is) (rises.below k d low));
        below = All-push (λ x. number x < n + 1) xs y (rises_on n xs rises).below (omega (arith, is));
      }
