use Rattle.std.proofs.Common.{◌≡◌, ◌≢◌, ℕ, zero, suc, ◌+◌, ◌-◌, ◌<◌, ◌≤◌, ◌==◌, ◌++◌, Bool, true, false, List, [], ◌∷◌, drop, drop-cons, fold, get_or, length, min, refl, sym, ap, ◌∙◌, arith, add-one, append_assoc, if◌then◌else◌}
use Rattle.std.proofs.lemmas.Bool.{le-leb, eqb-true, eq-eqb, ne_eqb, both_ways}
use Rattle.cs_wait.specs.declared.backlog.Piece.{Piece}
use Rattle.cs_wait.specs.declared.backlog.TheConstants.{MAX_BACKLOG}
use Rattle.cs_wait.specs.Bounds.{IsBacklog, IsBacklogFrom, at, decided, following, following_from}
use Rattle.cs_wait.proofs.Pieces.{later_decide_nothing, sooner}

abbrev pub after : ℕ → ℕ → ℕ
after bound arrives = min MAX_BACKLOG (bound + arrives - 1)

-- the bound so many minutes later
abbrev pub bound_later : ℕ → List ℕ → ℕ → ℕ
bound_later bound [] n = bound
bound_later bound (a ∷ more) zero = bound
bound_later bound (a ∷ more) (suc n) = bound_later (after bound a) more n

with_one : (same : Bool) (minute bound shown : ℕ) (rest : List Piece) → (bound == shown) ≡ same → minute < 1440 → bound ≤ MAX_BACKLOG → shown ≤ bound → IsBacklogFrom (minute + 1) rest → IsBacklogFrom minute (if same then rest else record { minute = minute; value = bound } ∷ rest)
with_one true minute bound shown rest e lt small over k = sooner minute (minute + 1) rest (omega arith) k
with_one false minute bound shown rest e lt small over k =
    let other : bound ≢ shown = λ same. absurd (both_ways (bound == shown) e (eq-eqb bound shown same)) in
    (omega arith, lt, omega (arith, other, over), small, k)

backlog_from : (minute bound shown : ℕ) (arrivals : List ℕ) → minute + length arrivals ≤ 1440 → bound ≤ MAX_BACKLOG → shown ≤ bound → IsBacklogFrom minute (following_from minute bound shown arrivals)
backlog_from minute bound shown [] fits small over = tt
backlog_from minute bound shown (a ∷ more) fits small over =
    with_one (bound == shown) minute bound shown (following_from (minute + 1) (after bound a) (bound - 1) more) refl (omega (arith, fits)) small over (backlog_from (minute + 1) (after bound a) (bound - 1) more (omega (arith, fits)) (omega arith) (omega (arith, small)))

pub following_is_backlog : (first : ℕ) (arrivals : List ℕ) → length arrivals ≤ 1440 → first ≤ MAX_BACKLOG → IsBacklog (following first arrivals)
unfolding following
following_is_backlog first arrivals fits small = backlog_from 0 first 0 arrivals (omega (arith, fits)) small (omega arith)

begins_with : (same : Bool) (minute bound shown made : ℕ) (rest : List Piece) → (bound == shown) ≡ same → made ≡ shown → IsBacklogFrom (minute + 1) rest → fold (decided minute) made (if same then rest else record { minute = minute; value = bound } ∷ rest) ≡ bound
begins_with true minute bound shown made rest e is k = later_decide_nothing minute (minute + 1) made rest (omega arith) k ∙ (is ∙ sym (eqb-true bound shown e))
begins_with false minute bound shown made rest e is k =
    let here : decided minute made (record { minute = minute; value = bound }) ≡ bound = rw (le-leb minute minute (omega arith)) (omega arith) in
    later_decide_nothing minute (minute + 1) (decided minute made (record { minute = minute; value = bound })) rest (omega arith) k ∙ here

goes_on : (same : Bool) (minute bound shown made t : ℕ) (rest : List Piece) → (bound == shown) ≡ same → minute + 1 ≤ t → made ≡ shown - (t - minute) → fold (decided t) made (if same then rest else record { minute = minute; value = bound } ∷ rest) ≡ fold (decided t) (bound - 1 - (t - (minute + 1))) rest
goes_on true minute bound shown made t rest e le is = let f : bound ≡ shown = eqb-true bound shown e in ap (λ (b : ℕ). fold (decided t) b rest) (omega (arith, is, f, le))
goes_on false minute bound shown made t rest e le is =
    let here : decided t made (record { minute = minute; value = bound }) ≡ bound - 1 - (t - (minute + 1)) = rw (le-leb minute t (omega arith)) (omega (arith, le)) in
    ap (λ (b : ℕ). fold (decided t) b rest) here

at_from : (arrivals : List ℕ) (minute bound shown made n : ℕ) → minute + length arrivals ≤ 1440 → n < length arrivals → bound ≤ MAX_BACKLOG → shown ≤ bound → made ≡ shown - n → fold (decided (minute + n)) made (following_from minute bound shown arrivals) ≡ bound_later bound arrivals n
at_from [] minute bound shown made n fits within small over is = absurd (omega (arith, within))
at_from (a ∷ more) minute bound shown made zero fits within small over is =
    let rest = following_from (minute + 1) (after bound a) (bound - 1) more in
    let k = backlog_from (minute + 1) (after bound a) (bound - 1) more (omega (arith, fits)) (omega arith) (omega (arith, small)) in
    let now : minute + 0 ≡ minute = omega arith in
    ap (λ (t : ℕ). fold (decided t) made (following_from minute bound shown (a ∷ more))) now ∙ begins_with (bound == shown) minute bound shown made rest refl (omega (arith, is)) k
at_from (a ∷ more) minute bound shown made (suc n) fits within small over is =
    let rest = following_from (minute + 1) (after bound a) (bound - 1) more in
    let left = bound - 1 - n in
    let later = at_from more (minute + 1) (after bound a) (bound - 1) left n (omega (arith, fits)) (omega (arith, within)) (omega arith) (omega (arith, small)) refl in
    let now : minute + suc n ≡ (minute + 1) + n = omega arith in
    let made_now : made ≡ shown - (((minute + 1) + n) - minute) = omega (arith, is) in
    let left_now : bound - 1 - (((minute + 1) + n) - (minute + 1)) ≡ left = omega arith in
    ap (λ (t : ℕ). fold (decided t) made (following_from minute bound shown (a ∷ more))) now
    ∙ (goes_on (bound == shown) minute bound shown made ((minute + 1) + n) rest refl (omega arith) made_now
    ∙ (ap (λ (b : ℕ). fold (decided ((minute + 1) + n)) b rest) left_now ∙ later))

at_following : (first : ℕ) (arrivals : List ℕ) (n : ℕ) → length arrivals ≤ 1440 → n < length arrivals → first ≤ MAX_BACKLOG → at (following first arrivals) n ≡ bound_later first arrivals n
unfolding following
at_following first arrivals n fits within small =
    let here : 0 + n ≡ n = omega arith in
    sym (ap (λ (t : ℕ). fold (decided t) 0 (following_from 0 first 0 arrivals)) here) ∙ at_from arrivals 0 first 0 0 n (omega (arith, fits)) within small (omega arith) (omega arith)

later_by_one : (bound : ℕ) (arrivals : List ℕ) (n : ℕ) → n + 1 < length arrivals → bound_later bound arrivals (n + 1) ≡ after (bound_later bound arrivals n) (get_or arrivals n 0)
later_by_one bound arrivals n within = rw add-one (by_one bound arrivals n within)
  where
    by_one : (bound : ℕ) (arrivals : List ℕ) (n : ℕ) → n + 1 < length arrivals → bound_later bound arrivals (suc n) ≡ after (bound_later bound arrivals n) (get_or arrivals n 0)
    by_one bound [] n within = absurd (omega (arith, within))
    by_one bound (a ∷ []) n within = absurd (omega (arith, within))
    by_one bound (a ∷ b ∷ more) zero within = refl
    by_one bound (a ∷ b ∷ more) (suc n) within = by_one (after bound a) (b ∷ more) n (omega (arith, within))

pub following_begins : (first : ℕ) (arrivals : List ℕ) → length arrivals ≡ 1440 → first ≤ MAX_BACKLOG → at (following first arrivals) 0 ≡ first
following_begins first [] long small = absurd (omega (arith, long))
following_begins first (a ∷ more) long small = at_following first (a ∷ more) 0 (omega (arith, long)) (omega (arith, long)) small

-- a minute later it is what a minute has and what arrives, less one, as far as a piece goes
pub following_follows : (first : ℕ) (arrivals : List ℕ) (t : ℕ) → length arrivals ≡ 1440 → first ≤ MAX_BACKLOG → t + 1 < 1440 → at (following first arrivals) (t + 1) ≡ min MAX_BACKLOG (at (following first arrivals) t + get_or arrivals t 0 - 1)
following_follows first arrivals t long small lt =
    at_following first arrivals (t + 1) (omega (arith, long)) (omega (arith, long, lt)) small
    ∙ (later_by_one first arrivals t (omega (arith, long, lt))
    ∙ sym (ap (λ (b : ℕ). after b (get_or arrivals t 0)) (at_following first arrivals t (omega (arith, long)) (omega (arith, long, lt)) small)))

-- a shown bound moves on by a minute
one_on : (minute bound a : ℕ) (more : List ℕ) → following_from minute bound bound (a ∷ more) ≡ following_from (minute + 1) (after bound a) (bound - 1) more
one_on minute bound a more = rw (eq-eqb bound bound refl) refl

-- it falls over so many minutes without arrivals
falls : (n minute bound : ℕ) (sums : List ℕ) → minute + n ≤ length sums → bound ≤ MAX_BACKLOG → ((t : ℕ) → minute ≤ t → t < minute + n → get_or sums t 0 ≡ 0)
    → following_from minute bound bound (drop minute sums) ≡ following_from (minute + n) (bound - n) (bound - n) (drop (minute + n) sums)
falls zero minute bound sums fits small quiet =
    let m : minute ≡ minute + 0 = omega arith in
    let b : bound ≡ bound - 0 = omega arith in
    ap (λ (k : ℕ). following_from k bound bound (drop k sums)) m ∙ ap (λ (k : ℕ). following_from (minute + 0) k k (drop (minute + 0) sums)) b
falls (suc n) minute bound sums fits small quiet =
    let a = get_or sums minute 0 in
    let next : suc minute ≡ minute + 1 = omega arith in
    let fallen : after bound a ≡ bound - 1 = omega (arith, small, quiet minute (omega arith) (omega arith)) in
    let end : (minute + 1) + n ≡ minute + suc n = omega arith in
    let left : (bound - 1) - n ≡ bound - suc n = omega arith in
    ap (following_from minute bound bound) (drop-cons sums minute 0 (omega (arith, fits)))
    ∙ (one_on minute bound a (drop (suc minute) sums)
    ∙ (ap (λ (b : ℕ). following_from (minute + 1) b (bound - 1) (drop (suc minute) sums)) fallen
    ∙ (ap (λ (k : ℕ). following_from (minute + 1) (bound - 1) (bound - 1) (drop k sums)) next
    ∙ (falls n (minute + 1) (bound - 1) sums (omega (arith, fits)) (omega (arith, small)) (λ t le lt. quiet t (omega (arith, le)) (omega (arith, lt)))
    ∙ (ap (λ (k : ℕ). following_from k ((bound - 1) - n) ((bound - 1) - n) (drop k sums)) end
    ∙ ap (λ (k : ℕ). following_from (minute + suc n) k k (drop (minute + suc n) sums)) left)))))

-- to the next minute with arrivals, and over it
pub turns : (minute step bound : ℕ) (sums : List ℕ) → minute ≤ step → step < length sums → bound ≤ MAX_BACKLOG → ((t : ℕ) → minute ≤ t → t < step → get_or sums t 0 ≡ 0)
    → following_from minute bound bound (drop minute sums) ≡ following_from (step + 1) (after (bound - (step - minute)) (get_or sums step 0)) (bound - (step - minute) - 1) (drop (step + 1) sums)
turns minute step bound sums le lt small quiet =
    let n = step - minute in
    let a = get_or sums step 0 in
    let here : minute + n ≡ step = omega (arith, le) in
    let next : suc step ≡ step + 1 = omega arith in
    falls n minute bound sums (omega (arith, le, lt)) small (λ t from to. quiet t from (omega (arith, to, le)))
    ∙ (ap (λ (k : ℕ). following_from k (bound - n) (bound - n) (drop k sums)) here
    ∙ (ap (following_from step (bound - n) (bound - n)) (drop-cons sums step 0 lt)
    ∙ (one_on step (bound - n) a (drop (suc step) sums)
    ∙ ap (λ (k : ℕ). following_from (step + 1) (after (bound - n) a) (bound - n - 1) (drop k sums)) next)))

-- a piece shows another bound than the pieces so far
pub shows : (minute bound shown : ℕ) (sums : List ℕ) (items : List Piece) → minute < length sums → bound ≢ shown
    → items ++ following_from minute bound shown (drop minute sums) ≡ (items ++ record { minute = minute; value = bound } ∷ []) ++ following_from minute bound bound (drop minute sums)
shows minute bound shown sums items lt other =
    let piece : Piece = record { minute = minute; value = bound } in
    let a = get_or sums minute 0 in
    let more = drop (suc minute) sums in
    let whole = drop-cons sums minute 0 lt in
    let one : following_from minute bound shown (a ∷ more) ≡ piece ∷ following_from minute bound bound (a ∷ more) = rw (ne_eqb bound shown other, eq-eqb bound bound refl) refl in
    ap (λ (left : List ℕ). items ++ following_from minute bound shown left) whole
    ∙ (ap (λ (ps : List Piece). items ++ ps) one
    ∙ (sym (append_assoc items (piece ∷ []) (following_from minute bound bound (a ∷ more)))
    ∙ ap (λ (left : List ℕ). (items ++ piece ∷ []) ++ following_from minute bound bound left) (sym whole)))
