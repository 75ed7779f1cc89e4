use Rattle.std.proofs.Common.{◌≡◌, ℕ, zero, suc, ◌+◌, ◌-◌, ◌<◌, ◌≤◌, List, [], ◌∷◌, fold, drop, take, length, get_or, refl, sym, ap, ◌∙◌, arith, inl, inr}
use Rattle.std.specs.List.Sorted.{IsNonDecreasingBy}
use Rattle.std.proofs.lemmas.Bool.{cases_lt, le-leb}
use Rattle.std.proofs.lemmas.List.{drop_all, take-append-drop}
use Rattle.std.proofs.lemmas.List.Sums.{fold-append}
use Rattle.cs_wait.specs.declared.backlog.Piece.{Piece}
use Rattle.cs_wait.specs.Bounds.{IsBacklogFrom, at, decided}

pub later_decide_nothing : (minute least bound : ℕ) (ps : List Piece) → minute < least → IsBacklogFrom least ps → fold (decided minute) bound ps ≡ bound
later_decide_nothing minute least bound [] h k = refl
later_decide_nothing minute least bound (p ∷ ps) h k =
    let rest : fold (decided minute) bound ps ≡ bound = later_decide_nothing minute (p.minute + 1) bound ps (omega (arith, h, k.0)) k.4 in
    grind (arith, rest, h, k.0)

first_is_later : (minute least bound : ℕ) (p : Piece) (ps : List Piece) → minute < p.minute → IsBacklogFrom least (p ∷ ps) → fold (decided minute) bound (p ∷ ps) ≡ bound
first_is_later minute least bound p ps h k = later_decide_nothing minute p.minute bound (p ∷ ps) h (omega arith, k.1, k.2, k.3, k.4)

pub rest_is_later : (minute least bound place : ℕ) (default : Piece) (ps : List Piece) → place < length ps → minute < (get_or ps place default).minute → IsBacklogFrom least (drop place ps) → fold (decided minute) bound (drop place ps) ≡ bound
rest_is_later minute least bound place default [] within h k = absurd (omega (arith, within))
rest_is_later minute least bound zero default (p ∷ ps) within h k = first_is_later minute least bound p ps h k
rest_is_later minute least bound (suc place) default (p ∷ ps) within h k = rest_is_later minute least bound place default ps (omega (arith, within)) h k

lowest : (least : ℕ) (ps : List Piece) → IsBacklogFrom least ps → (j : ℕ) (d : Piece) → j < length ps → least ≤ (get_or ps j d).minute
lowest least [] k j d lt = absurd (omega (arith, lt))
lowest least (p ∷ ps) k zero d lt = k.0
lowest least (p ∷ ps) k (suc j) d lt = omega (arith, k.0, lowest (p.minute + 1) ps k.4 j d (omega (arith, lt)))

pub rising : (least : ℕ) (ps : List Piece) → IsBacklogFrom least ps → IsNonDecreasingBy (λ p. p.minute) ps
rising least [] k i j d le lt = absurd (omega (arith, lt))
rising least (p ∷ ps) k zero zero d le lt = omega arith
rising least (p ∷ ps) k zero (suc j) d le lt = omega (arith, lowest (p.minute + 1) ps k.4 j d (omega (arith, lt)))
rising least (p ∷ ps) k (suc i) zero d le lt = absurd (omega (arith, le))
rising least (p ∷ ps) k (suc i) (suc j) d le lt = rising (p.minute + 1) ps k.4 i j d (omega (arith, le)) (omega (arith, lt))

dropped : (n least : ℕ) (ps : List Piece) → IsBacklogFrom least ps → (from : ℕ) × IsBacklogFrom from (drop n ps)
dropped zero least ps k = (least, k)
dropped (suc n) least [] k = (least, k)
dropped (suc n) least (p ∷ ps) k = dropped n (p.minute + 1) ps k.4

pub begun_decide : (minute n least : ℕ) (ps : List Piece) → IsBacklogFrom least ps → ((k : ℕ) (d : Piece) → n ≤ k → k < length ps → minute < (get_or ps k d).minute) → at (take n ps) minute ≡ at ps minute
begun_decide minute n least ps k later =
    let none : Piece = record { minute = 0; value = 0 } in
    let bound = at (take n ps) minute in
    let left = dropped n least ps k in
    let rest : fold (decided minute) bound (drop n ps) ≡ bound
    = elim (cases_lt n (length ps)) [
      | inl within ↦ rest_is_later minute left.0 bound n none ps within (later n none (omega arith) within) left.1
      | inr past ↦ ap (fold (decided minute) bound) (drop_all n ps past)
    ] in
    sym rest ∙ (sym (fold-append (decided minute) 0 (take n ps) (drop n ps)) ∙ ap (fold (decided minute) 0) (take-append-drop n ps))

pub last_decides : (minute bound : ℕ) (ps : List Piece) (i : ℕ) (d : Piece) → i + 1 ≡ length ps → (get_or ps i d).minute ≤ minute → fold (decided minute) bound ps ≡ (get_or ps i d).value - (minute - (get_or ps i d).minute)
last_decides minute bound [] i d long begun = absurd (omega (arith, long))
last_decides minute bound (p ∷ []) zero d long begun = rw (le-leb p.minute minute begun) refl
last_decides minute bound (p ∷ []) (suc i) d long begun = absurd (omega (arith, long))
last_decides minute bound (p ∷ q ∷ ps) zero d long begun = absurd (omega (arith, long))
last_decides minute bound (p ∷ q ∷ ps) (suc i) d long begun = last_decides minute (decided minute bound p) (q ∷ ps) i d (omega (arith, long)) begun

pub sooner : (least first : ℕ) (ps : List Piece) → least ≤ first → IsBacklogFrom first ps → IsBacklogFrom least ps
sooner least first [] le k = tt
sooner least first (p ∷ ps) le k = (omega (arith, le, k.0), k.1, k.2, k.3, k.4)
