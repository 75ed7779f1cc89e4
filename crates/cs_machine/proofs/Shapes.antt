-- The shape of a moment, byte by byte.
use Rattle.std.proofs.Common.{◌≡◌, ◌∙◌, ℕ, ◌<◌, true, false, List, length, map, get_or, sym, ap, codes, arith}
use Rattle.std.proofs.lemmas.Bool.{false_from_ne_true}
use Rattle.std.proofs.lemmas.List.{ext_get_or, get_or-map, length-map}
use Rattle.std.proofs.lemmas.Slice.Eq.{bytes_eq-Decides}
use Rattle.cs_machine.specs.Output.{is_moment, zeroed}

abbrev pub shape : List ℕ
shape = codes "0000-00-00T00-00"

abbrev pub FitsAt : List ℕ → ℕ → Type 0
FitsAt text k = zeroed (get_or text k 0) ≡ get_or shape k 0

pub shaped : (text : List ℕ) → length text ≡ 16 → ((k : ℕ) → k < 16 → FitsAt text k) → is_moment text ≡ true
shaped text long fits =
    let zeros : length (map zeroed text) ≡ length text = length-map text zeroed in
    let same : (k : ℕ) → k < length (map zeroed text) → get_or (map zeroed text) k 0 ≡ get_or shape k 0 =
    λ k low. get_or-map zeroed text k 0 0 (omega (arith, low, zeros)) ∙ fits k (omega (arith, low, zeros, long)) in
    (bytes_eq-Decides (map zeroed text) shape).1 (ext_get_or 0 (map zeroed text) shape (zeros ∙ long) same)

pub unshaped : (text : List ℕ) (k : ℕ) → k < length text → ¬ (FitsAt text k) → is_moment text ≡ false
unshaped text k low other =
    false_from_ne_true (is_moment text) (λ is. other (sym (get_or-map zeroed text k 0 0 low) ∙ ap (λ t. get_or t k 0) ((bytes_eq-Decides (map zeroed text) shape).0 is)))
