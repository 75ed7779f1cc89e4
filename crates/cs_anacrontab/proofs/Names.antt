-- Which identifiers stood before, and jobs of different identifiers.
use Rattle.std.proofs.Common.{◌≡◌, ◌≢◌, ℕ, Bool, true, false, List, [], ◌∷◌, ◌++◌, length, get_or, sym, ap, ◌∙◌, arith}
use Rattle.std.specs.Prelude.{All, Contains}
use Rattle.std.specs.Str.{bytes_eq}
use Rattle.std.proofs.lemmas.Bool.{false_from_ne_true}
use Rattle.std.proofs.lemmas.List.{get_or_append_left, get_or_default, length-append}
use Rattle.std.proofs.Math.Seq.{get_or-append_seam}
use Rattle.std.proofs.lemmas.List.Folds.{list_any_none, Any-from_list_any, list_any-from_Any}
use Rattle.std.proofs.lemmas.List.Elements.{All-weaker}
use Rattle.std.proofs.lemmas.List.Quantifiers.{all_pairs_push}
use Rattle.std.proofs.lemmas.Slice.Eq.{bytes_eq-Decides}
use Rattle.cs_anacrontab.specs.Anacrontab.{JobLine, AreDistinct}
use Rattle.cs_anacrontab.specs.Table.{is_named}

abbrev has_name : List ℕ → JobLine → Bool
has_name identifier job = bytes_eq job.identifier identifier

abbrev Differ : JobLine → JobLine → Type 0
Differ x y = x.identifier ≢ y.identifier

pub named_takes : (identifier : List ℕ) (lines : List JobLine) → is_named identifier lines ≡ true → (before : JobLine) × Contains lines before × (before.identifier ≡ identifier)
named_takes identifier lines e =
    let found = Any-from_list_any (has_name identifier) lines e in
    (found.1, (found.0, found.2, found.3), (bytes_eq-Decides found.1.identifier identifier).0 found.4)

pub named_again : (identifier : List ℕ) (lines : List JobLine) (before : JobLine) → Contains lines before → before.identifier ≡ identifier → is_named identifier lines ≡ true
named_again identifier lines before held same =
    list_any-from_Any (has_name identifier) lines (held.0, before, held.1, held.2, (bytes_eq-Decides before.identifier identifier).1 same)

pub unnamed_again : (identifier : List ℕ) (lines : List JobLine) → All (λ before. before.identifier ≢ identifier) lines → is_named identifier lines ≡ false
unnamed_again identifier lines all =
    list_any_none (has_name identifier) lines
    (All-weaker (λ b. b.identifier ≢ identifier) (λ b. has_name identifier b ≡ false) (λ b differ. false_from_ne_true (has_name identifier b) (λ e. differ ((bytes_eq-Decides b.identifier identifier).0 e))) lines all)

pub unnamed_takes : (identifier : List ℕ) (lines : List JobLine) → is_named identifier lines ≡ false → All (λ before. before.identifier ≢ identifier) lines
unnamed_takes identifier lines e = λ k d below same.
    let held : Contains lines (get_or lines k d) = (k, below, get_or_default lines k (get_or lines k d) d below) in
    let t : is_named identifier lines ≡ true = named_again identifier lines (get_or lines k d) held same in
    cc

pub distinct_push : (lines : List JobLine) (job : JobLine) → AreDistinct lines → All (λ before. before.identifier ≢ job.identifier) lines → AreDistinct (lines ++ job ∷ [])
distinct_push lines job distinct all = all_pairs_push Differ lines job distinct (λ k d below. all k d below)
