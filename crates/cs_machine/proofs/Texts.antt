-- UTF-8 as a test.
use Rattle.std.proofs.Common.{◌≡◌, ℕ, List, Result, Ok, Err, MatchResult, sym}
use Rattle.std.specs.Result.{is_ok}
use Rattle.std.specs.Str.{is_utf8, IsUtf8}
use Rattle.std.proofs.lemmas.Bool.{false_from_ne_true}
use Rattle.std.proofs.lemmas.Str.{is_utf8-from_IsUtf8, IsUtf8-from_is_utf8}

-- a reading that answers a text exactly where the bytes are UTF-8
pub utf8_ok : {X E : Type 0} (bs : List ℕ) (P : X → Type 0) (Q : E → Type 0) (r : Result X E) → MatchResult r (λ s. P s × IsUtf8 bs) (λ e. ¬ (IsUtf8 bs) × Q e) → is_ok r ≡ is_utf8 bs
utf8_ok bs P Q (Ok s) read = sym (is_utf8-from_IsUtf8 bs read.1)
utf8_ok bs P Q (Err e) read = sym (false_from_ne_true (is_utf8 bs) (λ u. read.0 (IsUtf8-from_is_utf8 bs u)))
