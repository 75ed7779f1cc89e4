-- What a read of made-up files leaves.
use Rattle.std.proofs.Common.{◌≡◌, ◌≢◌, ◌==◌, ◌∙◌, ℕ, ◌<◌, ◌≤◌, min, Bool, true, false, List, [], ◌++◌, Option, Some, None, IfSome, if◌then◌else◌, length, take, drop, refl, sym, ap, subst, arith}
use Rattle.std.specs.Str.{bytes_eq}
use Rattle.std.proofs.lemmas.Bool.{eq-eqb, false_from_ne_true, ne_eqb}
use Rattle.std.proofs.lemmas.List.{length-append, length-drop, length-take, take-append-drop}
use Rattle.std.proofs.lemmas.Slice.Eq.{bytes_eq-Decides}
use Rattle.std.proofs.Math.Seq.{take-append_seam}
use Rattle.cs_io.specs.Files.{IsNextOf}
use Rattle.tests_machine.specs.Shelf.{known_at}

known : (name bytes path : List ℕ) → path ≡ name → known_at name bytes path ≡ Some bytes
known name bytes path same = ap (λ (b : Bool). if b then Some bytes else None) ((bytes_eq-Decides path name).1 same)

unknown : (name bytes path : List ℕ) → path ≢ name → known_at name bytes path ≡ None
unknown name bytes path other = ap (λ (b : Bool). if b then Some bytes else None) (false_from_ne_true (bytes_eq path name) (λ e. other ((bytes_eq-Decides path name).0 e)))

all_read : (rest : List ℕ) → length rest ≡ 0 → rest ≡ []
all_read [] e = refl
all_read rest e = grind (arith, e)

pub next_of : (path name bytes rest new copied buf : List ℕ) (n : ℕ) → path ≡ name → n ≡ min (length rest) (length buf) → copied ≡ take n rest
    → new ≡ (if n == 0 then bytes else drop n rest) → IsNextOf path (known_at name bytes) (known_at name rest) (known_at name new) n (copied ++ drop n buf)
next_of path name bytes rest new copied buf n same most taken is = record {
  bytes = rw (known name rest path same) (
    drop n rest,
    sym (take-append-drop n rest) ∙ ap (λ xs. xs ++ drop n rest) (sym taken ∙ (sym (take-append_seam copied (drop n buf)) ∙ ap (λ (k : ℕ). take k (copied ++ drop n buf)) long)),
    λ some. known name new path same ∙ ap Some (is ∙ ap (λ (b : Bool). if b then bytes else drop n rest) (ne_eqb n 0 some)),
  );
  end = λ none room. rw (known name rest path same) (all_read rest (omega (arith, none, room, most, length-append copied (drop n buf), length-drop n buf, long)), known name new path same ∙ (ap Some (is ∙ ap (λ (b : Bool). if b then bytes else drop n rest) (eq-eqb n 0 none)) ∙ sym (known name bytes path same)));
  others = λ q other. let strange : q ≢ name = λ e. other (e ∙ sym same) in unknown name new q strange ∙ sym (unknown name rest q strange);
}
  where
    long : length copied ≡ n
    long = omega (arith, ap length taken, length-take n rest, most)
