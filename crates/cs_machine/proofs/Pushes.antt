-- Texts that grow piece by piece.
use Rattle.std.proofs.Common.{◌≡◌, ◌∙◌, ◌++◌, if◌then◌else◌, ℕ, List, Result, Ok, Err, ap, append_assoc}
use Rattle.std.specs.Result.{OnOk, is_ok}

pub longer : (t0 t1 t2 front a p : List ℕ) → t1 ≡ t0 ++ front → t2 ≡ t1 ++ a → a ≡ p → t2 ≡ t0 ++ (front ++ p)
longer t0 t1 t2 front a p so one is = one ∙ ap (λ (t : List ℕ). t ++ a) so ∙ append_assoc t0 front a ∙ ap (λ (t : List ℕ). t0 ++ (front ++ t)) is

pub on_ok_by : {T E : Type 0} (r : Result T E) (t1 t2 a all : List ℕ) → t2 ≡ (if is_ok r then t1 ++ a else t1) → (t2 ≡ t1 ++ a → t2 ≡ all) → OnOk r (t2 ≡ all)
on_ok_by (Ok x) t1 t2 a all one so = so one
on_ok_by (Err e) t1 t2 a all one so = tt
