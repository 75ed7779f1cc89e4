-- Runs that may go on, minute by minute.
use Rattle.std.proofs.Common.{◌≡◌, ℕ, ◌+◌, ◌<◌, ◌≤◌, ⊎_elim, List, get_or, length, true, arith, sym, subst}
use Rattle.std.specs.Prelude.{Contains}
use Rattle.std.proofs.lemmas.List.Elements.{Contains-get_or}
use Rattle.std.proofs.lemmas.Bool.{cases_lt}
use Rattle.cs_machine.specs.Busy.{IsBusy, IsOver, is_due_at}
use Rattle.cs_machine.specs.declared.setup.JobNote.{JobNote}

pub over_none : (notes : List JobNote) (m : ℕ) → IsOver notes m 0
over_none notes m = λ some. absurd (omega (arith, some))

pub over_later : (notes : List JobNote) (m over : ℕ) → IsOver notes m over → IsOver notes (m + 1) over
over_later notes m over is = λ some.
    let w = is some in
    record { note = w.note; inside = w.inside; due = w.due; is_due = w.is_due; earlier = let e = w.earlier in omega (arith, e); lasts = w.lasts }

-- a run of the job at a place, due at the minute
pub over_with : (notes : List JobNote) (i m end : ℕ) (note : JobNote) → i < length notes → note ≡ get_or notes i note → is_due_at note m ≡ true → end ≤ m + note.max → IsOver notes (m + 1) end
over_with notes i m end note less is due within = λ some. record {
  note = note;
  inside = subst (Contains notes) (sym is) (Contains-get_or notes i note less);
  due = m;
  is_due = due;
  earlier = omega arith;
  lasts = within;
}

busy_at : (notes : List JobNote) (n over : ℕ) → IsOver notes (n + 1) over → n < over → IsBusy notes n
busy_at notes n over is more =
    let w = is (omega (arith, more)) in
    record {
      note = w.note;
      inside = w.inside;
      due = w.due;
      is_due = w.is_due;
      begun = let e = w.earlier in omega (arith, e);
      lasts = let e = w.lasts in omega (arith, e, more);
    }

pub busy_more : (notes : List JobNote) (from n over : ℕ) → ((t : ℕ) → from ≤ t → t < n → IsBusy notes t) → IsOver notes (n + 1) over → (from ≤ n → n < over)
    → (t : ℕ) → from ≤ t → t < n + 1 → IsBusy notes t
busy_more notes from n over so is more t low high =
    ⊎_elim (λ (less : t < n). so t low less) (λ (le : n ≤ t). last (omega (arith, le, high))) (cases_lt t n)
  where
    last : t ≡ n → IsBusy notes t
    last e = subst (IsBusy notes) (sym e) (busy_at notes n over is (more (omega (arith, low, e))))
