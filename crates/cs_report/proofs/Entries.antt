-- Entries: the date and the name of a form that are read are its own, and what fails is none.
use Rattle.std.proofs.Common.{◌≡◌, inl, inr, ℕ, zero, suc, ◌+◌, ◌<◌, ◌≤◌, Bool, true, false, cond, nat_lt, List, Option, Some, None, Result, Ok, Err, refl, sym, ap, ◌∙◌, arith}
use Rattle.std.proofs.lemmas.Bool.{le-ltb, ltb-false}
use Rattle.std.proofs.lemmas.Slice.Eq.{bytes_eq-Decides}
use Rattle.std.specs.Str.{bytes_eq}
use Rattle.cs_civil.specs.Calendar.{first_minute, last_minute, last_day}
use Rattle.cs_civil.specs.Text.{minute_text, day_text}
use Rattle.cs_history.specs.Plan.{first_start}
use Rattle.cs_plan.specs.Plan.{Declared}
use Rattle.cs_report.specs.Dates.{written_below, from_on, minute_of, day_of}
use Rattle.cs_report.specs.Grammar.{Form, Start, Stamp, Minute, Up, Down, Begin, Got, Catch, EndLine, EndJob, IsMinute, IsDay, HasDate, HasName, Entry, entry, FormSays}
use Rattle.cs_report.specs.Faults.{FormFails}
use Rattle.cs_report.specs.Entries.{◌>>=◌, or_fault, date_of, name_of, entry_of}
use Rattle.cs_report.specs.declared.script_fault.ScriptFault.{ScriptFault}
use Rattle.cs_report.specs.declared.script_fault.ScriptFault.TheVariants.{BadDate, UnknownName}
use Rattle.cs_report.proofs.Named.{minute_written, day_written}

some_is : (x y : ℕ) → ◌≡◌ {A = Option ℕ} (Some x) (Some y) → x ≡ y
some_is x y e = cc

-- ---- dates

below_takes : (write : ℕ → List ℕ) (text : List ℕ) (n t : ℕ) → written_below write text n ≡ Some t → (t < n) × (write t ≡ text)
unfolding written_below
below_takes write text zero t e = absurd cc
below_takes write text (suc n) t e = by_test (bytes_eq (write n) text) refl (λ l. below_takes write text n t l) e
  where
    by_test : (b : Bool) → bytes_eq (write n) text ≡ b → (written_below write text n ≡ Some t → (t < n) × (write t ≡ text)) → cond b (Some n) (written_below write text n) ≡ Some t → (t < suc n) × (write t ≡ text)
    by_test true is further e =
        let same : n ≡ t = some_is n t e in
        (omega (arith, same), ap write (sym same) ∙ (bytes_eq-Decides (write n) text).0 is)
    by_test false is further e = let r = further e in (omega (arith, r.0), r.1)

from_takes : (low : ℕ) (o : Option ℕ) (t : ℕ) → from_on low o ≡ Some t → (low ≤ t) × (o ≡ Some t)
from_takes low None t e = absurd cc
from_takes low (Some n) t e = by_test (nat_lt n low) refl e
  where
    by_test : (b : Bool) → nat_lt n low ≡ b → cond b None (Some n) ≡ Some t → (low ≤ t) × (◌≡◌ {A = Option ℕ} (Some n) (Some t))
    by_test true is e = absurd cc
    by_test false is e = let same : n ≡ t = some_is n t e in (omega (arith, same, ltb-false n low is), e)

from_again : (low t : ℕ) → low ≤ t → from_on low (Some t) ≡ Some t
from_again low t ge = rw (le-ltb t low ge) refl

minute_takes : (text : List ℕ) (t : ℕ) → minute_of text ≡ Some t → IsMinute text t
unfolding minute_of
minute_takes text t e =
    let f = from_takes first_minute (written_below minute_text text (last_minute + 1)) t e in
    let b = below_takes minute_text text (last_minute + 1) t f.1 in
    (sym b.1, f.0, omega (arith, b.0))

day_takes : (text : List ℕ) (day : ℕ) → day_of text ≡ Some day → IsDay text day
unfolding day_of
day_takes text day e =
    let f = from_takes 1 (written_below day_text text (last_day + 1)) day e in
    let b = below_takes day_text text (last_day + 1) day f.1 in
    (sym b.1, f.0, omega (arith, b.0))

minute_again : (text : List ℕ) (t : ℕ) → IsMinute text t → minute_of text ≡ Some t
minute_again text t (is, ge, le) = minute_written t text ge le is

date_takes : (form : Form) (t : ℕ) → date_of form ≡ Some t → HasDate form t
date_takes (Start moment up) t e = let f = from_takes first_start (minute_of moment) t e in (minute_takes moment t f.1, f.0)
date_takes (Stamp identifier date) t e = day_takes date t e
date_takes (Minute moment) t e = minute_takes moment t e
date_takes (Up moment) t e = minute_takes moment t e
date_takes Down t e = tt
date_takes (Begin number) t e = tt
date_takes (Got number moment) t e = minute_takes moment t e
date_takes (Catch identifier) t e = tt
date_takes (EndLine number moment) t e = minute_takes moment t e
date_takes (EndJob identifier moment) t e = minute_takes moment t e

-- a date that the form has is read, or another with the same content
date_again : (form : Form) (t : ℕ) → HasDate form t → (s : ℕ) × (date_of form ≡ Some s) × ((j : ℕ) → entry form s j ≡ entry form t j)
date_again (Start moment up) t (is, ge) = (t, ap (from_on first_start) (minute_again moment t is) ∙ from_again first_start t ge, λ j. refl)
date_again (Stamp identifier date) t (is, ge, le) = (t, day_written t date ge le is, λ j. refl)
date_again (Minute moment) t is = (t, minute_again moment t is, λ j. refl)
date_again (Up moment) t is = (t, minute_again moment t is, λ j. refl)
date_again Down t is = (0, refl, λ j. refl)
date_again (Begin number) t is = (0, refl, λ j. refl)
date_again (Got number moment) t is = (t, minute_again moment t is, λ j. refl)
date_again (Catch identifier) t is = (0, refl, λ j. refl)
date_again (EndLine number moment) t is = (t, minute_again moment t is, λ j. refl)
date_again (EndJob identifier moment) t is = (t, minute_again moment t is, λ j. refl)

-- ---- names

name_takes : (d : Declared) (form : Form) (j : ℕ) → name_of d form ≡ Some j → HasName d form j
name_takes d (Start moment up) j e = tt
name_takes d (Stamp identifier date) j e = e
name_takes d (Minute moment) j e = tt
name_takes d (Up moment) j e = tt
name_takes d Down j e = tt
name_takes d (Begin number) j e = e
name_takes d (Got number moment) j e = e
name_takes d (Catch identifier) j e = e
name_takes d (EndLine number moment) j e = e
name_takes d (EndJob identifier moment) j e = e

name_again : (d : Declared) (form : Form) (j : ℕ) → HasName d form j → (k : ℕ) × (name_of d form ≡ Some k) × ((t : ℕ) → entry form t k ≡ entry form t j)
name_again d (Start moment up) j is = (0, refl, λ t. refl)
name_again d (Stamp identifier date) j is = (j, is, λ t. refl)
name_again d (Minute moment) j is = (0, refl, λ t. refl)
name_again d (Up moment) j is = (0, refl, λ t. refl)
name_again d Down j is = (0, refl, λ t. refl)
name_again d (Begin number) j is = (j, is, λ t. refl)
name_again d (Got number moment) j is = (j, is, λ t. refl)
name_again d (Catch identifier) j is = (j, is, λ t. refl)
name_again d (EndLine number moment) j is = (j, is, λ t. refl)
name_again d (EndJob identifier moment) j is = (j, is, λ t. refl)

-- ---- the content of a form

abbrev said : Entry → Result Entry ScriptFault
said x = Ok x

ok_is : (x y : Entry) → said x ≡ said y → x ≡ y
ok_is x y e = cc

err_is : (f g : ScriptFault) → ◌≡◌ {A = Result Entry ScriptFault} (Err f) (Err g) → f ≡ g
err_is f g e = cc

some_none : (t : ℕ) → ◌≡◌ {A = Option ℕ} (Some t) None → ⊥
some_none t e = cc

module _ (d : Declared) (form : Form) where
  abbrev read : Option ℕ → Option ℕ → Result Entry ScriptFault
  read date name = or_fault BadDate date >>= (λ t. or_fault UnknownName name >>= (λ j. Ok (entry form t j)))

  pub entry_takes : (x : Entry) → entry_of d form ≡ Ok x → FormSays d form x
  entry_takes x e = by_parts (date_of form) (name_of d form) refl refl e
    where
      by_parts : (o p : Option ℕ) → date_of form ≡ o → name_of d form ≡ p → read o p ≡ Ok x → FormSays d form x
      by_parts None p is named e = absurd cc
      by_parts (Some t) None is named e = absurd cc
      by_parts (Some t) (Some j) is named e = (t, j, date_takes form t is, name_takes d form j named, sym (ok_is (entry form t j) x e))

  pub entry_again : (x : Entry) → FormSays d form x → entry_of d form ≡ Ok x
  entry_again x (t, j, date, name, is) =
      let dated = date_again form t date in
      let named = name_again d form j name in
      rw (dated.1, named.1) (ap said (dated.2 named.0 ∙ named.2 t ∙ sym is))

  pub entry_fails : (fault : ScriptFault) → entry_of d form ≡ Err fault → FormFails d form fault
  entry_fails fault e = by_parts (date_of form) (name_of d form) refl refl e
    where
      by_parts : (o p : Option ℕ) → date_of form ≡ o → name_of d form ≡ p → read o p ≡ Err fault → FormFails d form fault
      by_parts None p is named e = inl (λ t date. some_none (date_again form t date).0 (sym (date_again form t date).1 ∙ is), sym (err_is BadDate fault e))
      by_parts (Some t) None is named e =
          inr ((t, date_takes form t is), λ j name. some_none (name_again d form j name).0 (sym (name_again d form j name).1 ∙ named), sym (err_is UnknownName fault e))
      by_parts (Some t) (Some j) is named e = absurd cc

  no_date : ((t : ℕ) → HasDate form t → ⊥) → date_of form ≡ None
  no_date none = by_date (date_of form) refl
    where
      by_date : (o : Option ℕ) → date_of form ≡ o → o ≡ None
      by_date None is = refl
      by_date (Some t) is = absurd (none t (date_takes form t is))

  no_name : ((j : ℕ) → HasName d form j → ⊥) → name_of d form ≡ None
  no_name none = by_name (name_of d form) refl
    where
      by_name : (o : Option ℕ) → name_of d form ≡ o → o ≡ None
      by_name None is = refl
      by_name (Some j) is = absurd (none j (name_takes d form j is))

  pub entry_fails_again : (fault : ScriptFault) → FormFails d form fault → entry_of d form ≡ Err fault
  entry_fails_again fault (inl (none, is)) = rw (no_date none, is) refl
  entry_fails_again fault (inr ((t, date), none, is)) = rw ((date_again form t date).1, no_name none, is) refl
