-- What the files of a call gave, and the answer.
use Rattle.std.proofs.Common.{◌≡◌, ◌≢◌, ◌∙◌, ap, append-nil, inl, inr, refl, sym, subst, ℕ, List, [], Option, Some, None, IfSome, Result, Err, option_map}
use Rattle.std.specs.Io.KnownBytes.{Appends}
use Rattle.std.proofs.lemmas.Option.{IfSome_then}
use Rattle.cs_io.specs.Files.{Failed}
use Rattle.cs_files.specs.Asked.{Answers}
use Rattle.cs_files.specs.Ending.{Sink, Tries}
use Rattle.cs_files.specs.Response.{Ending}
use Rattle.cs_files.specs.Trouble.{IsOfContent, Trouble, ends, trouble, trouble_status}
use Rattle.cs_files.specs.declared.fault.Fault.{Fault}
use Rattle.cs_files.proofs.TroubleLemmas.{some_is}

pub tries_nothing : (s : Sink) → Tries [] s s
tries_nothing s = inr (record { appended = keeps s.contents; fine = refl })
  where
    keeps : (o : Option (List ℕ)) → Appends o o []
    keeps None = tt
    keeps (Some xs) = sym (append-nil xs)

-- the first fault of a reading is answered
pub stopped : {X : Type 0} (Finds : Failed → Failed → Result X Trouble → Type 0) (Is : X → Ending → Type 0) (before after : Failed) (e : Fault)
    → IfSome (trouble e) (λ t. Finds before after (Err t)) → IfSome (trouble e) (λ t. Answers Finds Is before after (ends [] t))
stopped Finds Is before after e found = IfSome_then (trouble e) found (λ t is. inl (t, is, refl))

-- the answer to a fault
pub fault_answered : (P : Ending → Type 0) (w : List ℕ) (e : Fault) (r : Ending) → w ≡ [] → IfSome (trouble e) (λ t. P (ends [] t)) → option_map (ends w) (trouble e) ≡ Some r → P r
fault_answered P w e r empty found is = by_trouble (trouble e) found is
  where
    by_trouble : (o : Option Trouble) → IfSome o (λ t. P (ends [] t)) → option_map (ends w) o ≡ Some r → P r
    by_trouble None h same = absurd (cc)
    by_trouble (Some t) h same = subst P (some_is (ends [] t) r (subst (λ (v : List ℕ). Some (ends v t) ≡ Some r) empty same)) h

-- a fault of what was read is answered with another status than that of a failed device
pub content_done : (w : List ℕ) (e : Fault) (r : Ending) → IsOfContent e → option_map (ends w) (trouble e) ≡ Some r → r.status ≢ 6
content_done w e r other is = by_trouble (trouble e) other is
  where
    by_trouble : (o : Option Trouble) → IfSome o (λ t. trouble_status t ≢ 6) → option_map (ends w) o ≡ Some r → r.status ≢ 6
    by_trouble None h same = absurd (cc)
    by_trouble (Some t) h same = λ six. absurd (h (ap (λ (x : Ending). x.status) (some_is (ends w t) r same) ∙ six))
