use Rattle.std.proofs.Common.{◌≡◌, ◌≢◌, ◌⊎◌, ◌∙◌, ◌++◌, ℕ, ℤ, Bool, true, false, List, [], None, Option, Some, Ok, IfSome, ap, append_assoc, inl, inr, option_map, refl, subst}
use Rattle.std.specs.Io.KnownBytes.{Appends}
use Rattle.cs_args.specs.Asked.{Text as Word}
use Rattle.cs_plan.specs.Plain.{is_possible_max}
use Rattle.cs_args.specs.Asked.{AskedDraft, Asking}
use Rattle.cs_args.specs.CommandLine.{Asks}
use Rattle.cs_args.specs.declared.request.Format.{Format}
use Rattle.cs_args.specs.declared.request.Format.TheVariants.{Github, Json, Sarif, Text}
use Rattle.cs_io.specs.Files.{Failed, Reads}
use Rattle.cs_files.specs.Ending.{Sink, Tries}
use Rattle.cs_files.specs.Response.{Ending}
use Rattle.cs_files.specs.Trouble.{IsHonest, IsHonestOf, Trouble, ends, trouble}
use Rattle.cs_files.specs.declared.fault.Fault.{Fault}
use Rattle.cs_files.proofs.AskedLemmas.{fault_answered}
use Rattle.cs_files.proofs.TroubleLemmas.{honest_fault}
use Rattle.cs_findings.specs.Format.{IsIn}
use Rattle.cs_findings.proofs.FormatLemmas.{in_leads}
use Rattle.cs_draft.specs.Answer.{AnswersDraft, FindsBy, FindsDraftable, PrintsDraft}
use Rattle.cs_draft.specs.declared.answer.Draftable.{Draftable}
use Rattle.cronsafe_aids.specs.Call.{AnswersDiff, IfReady, IsHonestFor, IsHonestOn}
use Rattle.cronsafe_aids.specs.declared.responding.Task.{Task}
use Rattle.cronsafe_aids.specs.declared.responding.Task.TheVariants.{Ready}

-- a draft whose files were read has a longest time that a job may declare
possible : (b : Bool) (a : AskedDraft) (files : List ℕ → Option (List ℕ)) (w : List ℕ) (before after : Failed) (x : Draftable) → FindsBy b a files w before after (Ok x) → b ≡ true
possible true a files w before after x found = refl
possible false a files w before after x (none, same, is) = absurd (cc)

pub drafted : (a : AskedDraft) (offset : ℤ) (zone : Option (List ℕ)) (files : List ℕ → Option (List ℕ)) (w : List ℕ) (before after : Failed) (x : Draftable) (r : Ending)
    → FindsDraftable a files w before after (Ok x) → (is_possible_max a.max ≡ true → PrintsDraft a.max offset zone x r) → AnswersDraft a offset zone files w before after r
drafted a offset rule files w before after x r found prints = inr (x, found, prints (possible (is_possible_max a.max) a files w before after x found))

-- an answer is honest if it was when its files were read, or if its status isn't that of a failed
-- device
pub honest_reply : (words : List Word) (a : Asking) (failed : Failed) (reads : Reads) (task : Task) (r : Ending) → Asks words a → IfReady (IsHonestFor a failed reads) task → (task ≡ Ready r) ⊎ (r.status ≢ 6) → IsHonestOn words failed reads r
honest_reply words a failed reads task r asks ready (inl is) = inl (a, asks, subst (IfReady (IsHonestFor a failed reads)) is ready)
honest_reply words a failed reads task r asks ready (inr other) = inr (λ six. absurd (other six))

-- the report of a fault is honest in each form
pub honest_in_form : (failed : Failed) (reads : Reads) (fault : Fault) (r : Ending) → IsHonestOf failed reads fault → (option_map (ends []) (trouble fault) ≡ Some r) ⊎ (r.status ≢ 6) → IsHonest failed reads r
honest_in_form failed reads fault r honest (inl said) = honest_fault failed reads [] fault r honest said
honest_in_form failed reads fault r honest (inr other) = λ six. absurd (other six)

-- and answers what the fault ends
pub fault_in_form : (P : Ending → Type 0) (form asked : Format) (fault : Fault) (r : Ending) → form ≡ asked → IfSome (trouble fault) (λ t. P (ends [] t)) → IsIn form (λ plain. option_map (ends []) (trouble fault) ≡ Some plain) r → IsIn asked P r
fault_in_form P form asked fault r same found is =
    subst (λ (f : Format). IsIn f P r) same (in_leads form r (λ plain said. fault_answered P [] fault plain refl found said) is)

-- an ending is itself in each form
pub in_each_form : (P : Ending → Type 0) (form : Format) (r : Ending) → P r → IsIn form P r
in_each_form P Text r is = (r, is, refl)
in_each_form P Json r is = (r, is, (r.out, refl))
in_each_form P Sarif r is = (r, is, (r.out, refl))
in_each_form P Github r is = (r, is, (r.out, refl))

appended_twice : (a b c : Option (List ℕ)) (v w : List ℕ) → Appends a b v → Appends b c w → Appends a c (v ++ w)
appended_twice None b c v w one other = tt
appended_twice (Some xs) None c v w one other = absurd one
appended_twice (Some xs) (Some ys) None v w one other = absurd other
appended_twice (Some xs) (Some ys) (Some zs) v w one other = other ∙ (ap (λ (l : List ℕ). l ++ w) one ∙ append_assoc xs v w)

-- two texts, one after the other
pub tries_twice : (v w : List ℕ) (a b c : Sink) → Tries v a b → Tries w b c → Tries (v ++ w) a c
tries_twice v w a b c one (inl failed) = inl failed
tries_twice v w a b c (inl failed) (inr wrote) = inl (wrote.fine ∙ failed)
tries_twice v w a b c (inr first) (inr last) = inr (record {
  appended = appended_twice a.contents b.contents c.contents v w first.appended last.appended;
  fine = last.fine ∙ first.fine;
})

-- a fault of a file ends `diff`
pub ended : (o : Option Trouble) → IfSome o (λ t. AnswersDiff (ends [] t))
ended None = tt
ended (Some t) = inl (t, refl)
