-- Replies to a call that end it.
use Rattle.std.proofs.Common.{◌≡◌, ◌≢◌, ◌∙◌, [], Option, Some, None, IfSome, option_map, subst, sym}
use Rattle.std.proofs.lemmas.Option.{IfSome_then}
use Rattle.cs_args.specs.declared.request.Format.{Format}
use Rattle.cs_io.specs.Files.{Failed, Reads}
use Rattle.cs_files.specs.Response.{Ending}
use Rattle.cs_files.specs.Trouble.{IsHonest, IsHonestOf, Trouble, ends, trouble}
use Rattle.cs_files.specs.declared.fault.Fault.{Fault}
use Rattle.cs_files.proofs.TroubleLemmas.{honest_fault, some_is}
use Rattle.cs_findings.specs.Format.{IsIn, IsShownAs}
use Rattle.cs_findings.proofs.FormatLemmas.{same_status}
use Rattle.cronsafe.specs.Call.{IsFaultIn}
use Rattle.cs_ruling.specs.Answer.{EndsAs}
use Rattle.cs_ruling.specs.declared.answer.Answer.{Answer}
use Rattle.cs_ruling.specs.declared.answer.Answer.TheVariants.{Applies, Ends, Reloads, Runs, Stops, Tells}

-- what holds of each ending of one kind holds of an answer that ends so
pub ends_as : {P Q : Ending → Type 0} → ((ending : Ending) → P ending → Q ending) → (answer : Answer) → EndsAs P answer → EndsAs Q answer
ends_as leads (Ends ending) is = leads ending is
ends_as leads (Runs order) is = absurd is
ends_as leads (Stops words) is = absurd is
ends_as leads (Reloads stamps) is = absurd is
ends_as leads (Applies certificate stamps made) is = absurd is
ends_as leads (Tells words) is = absurd is

-- a fault that is answered so is answered so as text
pub as_text : (P : Ending → Type 0) (e : Fault) → IfSome (trouble e) (λ t. P (ends [] t)) → IfSome (trouble e) (λ t. (ending : Ending) → ending ≡ ends [] t → P ending)
as_text P e found = IfSome_then (trouble e) found (λ t is ending same. subst P (sym same) is)

-- and in a format
pub in_form : (format : Format) (P : Ending → Type 0) (e : Fault) → IfSome (trouble e) (λ t. P (ends [] t)) → IfSome (trouble e) (λ t. (ending : Ending) → IsShownAs format (ends [] t) ending → IsIn format P ending)
in_form format P e found = IfSome_then (trouble e) found (λ t is ending same. (ends [] t, is, same))

pub in_done : {P : Ending → Type 0} (format : Format) (ending : Ending) → ((plain : Ending) → P plain → plain.status ≢ 6) → IsIn format P ending → ending.status ≢ 6
in_done format ending done (plain, is, same) = λ six. done plain is (sym (same_status format plain ending same) ∙ six)

-- the answer to a fault in a format is that to which the fault leads
pub fault_leads : (format : Format) (e : Fault) (Q : Ending → Type 0) (r : Ending) → IfSome (trouble e) (λ t. (ending : Ending) → IsShownAs format (ends [] t) ending → Q ending) → IsFaultIn format e r → Q r
fault_leads format e Q r found (plain, is, same, other) = by_trouble (trouble e) found is
  where
    by_trouble : (o : Option Trouble) → IfSome o (λ t. (ending : Ending) → IsShownAs format (ends [] t) ending → Q ending) → option_map (ends []) o ≡ Some plain → Q r
    by_trouble None h some = absurd (cc)
    by_trouble (Some t) h some = h r (subst (λ (p : Ending). IsShownAs format p r) (sym (some_is (ends [] t) plain some)) same)

-- and it is honest where the fault is
pub fault_honest : (failed : Failed) (reads : Reads) (format : Format) (e : Fault) (r : Ending) → IsHonestOf failed reads e → IsFaultIn format e r → IsHonest failed reads r
fault_honest failed reads format e r honest (plain, is, same, other) = λ six.
    let device : plain.status ≡ 6 = sym (same_status format plain r same) ∙ six in
    let itself : r ≡ plain = other (λ three. absurd (cc)) in
    subst (IsHonest failed reads) (sym itself) (honest_fault failed reads [] e plain honest is) six
