-- Endings in a format.
use Rattle.std.proofs.Common.{◌≡◌, ap, refl}
use Rattle.cs_args.specs.declared.request.Format.{Format}
use Rattle.cs_args.specs.declared.request.Format.TheVariants.{Github, Json, Sarif, Text}
use Rattle.cs_files.specs.Response.{Ending}
use Rattle.cs_findings.specs.Format.{IsIn, IsShownAs}

-- what holds of each plain ending of one kind holds of such an ending in a format
pub in_leads : {P Q : Ending → Type 0} (format : Format) (ending : Ending) → ((plain : Ending) → P plain → Q plain) → IsIn format P ending → IsIn format Q ending
in_leads format ending leads (plain, is, same) = (plain, leads plain is, same)

-- a format leaves the status
pub same_status : (format : Format) (plain ending : Ending) → IsShownAs format plain ending → ending.status ≡ plain.status
same_status Text plain ending is = ap (λ (e : Ending). e.status) is
same_status Json plain ending (text, is) = ap (λ (e : Ending). e.status) is
same_status Sarif plain ending (text, is) = ap (λ (e : Ending). e.status) is
same_status Github plain ending (text, is) = ap (λ (e : Ending). e.status) is

-- an ending is itself as text, and of its own standard output in each other format
pub itself : (format : Format) (ending : Ending) → IsShownAs format ending ending
itself Text ending = refl
itself Json ending = (ending.out, refl)
itself Sarif ending = (ending.out, refl)
itself Github ending = (ending.out, refl)
