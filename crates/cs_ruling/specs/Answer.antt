-- What a call comes to: an answer that ends it, an order to run tables, or words to stop a daemon,
-- to have it read its files again, first with a new certificate, or to show its state.
use Rattle.std.specs.Prelude.{◌≡◌, ◌⊎◌, ◌++◌, ℕ, List, [], Option, Ok, Err, codes, decimal, ⊤}
use Rattle.cs_owner.specs.Owners.{AreOwnersOf, IsUnowned}
use Rattle.cs_owner.specs.declared.owners.Unowned.{Unowned}
use Rattle.cs_owner.specs.declared.owners.Unowned.TheVariants.{NoMemory, NoPlace, Unfit}
use Rattle.cs_report.specs.Warning.{plan_notes}
use Rattle.cs_check.specs.declared.checked.Checked.{Checked}
use Rattle.cs_check.specs.Checked.{plan_in}
use Rattle.cs_args.specs.Asked.{asked_run}
use Rattle.cs_args.specs.Asked.{AskedRun}
use Rattle.cs_io.specs.Files.{Failed}
use Rattle.cs_ruling.specs.Check.{FindsClaimed, IsVerdictOn}
use Rattle.cs_ruling.specs.Safe.{IsAccepted}
use Rattle.cs_ruling.specs.declared.check.Claimed.{Claimed}
use Rattle.cs_files.specs.Response.{Ending, complaint}
use Rattle.cs_files.specs.Trouble.{Trouble, ends}
use Rattle.cs_ruling.specs.declared.answer.Answer.{Answer}
use Rattle.cs_ruling.specs.declared.answer.Answer.TheVariants.{Applies, Ends, Reloads, Runs, Stops, Tells}
use Rattle.cs_ruling.specs.declared.answer.Order.{Order}

-- the call ends, and this holds of its ending
abbrev pub EndsAs : (Ending → Type 0) → Answer → Type 0
EndsAs P (Ends ending) = P ending
EndsAs P (Runs order) = ⊥
EndsAs P (Stops words) = ⊥
EndsAs P (Reloads stamps) = ⊥
EndsAs P (Applies certificate stamps made) = ⊥
EndsAs P (Tells words) = ⊥

-- where the call ends, this holds of its ending
abbrev pub IfEnds : (Ending → Type 0) → Answer → Type 0
IfEnds P (Ends ending) = P ending
IfEnds P (Runs order) = ⊤
IfEnds P (Stops words) = ⊤
IfEnds P (Reloads stamps) = ⊤
IfEnds P (Applies certificate stamps made) = ⊤
IfEnds P (Tells words) = ⊤

-- what is to be run is the plan and the certificate that were claimed, which the checker accepts,
-- as it was asked, with the text of the declarations, the digests of the files, and the owners of
-- the commands of a gathered crontab; `check` would answer `safe` and the same notes
pub record IsOrder (a : AskedRun) (x : Claimed) (order : Order) : Type 0 where
  pub accepted : IsAccepted x order.checked
  pub owners : AreOwnersOf x.planned.table x.planned.places (plan_in order.checked).crontab
      order.owners
  pub declarations : order.declarations ≡ x.planned.declarations
  pub words : asked_run order.words ≡ a
  pub digests : order.digests ≡ x.digests
  pub notes : order.warnings ≡ plan_notes (plan_in order.checked)

abbrev pub bad_crontab : List ℕ → Ending
bad_crontab fault = record { status = 3; out = []; err = complaint fault }

-- where a command's user isn't known, or a setting of its table can't be read
abbrev pub Refuses : Unowned → Ending → Type 0
Refuses (NoPlace number) ending = ending ≡ bad_crontab
    (codes "crontab: NoPlace: no comment names the user of line " ++ decimal number)
Refuses (Unfit number) ending = ending ≡ bad_crontab
    (codes "crontab: UnfitSetting: the comment has no whole setting, on line " ++ decimal number)
Refuses NoMemory ending = ⊥

-- `check` would answer `safe`, but a command of the crontab has no owner, which is reported
pub record IsOfNobody (x : Claimed) (ending : Ending) : Type 0 where
  pub checked : Checked
  pub accepted : IsAccepted x checked
  pub fault : Unowned
  pub unowned : IsUnowned x.planned.table x.planned.places (plan_in checked).crontab fault
  pub told : Refuses fault ending

-- what comes of a plan and the certificate that is claimed for it: what `check` answers where that
-- isn't `safe`, or that a command has no owner, else an order
abbrev pub IsRuled : AskedRun → Claimed → Answer → Type 0
IsRuled a x (Ends ending) = (IsVerdictOn x ending × (ending.status ≡ 1)) ⊎ IsOfNobody x ending
IsRuled a x (Runs order) = IsOrder a x order
IsRuled a x (Stops words) = ⊥
IsRuled a x (Reloads stamps) = ⊥
IsRuled a x (Applies certificate stamps made) = ⊥
IsRuled a x (Tells words) = ⊥

-- what comes of `run`: that, or the first fault of a file
abbrev pub AnswersRun : AskedRun → (List ℕ → Option (List ℕ)) → List ℕ → Failed → Failed → Answer
    → Type 0
AnswersRun a files w before failed answer =
    ((t : Trouble) × FindsClaimed files a.check w before failed (Err t)
    × EndsAs (λ ending. ending ≡ ends [] t) answer)
    ⊎ ((x : Claimed) × FindsClaimed files a.check w before failed (Ok x) × IsRuled a x answer)
