use Rattle.std.proofs.Common.{◌≡◌, ◌∙◌, ℕ, List, ap, inl, inr, refl, subst}
use Rattle.cs_check.specs.Checked.{plan_in}
use Rattle.cs_crontab.specs.Crontab.{Table}
use Rattle.cs_owner.specs.Owners.{AreOwnersOf, IsUnowned}
use Rattle.cs_place.specs.declared.places.Place.{Place}
use Rattle.cs_plan.specs.Plan.{Declared}
use Rattle.cs_report.specs.Warning.{plan_notes}
use Rattle.cs_ruling.proofs.CheckLemmas.{accepted, refused}
use Rattle.cs_ruling.proofs.order.answer_by.Goals as goal

moved : (P : List ℕ → List Place → Table → Type 0) (text text' : List ℕ) (places places' : List Place) (table table' : Table)
    → text ≡ text' → places ≡ places' → table ≡ table' → P text places table → P text' places' table'
moved P text text' places places' table table' same_text same_places same_table is =
    subst (λ (t : Table). P text' places' t) same_table (subst (λ (ps : List Place). P text' ps table) same_places (subst (λ (t : List ℕ). P t places table) same_text is))

pub returns-in-Err : goal.returns-in-Err
returns-in-Err g c =
    let r = c.in_ok-ruled.ensures in
    inl (refused c.args.claimed c.in-Err.refused c.as_slice-listed.result.now c.in_ok-ruled.ruled c.as_slice-listed.ensures c.in-Err.is r.answer r.refused)

pub returns-in-Err-read_owners : goal.returns-in-Err-read_owners
returns-in-Err-read_owners g c =
    let r = c.in_ok-ruled.ensures in
    let same : c.crontab-crontab.result.now ≡ (plan_in c.in-Ok.checked).crontab = c.crontab-crontab.ensures.value ∙ ap (λ (d : Declared). d.crontab) c.plan.ensures in
    inr (record {
      checked = c.in-Ok.checked;
      accepted = accepted c.args.claimed c.in-Ok.checked c.as_slice-listed.result.now c.in_ok-ruled.ruled c.as_slice-listed.ensures c.in-Ok.is r.answer r.same r.safe;
      fault = c.in-Err-read_owners.fault;
      unowned = moved (λ text places table. IsUnowned text places table c.in-Err-read_owners.fault) c.as_slice-text.result.now c.args.claimed.planned.table c.as_slice-listed.result.now c.args.claimed.planned.places c.crontab-crontab.result.now (plan_in c.in-Ok.checked).crontab c.as_slice-text.ensures c.as_slice-listed.ensures same c.in-Err-read_owners.ensures.unowned;
      told = c.in_ok-refuse_unowned-in-Err-read_owners.ensures;
    })

pub returns : goal.returns
returns g c =
    let r = c.in_ok-ruled.ensures in
    let same : c.crontab-crontab.result.now ≡ (plan_in c.in-Ok.checked).crontab = c.crontab-crontab.ensures.value ∙ ap (λ (d : Declared). d.crontab) c.plan.ensures in
    record {
      accepted = accepted c.args.claimed c.in-Ok.checked c.as_slice-listed.result.now c.in_ok-ruled.ruled c.as_slice-listed.ensures c.in-Ok.is r.answer r.same r.safe;
      owners = moved (λ text places table. AreOwnersOf text places table c.in-Ok-read_owners.owners) c.as_slice-text.result.now c.args.claimed.planned.table c.as_slice-listed.result.now c.args.claimed.planned.places c.crontab-crontab.result.now (plan_in c.in-Ok.checked).crontab c.as_slice-text.ensures c.as_slice-listed.ensures same c.in-Ok-read_owners.ensures.owners;
      declarations = refl;
      words = refl;
      digests = refl;
      notes = c.in-Ok-plan_notes.ensures ∙ ap plan_notes c.plan-2.ensures;
    }
