use Rattle.std.proofs.Common.{rules, ◌≡◌, ◌<◌, ◌+◌, ◌∙◌, List, None, Some, arith, inl, inr, refl, subst, sym}
use Rattle.cs_table.specs.Setting.{SettingLine}
use Rattle.cs_table.proofs.Results.{empty_is}
use Rattle.cs_owner.specs.Owners.{noted}
use Rattle.cs_owner.proofs.Notes.{AreSoFar, at_end, at_first, is_above, with_note, without_note}
use Rattle.cs_owner.proofs.owners.settings_above.Goals as goal
use Rattle.cs_owner.proofs.owners.settings_above.Goals.{in-Some+in_ok-setting+in-Some-2+in_ok-push, in_default, then-loop-rest-test+else-number-line, else-loop-rest-test}

pub loop-rest-init : goal.loop-rest-init
loop-rest-init c =
    subst (λ (l : List SettingLine). AreSoFar c.args.line c.args.table.now c.args.text.now 1 c.args.text.now l) (sym c.new-settings.ensures)
    (at_first c.args.line c.args.table.now c.args.text.now)

pub returns-in_default-2-clause-unfit : goal.returns-in_default-2-clause-unfit
returns-in_default-2-clause-unfit c =
    let some : Some c.in-Some.note.now ≡ noted c.args.table.now c.first_line.result.0.now = search rules in
    let above : c.loop-rest.number < c.args.line = omega arith in
    let unfit = rw c.in_default-2.is at c.in_ok-setting.ensures in
    inr (
      c.loop-rest.number,
      refl,
      (
        c.in-Some.note.now,
        is_above c.args.line c.args.table.now c.args.text.now c.loop-rest.number c.loop-rest.rest.now c.loop-rest.settings c.loop-rest.invariant c.first_line.result.0.now c.first_line.result.1.now above c.first_line.ensures.line c.in-Some.note.now some,
        unfit,
      ),
    )

pub loop-rest-preserved : goal.loop-rest-preserved
loop-rest-preserved c =
    let above : c.loop-rest.number < c.args.line = omega arith in
    elim c.match-noted.branch [
      | in-Some+in_ok-setting+in-Some-2+in_ok-push w ↦
          let some : Some w.in-Some.note.now ≡ noted c.args.table.now c.first_line.result.0.now = search rules in
          let is = rw w.in-Some-2.is at w.in_ok-setting.ensures in
          subst (λ (l : List SettingLine). AreSoFar c.args.line c.args.table.now c.args.text.now (c.loop-rest.number + 1) c.first_line.result.1.now l)
          (sym (w.settings-is ∙ w.in_ok-push.ensures.ok))
          (with_note c.args.line c.args.table.now c.args.text.now c.loop-rest.number c.loop-rest.rest.now c.loop-rest.settings c.loop-rest.invariant c.first_line.result.0.now c.first_line.result.1.now above c.first_line.ensures.line w.in-Some.note.now some w.in-Some-2.setting is)
      | in_default w ↦
          let none : None ≡ noted c.args.table.now c.first_line.result.0.now = search rules in
          subst (λ (l : List SettingLine). AreSoFar c.args.line c.args.table.now c.args.text.now (c.loop-rest.number + 1) c.first_line.result.1.now l)
          (sym w.settings-is)
          (without_note c.args.line c.args.table.now c.args.text.now c.loop-rest.number c.loop-rest.rest.now c.loop-rest.settings c.loop-rest.invariant c.first_line.result.0.now c.first_line.result.1.now above c.first_line.ensures.line none)
    ]

pub returns-clause-settings : goal.returns-clause-settings
returns-clause-settings c =
    at_end c.args.line c.args.table.now c.args.text.now c.loop-rest.number c.loop-rest.rest.now c.loop-rest.settings c.loop-rest.invariant
    (elim c.loop-rest-test.branch [
      | then-loop-rest-test+else-number-line w ↦ inr (omega arith)
      | else-loop-rest-test w ↦ inl (empty_is c.loop-rest.rest.now (sym c.is_empty.ensures ∙ w.loop-rest-test.false))
    ])
