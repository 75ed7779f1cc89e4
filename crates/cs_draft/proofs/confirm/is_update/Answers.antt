use Rattle.std.proofs.Common.{◌≡◌, None, Ok, Option, subst}
use Rattle.std.specs.Prelude.{IfSome}
use Rattle.cs_decl.specs.Faults.{first_fault}
use Rattle.cs_decl.specs.Join.{join_faults}
use Rattle.cs_decl.specs.Meaning.{declared_by}
use Rattle.cs_decl.specs.declared.entries.Entries.{Entries}
use Rattle.cs_draft.specs.Draft.{IsUpdate}
use Rattle.cs_draft.proofs.Joins.{fitting}
use Rattle.cs_draft.proofs.confirm.is_update.Goals as goal

pub returns-clause-update : goal.returns-clause-update
returns-clause-update c =
    let d : Entries = c.in-Some.declarations in
    let declared = subst (λ (o : Option Entries). IfSome o (λ e. declared_by c.args.text.now ≡ Ok e)) c.in-Some.is c.in_ok-declarations.ensures in
    let sound = c.are_sound.ensures in
    let is-sound = c.if-not-are_sound.false in
    let kept = rw c.entries-new.ensures.value at (c.in_ok-are_updates.ensures c.if-not-branch.false) in
    let is : first_fault (join_faults c.args.table.now c.args.jobs.now d) ≡ None → IsUpdate c.args.table.now c.args.jobs.now c.args.places.now c.args.old.now c.args.max c.args.given.now c.args.text.now =
    λ fits. (d, record { declared = declared; once = rw c.entries-new.ensures.value at (sound.once is-sound); fits = fits; bound = rw (c.entries-new.ensures.value, c.lines.ensures.value) at (sound.bound is-sound); left_out = rw (c.entries-new.ensures.value, c.lines.ensures.value) at (sound.left_out is-sound) }, kept) in
    fitting c.is_fitting.result is c.is_fitting.ensures
