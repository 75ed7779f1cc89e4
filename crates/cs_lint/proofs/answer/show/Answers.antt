use Rattle.std.proofs.Common.{◌≡◌, ◌≢◌, ◌∙◌, ap, subst, sym, true, ℕ}
use Rattle.std.specs.Prelude.{option_map}
use Rattle.cs_files.specs.Response.{Ending}
use Rattle.cs_lint.specs.Refused.{Judges}
use Rattle.cs_lint.proofs.answer.show.Goals as goal

pub returns-clause-value : goal.returns-clause-value
returns-clause-value c =
    let status = sym (ap (λ (e : Ending). e.status) c.told.ensures) in
    let texts = c.args.texts.now in (
      ap (λ (e : Ending). e.err) c.told.ensures ∙ c.new.ensures,
      subst (λ (n : ℕ). Judges n texts.table.items (option_map (λ v. v.items) texts.jobs) (option_map (λ v. v.items) texts.declarations)) status c.in_ok-status.ensures.value,
    )

pub returns-clause-faults : goal.returns-clause-faults
returns-clause-faults c =
    let status = sym (ap (λ (e : Ending). e.status) c.told.ensures) in
    subst (λ (n : ℕ). c.args.request.now.faults_only ≡ true → n ≢ 1) status c.in_ok-status.ensures.faults
