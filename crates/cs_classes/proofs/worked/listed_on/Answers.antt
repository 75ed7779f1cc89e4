use Rattle.std.proofs.Common.{◌≡◌, List, ℕ, filter, ◌∙◌, subst}
use Rattle.std.proofs.lemmas.Result.{IfOk-weaker}
use Rattle.cs_windows.specs.Windows.{day_minutes}
use Rattle.cs_zone.specs.declared.shape.Shape.TheVariants.{Never, Plain}
use Rattle.cs_classes.proofs.DayLists.{passing_alike, never_passing}
use Rattle.cs_classes.specs.Likeness.{IsCompared, is_due_by}
use Rattle.cs_classes.specs.Planned.{is_due_on}
use Rattle.cs_classes.proofs.worked.listed_on.Goals as goal

pub returns-in-Never : goal.returns-in-Never
returns-in-Never c =
    let when = c.args.line.now.when in
    c.new.ensures ∙ (never_passing c.args.zone when
    ∙ passing_alike (is_due_by c.args.zone when Never) (is_due_on c.args.zone when c.args.kind) (c.in-Never.ensures.minutes (λ e. subst (IsCompared c.args.zone) e tt)))

pub returns-in-Plain : goal.returns-in-Plain
returns-in-Plain c =
    let when = c.args.line.now.when in
    let listed = filter (is_due_on c.args.zone when c.args.kind) day_minutes in
    IfOk-weaker c.from_slice.result (λ (l : List ℕ). l ≡ c.args.plain.now) (λ (l : List ℕ). l ≡ listed)
    (λ l e. e ∙ (c.requires ∙ passing_alike (is_due_by c.args.zone when Plain) (is_due_on c.args.zone when c.args.kind) (c.in-Plain.ensures.minutes (λ e. subst (IsCompared c.args.zone) e tt)))) c.from_slice.ensures
