use Rattle.std.proofs.Common.{◌≡◌, ℕ, suc, ◌+◌, ◌<◌, ◌++◌, length, List, [], ◌∷◌, filter, refl, sym, ap, ◌∙◌, arith}
use Rattle.std.specs.Prelude.{flat_map, slice_index_or}
use Rattle.std.proofs.lemmas.List.{get_or_default}
use Rattle.std.proofs.lemmas.List.Concat.{flat_map-append}
use Rattle.cs_claims.specs.declared.class.DueList.{DueList}
use Rattle.cs_zone.specs.Zone.{Zone}
use Rattle.cs_zone.specs.declared.shape.Shape.TheVariants.{Plain}
use Rattle.cs_classes.specs.Likeness.{is_due_by}
use Rattle.cs_crontab.specs.Crontab.{CommandLine, Table}
use Rattle.cs_plan.specs.Plan.{Declared, command_of, no_command}
use Rattle.cs_history.specs.Lists.{below}
use Rattle.cs_windows.specs.Windows.{day_minutes}
use Rattle.cs_classes.proofs.Lists.{within}
use Rattle.cs_classes.specs.Planned.{due_on, is_due_on}
use Rattle.cs_classes.specs.StandsFor.{due_list}
use Rattle.cs_classes.proofs.worked.due_on.Goals as goal

append_none : {A : Type 0} (xs : List A) → xs ++ [] ≡ xs
append_none [] = refl
append_none (x ∷ xs) = ap (λ (ys : List _). x ∷ ys) (append_none xs)

one_more : (f : ℕ → List DueList) (n : ℕ) (so_far next more : List DueList) → so_far ≡ flat_map f (below n) → next ≡ so_far ++ more → more ≡ f n → next ≡ flat_map f (below (n + 1))
one_more f n so_far next more h k e =
    let s : n + 1 ≡ suc n = omega arith in
    k ∙ ap (λ (xs : List DueList). xs ++ more) h ∙ ap (λ (xs : List DueList). flat_map f (below n) ++ xs) (e ∙ sym (append_none (f n)))
    ∙ sym (ap (λ (m : ℕ). flat_map f (below m)) s ∙ flat_map-append f (below n) (n ∷ []))

line_there : (lines : List CommandLine) (d : Declared) (j : ℕ) (line : CommandLine) → j < length lines → lines ≡ d.crontab.lines → line ≡ slice_index_or lines j line → line ≡ command_of d j
line_there lines d j line lt same is = is ∙ (within lines j line no_command lt ∙ ap (λ (ls : List CommandLine). slice_index_or ls j no_command) same)

pub listed_on-requires : goal.listed_on-requires
listed_on-requires c =
    let d = c.args.plan.now in
    let j = c.loop-job.job in
    let lines = c.lines-line-items.ensures.value ∙ ap (λ (t : Table). t.lines) c.crontab.ensures.value in
    let there : j < length c.args.plain.now = omega (arith, c.loop-job-test.true, ap length lines, c.requires.long) in
    let line = line_there c.lines-line-items.result.now d j c.line-item.result c.loop-job-test.true lines c.line-item.is in
    c.as_slice.ensures
    ∙ (c.index-plain-job.is
    ∙ (get_or_default c.args.plain.now j c.index-plain-job.result [] there
    ∙ (c.requires.each j (omega (arith, there, c.requires.long))
    ∙ (ap (λ (z : Zone). filter (is_due_by z (command_of d j).when Plain) day_minutes) (sym c.zone-zone.ensures)
    ∙ ap (λ (l : CommandLine). filter (is_due_by c.zone-zone.result.now l.when Plain) day_minutes) (sym line)))))

pub loop-job-preserved : goal.loop-job-preserved
loop-job-preserved c =
    let d = c.args.plan.now in
    let j = c.loop-job.job in
    let line = line_there c.lines-line-items.result.now d j c.line-item.result c.loop-job-test.true (c.lines-line-items.ensures.value ∙ ap (λ (t : Table). t.lines) c.crontab.ensures.value) c.line-item.is in
    one_more (λ (k : ℕ). due_list k (filter (due_on d k c.args.kind) day_minutes)) j c.loop-job.due c.add_list.new.due (due_list j c.in_ok-minutes.minutes) c.loop-job.invariant c.in_ok-add_list.ensures
    (ap (due_list j) (c.in_ok-minutes.ensures
    ∙ (ap (λ (z : Zone). filter (is_due_on z c.line-item.result.when c.args.kind) day_minutes) c.zone-zone.ensures
    ∙ ap (λ (l : CommandLine). filter (is_due_on d.zone l.when c.args.kind) day_minutes) line)))
