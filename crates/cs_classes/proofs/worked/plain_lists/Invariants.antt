use Rattle.std.proofs.Common.{◌≡◌, ◌<◌, ℕ, [], filter, length, slice_index_or}
use Rattle.cs_plan.specs.Plan.{command_of}
use Rattle.cs_windows.specs.Windows.{day_minutes}
use Rattle.cs_zone.specs.declared.shape.Shape.TheVariants.{Plain}
use Rattle.cs_classes.specs.Likeness.{is_due_by}
use Rattle.cs_classes.proofs.worked.plain_lists.Given as goal

abbrev pub invariant-loop-line : goal.invariant-loop-line
invariant-loop-line l =
    (length l.plain.items ≡ l.line-index)
    × ((j : ℕ) → j < l.line-index → slice_index_or l.plain.items j [] ≡ filter (is_due_by l.plan.zone (command_of l.plan j).when Plain) day_minutes)
