use Rattle.std.proofs.Common.{◌≡◌, ◌<◌, ℕ, [], length, slice_index_or}
use Rattle.cs_classes.specs.Said.{said}
use Rattle.cs_classes.specs.Claim.{class_at}
use Rattle.cs_classes.specs.Likeness.{IsRow}
use Rattle.cs_classes.proofs.workers.OneThreadWorkers.likenesses.Given as goal

abbrev pub invariant-loop-class : goal.invariant-loop-class
invariant-loop-class l = (length l.rows.items ≡ l.class-index) × ((n : ℕ) → n < l.class-index → IsRow l.plan (class_at (said l.claim).classes n) (slice_index_or l.rows.items n []))
