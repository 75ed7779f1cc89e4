use Rattle.std.proofs.Common.{◌≡◌, length}
use Rattle.cs_classes.specs.Said.{said}
use Rattle.cs_classes.specs.Days.{classes_on}
use Rattle.cs_classes.proofs.last.classes_from.Given as goal

abbrev pub invariant-loop-place : goal.invariant-loop-place
invariant-loop-place l = record {
  long : length l.classes.items ≡ l.place;
  classes : l.classes.items ≡ classes_on (said l.claim) l.first l.place;
}
