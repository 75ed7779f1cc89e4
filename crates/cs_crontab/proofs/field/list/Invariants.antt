use Rattle.std.proofs.Common.{◌≡◌, length}
use Rattle.std.specs.List.{slice_split}
use Rattle.cs_crontab.specs.Format.{is_comma}
use Rattle.cs_crontab.specs.Reading.{items_of, list_of}
use Rattle.cs_crontab.proofs.Lists.{with_numbers}
use Rattle.cs_crontab.proofs.field.list.Given as goal

abbrev pub invariant-loop-item : goal.invariant-loop-item
invariant-loop-item l = with_numbers l.numbers (items_of l.part (slice_split is_comma l.rest)) ≡ list_of l.part l.word

abbrev pub decreases-loop-item : goal.decreases-loop-item
decreases-loop-item l = length l.rest
