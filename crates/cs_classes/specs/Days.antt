use Rattle.std.specs.Prelude.{ℕ, List, map}
use Rattle.std.specs.List.{range_with_len}
use Rattle.cs_civil.specs.Calendar.{kind}
use Rattle.cs_classes.specs.Claim.{Claimed, class_of}

-- the classes of n days of the calendar, from this one on
abbrev pub classes_on : Claimed → ℕ → ℕ → List ℕ
classes_on c first n = map (λ d. class_of c (kind d)) (range_with_len first n)
