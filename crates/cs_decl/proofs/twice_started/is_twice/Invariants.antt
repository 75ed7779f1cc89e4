use Rattle.std.proofs.Common.{◌≡◌, drop}
use Rattle.std.specs.List.{list_any}
use Rattle.cs_decl.specs.TwiceStarted.{is_twice_at}
use Rattle.cs_decl.proofs.twice_started.is_twice.Given as goal

-- none of the minutes so far
abbrev pub invariant-loop-start : goal.invariant-loop-start
invariant-loop-start l =
    list_any (is_twice_at l.zone l.schedule) (drop l.start-index l.starts) ≡ list_any (is_twice_at l.zone l.schedule) l.starts
