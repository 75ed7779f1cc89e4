-- The order of the events in a daemon's log.
use Rattle.std.specs.Prelude.{ℕ, List}
use Rattle.std.specs.Ordering.{nat_cmp, ordering_then}
use Rattle.std.specs.declared.cmp.Ordering.{Ordering}
use Rattle.std.specs.List.Sorted.{IsPermutation, IsSortedByKey}
use Rattle.cs_retrace.specs.declared.entry.Turn.{Turn}
use Rattle.cs_retrace.specs.declared.entry.Turn.TheVariants.{Comes, Begins, Crashes, Follows, Goes, Returns}
use Rattle.cs_retrace.specs.declared.entry.Entry.{Entry}

abbrev pub turn_number : Turn → ℕ
turn_number Comes = 0
turn_number Begins = 1
turn_number Follows = 2
turn_number Crashes = 2
turn_number Returns = 2
turn_number Goes = 3

-- its minute, its turn, and its order among those of that minute and turn
abbrev pub place_of : Entry → ℕ × ℕ × ℕ
place_of event = (event.at, turn_number event.turn, event.order)

-- by minute, then by turn, then by order
abbrev pub place_cmp : ℕ × ℕ × ℕ → ℕ × ℕ × ℕ → Ordering
place_cmp p q =
    ordering_then (ordering_then (nat_cmp p.0 q.0) (nat_cmp p.1 q.1)) (nat_cmp p.2 q.2)

-- The events come in order of their places.
unfoldable pub IsInOrder : List Entry → List Entry → Type 0
IsInOrder told events = IsPermutation told events × IsSortedByKey place_of place_cmp events
