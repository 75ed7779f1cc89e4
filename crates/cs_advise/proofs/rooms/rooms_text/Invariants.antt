use Rattle.std.proofs.Common.{◌≡◌, ◌++◌, ℕ, List, take}
use Rattle.std.specs.List.{AllZip, concat}
use Rattle.cs_advise.specs.Room.{IsRoomLine}
use Rattle.cs_advise.proofs.rooms.rooms_text.Given as goal

abbrev pub invariant-loop-room : goal.invariant-loop-room
invariant-loop-room g l = (lines : List (List ℕ)) × AllZip (IsRoomLine l.plan) (take l.room-index l.each) lines
    × (l.text.items ≡ l.head ++ concat lines)
