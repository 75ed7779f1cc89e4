use Rattle.cs_locks.proofs.Counts.{room}
use Rattle.cs_locks.proofs.PlanHolds.{in_the_way_bars, is_free_holds, one_is_free_holds, takes_hold}
use Rattle.cs_locks.proofs.laws.holds_say_what_is_free.Goals as goal

pub returns-clause-in_the_way : goal.returns-clause-in_the_way
returns-clause-in_the_way c p i j = in_the_way_bars p i j

pub returns-clause-is_free : goal.returns-clause-is_free
returns-clause-is_free c p rs j = is_free_holds p rs j

pub returns-clause-one_is_free : goal.returns-clause-one_is_free
returns-clause-one_is_free c p rs ws = one_is_free_holds p rs ws

pub returns-clause-room : goal.returns-clause-room
returns-clause-room c hs t few counted = room hs t few counted

pub returns-clause-takes : goal.returns-clause-takes
returns-clause-takes c p j g taking group = takes_hold p j g taking group
