-- What the JSON of a certificate's lists and classes says, or BadShape.
use Rattle.std.specs.Prelude.{ℕ, ℤ, pos, negsuc, min, List, [], ◌∷◌, Result, Ok, codes, if◌then◌else◌}
use Rattle.serde_json.specs.Data.{Data}
use Rattle.cs_json.specs.Gives.{◌>>=◌}
use Rattle.cs_json.specs.Shape.{is_among, list_as, member_as, object_with, pair_as, triple_as, whole_number}
use Rattle.cs_json.specs.declared.fault.JsonFault.{JsonFault}
use Rattle.cs_wait.specs.declared.backlog.Piece.{Piece}
use Rattle.cs_windows.specs.declared.tree.Entry.{Entry}
use Rattle.cs_claims.specs.declared.class.Class.{Class}
use Rattle.cs_claims.specs.declared.class.DueList.{DueList}
use Rattle.cs_claims.specs.declared.class.GroupBacklog.{GroupBacklog}
use Rattle.cs_windows.specs.declared.reach.JobReach.{JobReach}
use Rattle.cs_claims.specs.Rules.{is_backlog_from}

-- a number from 0 to top as it is, any other as top
abbrev pub capped : ℕ → ℤ → ℕ
capped top (pos n) = min n top
capped top (negsuc n) = top

-- a number as it is held: no rule allows the top, so that one that isn't held breaks the rule as
-- well
abbrev pub held : ℕ → Data → Result ℕ JsonFault
held top d = whole_number d >>= (λ z. Ok (capped top z))

-- `[job, [minutes]]`
abbrev pub due_list_said : Data → Result DueList JsonFault
due_list_said d = pair_as (held 65535) (list_as (held 65535)) d >>=
    (λ p. Ok (record { job = p.0; minutes = p.1 }))

-- `[minute, value]`
abbrev pub piece_said : Data → Result Piece JsonFault
piece_said d =
    pair_as (held 65535) (held 4294967295) d >>= (λ p. Ok (record { minute = p.0; value = p.1 }))

-- pieces that make no backlog are held for a group out of range, so that the list breaks its rule
-- too
abbrev pub held_backlog : ℕ → List Piece → GroupBacklog
held_backlog group pieces = if is_backlog_from 0 pieces
    then record { group = group; backlog = pieces } else record { group = 255; backlog = [] }

-- `[group, [[minute, value], ..]]`
abbrev pub group_backlog_said : Data → Result GroupBacklog JsonFault
group_backlog_said d =
    pair_as (held 255) (list_as piece_said) d >>= (λ p. Ok (held_backlog p.0 p.1))

-- `{"due": .., "backlog": ..}`
abbrev pub class_said : Data → Result Class JsonFault
class_said d = do
  o ← object_with (is_among (codes "backlog" ∷ codes "due" ∷ [])) d
  due ← member_as (list_as due_list_said) (codes "due") d
  backlog ← member_as (list_as group_backlog_said) (codes "backlog") d
  Ok (record { due = due; backlog = backlog })

-- `[group, minutes]`: what is left over at midnight, as a bound from minute 0 on
abbrev pub carry_said : Data → Result GroupBacklog JsonFault
carry_said d = pair_as (held 255) (held 4294967295) d >>=
    (λ p. Ok (held_backlog p.0 (record { minute = 0; value = p.1 } ∷ [])))

-- `{"carry": ..}`
abbrev pub carry_class_said : Data → Result Class JsonFault
carry_class_said d = do
  o ← object_with (is_among (codes "carry" ∷ [])) d
  backlog ← member_as (list_as carry_said) (codes "carry") d
  Ok (record { due = []; backlog = backlog })

-- `[job, reach]`
abbrev pub reach_said : Data → Result JobReach JsonFault
reach_said d = pair_as (held 65535) (held 65535) d >>= (λ p. Ok (record { job = p.0; reach = p.1 }))

-- `[job, day_back, from]`
abbrev pub entry_said : Data → Result Entry JsonFault
entry_said d = triple_as (held 65535) (held 255) (held 65535) d >>=
    (λ p. Ok (record { job = p.0; day_back = p.1; from = p.2 }))
