use Rattle.std.proofs.Common.{◌≡◌, ◌≤◌, length, take, drop, ◌++◌, ◌-◌}
use Rattle.cs_table.specs.Text.{is_solid, after, front}
use Rattle.cs_table.proofs.text.word.Given as goal

abbrev pub invariant-loop-len : goal.invariant-loop-len
invariant-loop-len l =
    record {
      within : l.len ≤ length l.text;
      front : take l.len l.text ++ front is_solid (drop l.len l.text) ≡ front is_solid l.text;
      after : after is_solid (drop l.len l.text) ≡ after is_solid l.text;
    }

abbrev pub decreases-loop-len : goal.decreases-loop-len
decreases-loop-len l = length l.text - l.len
