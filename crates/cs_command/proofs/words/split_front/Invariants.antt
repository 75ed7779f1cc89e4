use Rattle.std.proofs.Common.{◌≡◌, ◌≤◌, length, take, drop, ◌++◌, ◌-◌}
use Rattle.cs_table.specs.Text.{after, front}
use Rattle.cs_command.specs.Words.{holds}
use Rattle.cs_command.proofs.words.split_front.Given as goal

abbrev pub invariant-loop-len : goal.invariant-loop-len
invariant-loop-len l =
    record {
      within : l.len ≤ length l.text;
      front : take l.len l.text ++ front (holds l.class) (drop l.len l.text) ≡ front (holds l.class) l.text;
      after : after (holds l.class) (drop l.len l.text) ≡ after (holds l.class) l.text;
    }

abbrev pub decreases-loop-len : goal.decreases-loop-len
decreases-loop-len l = length l.text - l.len
