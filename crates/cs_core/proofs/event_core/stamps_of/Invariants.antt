use Rattle.std.proofs.Common.{◌≡◌, ◌++◌, ◌-◌, None, length, take, replicate}
use Rattle.cs_plan.specs.Plan.{crons}
use Rattle.cs_core.proofs.event_core.stamps_of.Given as goal

abbrev pub invariant-loop-place : goal.invariant-loop-place
invariant-loop-place l = record {
  listed : l.stamps.items ≡ take l.place (l.start.stamps ++ replicate (length l.plan.jobs - crons l.plan) None);
  few : length l.stamps.items ≡ l.place;
}
