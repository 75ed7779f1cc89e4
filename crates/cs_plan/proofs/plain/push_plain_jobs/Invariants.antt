use Rattle.std.proofs.Common.{◌≡◌, ◌++◌, map}
use Rattle.std.specs.List.{range_with_len}
use Rattle.cs_plan.specs.Plain.{plain_job}
use Rattle.cs_plan.proofs.plain.push_plain_jobs.Given as goal

abbrev pub invariant-loop-place : goal.invariant-loop-place
invariant-loop-place l = l.jobs ≡ l.fn.jobs ++ map (plain_job l.max) (range_with_len 0 l.place)
