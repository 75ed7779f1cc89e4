use Rattle.std.proofs.Common.{◌≡◌, ◌++◌, drop}
use Rattle.std.specs.List.{filter_map}
use Rattle.cs_judge.specs.Answer.{job_of}
use Rattle.cs_judge.proofs.answers.jobs_in.Given as goal

abbrev pub invariant-loop-event : goal.invariant-loop-event
invariant-loop-event l = l.jobs.items ++ filter_map job_of (drop l.event-index l.events) ≡ filter_map job_of l.events
