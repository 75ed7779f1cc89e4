use Rattle.std.proofs.Common.{◌≡◌, ◌++◌, drop, flat_map}
use Rattle.cs_show.specs.DayAnswer.{anacron_text}
use Rattle.cs_show.proofs.day.add_jobs.Given as goal

-- the text so far and that of the jobs that are left
abbrev pub invariant-loop-job : goal.invariant-loop-job
invariant-loop-job l = l.text.items ++ flat_map (anacron_text l.fn.question) (drop l.job-index l.jobs) ≡ l.initial.text.items ++ flat_map (anacron_text l.fn.question) l.jobs
