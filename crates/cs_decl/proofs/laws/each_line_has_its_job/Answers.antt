use Rattle.cs_decl.proofs.JobTerms.{lines, jobs, declared, defaults}
use Rattle.cs_decl.proofs.OnlyOnce.{once}
use Rattle.cs_decl.proofs.laws.each_line_has_its_job.Goals as goal

pub returns-clause-lines : goal.returns-clause-lines
returns-clause-lines c = lines

pub returns-clause-jobs : goal.returns-clause-jobs
returns-clause-jobs c = jobs

pub returns-clause-declared : goal.returns-clause-declared
returns-clause-declared c = λ table anacrontab d plan j made. declared table anacrontab d plan made j

pub returns-clause-defaulted : goal.returns-clause-defaulted
returns-clause-defaulted c = defaults

pub returns-clause-once : goal.returns-clause-once
returns-clause-once c = once
