use Rattle.std.proofs.Common.{rules, length}
use Rattle.cs_jobs.proofs.Asked.{anacron_runs, cron_runs, looked_up}
use Rattle.cs_jobs.proofs.commands.run_command.Goals as goal

pub returns-in-Some-clause-runs : goal.returns-in-Some-clause-runs
returns-in-Some-clause-runs g c =
    cron_runs g.W.Runner.runs c.args.plan.now c.args.owners.now c.args.going c.as_slice.result.now c.until_of-until.result c.from-job.result c.crontab-crontab.result.now c.lines.result.now _ c.in-Some.line c.args.runner.now c.run_line.new.runner c.run_line.result
    (search rules) c.until_of-until.ensures (search rules) c.crontab-crontab.ensures.value c.lines.ensures.value (looked_up c.args.owners.now c.from-job.result c.get-in-Some.result c.get-in-Some.ensures.lookup) c.in-Some.ensures.lookup c.run_line.ensures.runs

pub returns-clause-runs : goal.returns-clause-runs
returns-clause-runs g c =
    anacron_runs g.W.Runner.runs c.args.plan.now c.args.owners.now c.args.going c.as_slice-2.result.now c.until_of-until.result c.from-job.result (length c.lines-3.result.now) c.anacrontab-anacrontab.result.now c.lines-2.result.now c.in-Some-get.line c.args.runner.now c.run_job_line.new.runner c.run_job_line.result
    (search rules) c.until_of-until.ensures (search rules) c.anacrontab-anacrontab.ensures c.lines-2.ensures.value (search rules) (search rules) c.in-Some-get.ensures.lookup c.run_job_line.ensures.runs
