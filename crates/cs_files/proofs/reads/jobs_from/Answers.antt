use Rattle.std.proofs.Common.{List, ℕ, subst}
use Rattle.cs_table.specs.declared.limits.TheConstants.{MAX_TABLE}
use Rattle.cs_files.specs.Reads.{MeansIt, MeansJobTable}
use Rattle.cs_files.specs.Trouble.{InAnacrontab}
use Rattle.cs_files.proofs.TroubleLemmas.{came_read, same_jobs}
use Rattle.cs_files.proofs.reads.jobs_from.Goals as goal

pub returns-clause-step : goal.returns-clause-step
returns-clause-step g c = λ fresh.
    let bytes = c.in_ok-bytes.bytes.items in
    let tells = subst (λ (b : List ℕ). MeansIt MeansJobTable InAnacrontab b c.jobs_in.result) c.as_slice.ensures.value c.jobs_in.ensures.value in
    came_read MAX_TABLE MeansJobTable InAnacrontab (g.I.Inputs.whole c.args.inputs.now) (g.I.Inputs.left c.args.inputs.now) c.args.path.now bytes (g.I.Inputs.failed c.args.inputs.now) (g.I.Inputs.failed c.bytes_at.new.inputs)
    c.jobs_in.result (λ m text up is. same_jobs bytes m text up is) c.in_ok-bytes.ensures.works fresh c.in_ok-bytes.ensures.bytes tells
