use Rattle.std.proofs.Common.{refl, append_assoc, arith}
use Rattle.std.proofs.lemmas.List.FromFn.{map-range_with_len_more}
use Rattle.cs_plan.specs.Plain.{plain_job}
use Rattle.cs_plan.proofs.plain.push_plain_jobs.Goals as goal

pub loop-place-preserved : goal.loop-place-preserved
loop-place-preserved c =
    rw (
      map-range_with_len_more (plain_job c.args.max) 0 c.loop-place.place c.loop-place.place (omega arith),
      c.in_ok-push.ensures.ok,
      c.loop-place.invariant,
      c.new.ensures,
      append_assoc,
    )
    refl
