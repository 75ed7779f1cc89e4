use Rattle.std.proofs.Common.{rules, ◌≡◌, ◌++◌, ◌-◌, ◌/◌, [], ap, ◌∙◌, arith, take}
use Rattle.std.specs.Prelude.{flat_map}
use Rattle.std.specs.List.{range_with_len}
use Rattle.cs_windows.proofs.Minutes.{range_step}
use Rattle.cs_next.specs.Next.{days_from, starts_of_day}
use Rattle.cs_next.proofs.Days.{enough}
use Rattle.cs_next.proofs.starts.next_starts.Goals as goal
use Rattle.cs_next.proofs.starts.next_starts.Goals.{then-loop-number-test+else-len-count, else-loop-number-test}

pub loop-number-preserved : goal.loop-number-preserved
loop-number-preserved c =
    let f = starts_of_day c.args.from c.args.lines.now c.args.jobs.now in
    let i = c.loop-number.invariant in
    let day : c.unwrap-day.result ≡ c.loop-number.number = search rules in (
      omega arith,
      omega arith,
      i.2,
      range_step f (c.args.from / 1440) c.loop-number.number [] c.loop-number.starts.items c.add_day.new.starts.items i.0 i.3
          (c.in_ok-add_day.ensures ∙ ap (λ n. c.loop-number.starts.items ++ f n) day),
    )

pub returns : goal.returns
returns c =
    let f = starts_of_day c.args.from c.args.lines.now c.args.jobs.now in
    let i = c.loop-number.invariant in
    let first = c.args.from / 1440 in
    c.truncate.ensures.items
    ∙ elim c.loop-number-test.branch [
      | then-loop-number-test+else-len-count w ↦
          enough f first (c.loop-number.number - first) (days_from c.args.from) c.args.count c.loop-number.starts.items (omega arith) i.3 (omega arith)
      | else-loop-number-test w ↦
          let whole : c.loop-number.number - first ≡ days_from c.args.from = omega arith in
          ap (take c.args.count) i.3 ∙ ap (λ n. take c.args.count (flat_map f (range_with_len first n))) whole
    ]
