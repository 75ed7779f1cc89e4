use Rattle.std.proofs.Common.{rules, arith, ◌≡◌, ◌<◌, ◌++◌, ◌∷◌, [], ap, length, length-append}
use Rattle.cs_daemon.proofs.Storing.{read_next}
use Rattle.cs_daemon.proofs.stamps.Stored.read.Goals as goal

pub loop-job-preserved : goal.loop-job-preserved
loop-job-preserved g c =
    let lines = c.lines-lines.result.now in
    let known = c.loop-job.stamps.items in
    let less : c.loop-job.job < length lines = search rules in
    let room : length known < 64 = omega (arith, less, c.loop-job.invariant.few, ap length c.lines-lines.ensures.value, c.lines-lines.ensures.few) in
    let pushed : c.add-in-loop-job.new.items.items ≡ known ++ c.day_in.result ∷ [] = c.add-in-loop-job.ensures room in
    record {
      read =
          read_next g.S.StampStore.reads lines c.loop-job.job c.index-lines-job.result c.identifier.result.now c.args.store.now c.loop-job.store c.read-answer.new.self
          known c.add-in-loop-job.new.items.items c.read-answer.result c.day_in.result less c.loop-job.invariant.read (search rules) c.identifier.ensures c.read-answer.ensures.reads c.day_in.ensures pushed;
      few = omega (arith, c.loop-job.invariant.few, ap length pushed, length-append known (c.day_in.result ∷ []));
      faults = search rules;
    }
