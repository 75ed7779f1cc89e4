use Rattle.std.proofs.Common.{◌∙◌, ◌+◌, ◌-◌, ◌*◌, ◌/◌, ◌%◌, ◌&&◌, ℕ, Bool, arith, ap, sym, refl}
use Rattle.std.proofs.lemmas.Bool.{le-ltb, lt-ltb}
use Rattle.cs_schedule.specs.Numbers.{has_bit}
use Rattle.cs_schedule.specs.Minutes.{is_in, is_shown, minutes_where}
use Rattle.cs_schedule.proofs.Hours.{next_listed, skipped, taken_in}
use Rattle.cs_schedule.proofs.Words.{none_in}
use Rattle.cs_schedule.proofs.Ranges.{filter_same}
use Rattle.cs_schedule.proofs.minute_set.MinuteSet.of_times.Goals as goal

pub returns : goal.returns
unfolding minutes_where
returns c =
    let due : ℕ → Bool = λ k. is_shown c.args.hours.now c.args.minutes.now c.args.from c.args.to ((k + c.args.turn) % 1440) in
    filter_same (is_in c.loop-hour.words) due 0 1440 (λ n low high. c.loop-hour.invariant.3 n (omega arith) ∙ ap (λ b. b && due n) (lt-ltb ((n + c.args.turn) % 1440 / 60) c.loop-hour.hour (omega arith)))

pub loop-hour-init : goal.loop-hour-init
loop-hour-init c =
    let next = c.lowest_bit-hour.result in
    let listed = next_listed c.args.hours.now c.bits_between.result 0 next (omega arith) c.lowest_bit-hour.ensures.within c.bits_between.ensures c.lowest_bit-hour.ensures.out c.lowest_bit-hour.ensures.set in (
      refl,
      c.lowest_bit-hour.ensures.within,
      listed.1,
      λ k day.
          let time = (k + c.args.turn) % 1440 in
          none_in k
          ∙ ap (λ (b : Bool). b && is_shown c.args.hours.now c.args.minutes.now c.args.from c.args.to time) (sym (le-ltb (time / 60) 0 (omega arith)))
          ∙ skipped c.args.hours.now c.args.minutes.now c.args.from c.args.to 0 next time (omega arith) (omega arith) listed.2,
    )

pub loop-hour-preserved : goal.loop-hour-preserved
loop-hour-preserved c =
    let hour = c.loop-hour.hour in
    let next = c.lowest_bit-hour-in-loop-hour.result in
    let first = (60 * hour + 1440 - c.args.turn) % 1440 in
    let listed = next_listed c.args.hours.now c.bits_between-in-loop-hour-2.result (hour + 1) next (omega arith) c.lowest_bit-hour-in-loop-hour.ensures.within c.bits_between-in-loop-hour-2.ensures c.lowest_bit-hour-in-loop-hour.ensures.out c.lowest_bit-hour-in-loop-hour.ensures.set in (
      c.put_hour.array_long,
      c.lowest_bit-hour-in-loop-hour.ensures.within,
      listed.1,
      λ k day.
          taken_in c.args.hours.now c.args.minutes.now c.args.turn c.args.from c.args.to hour k c.min-low.result c.min-high.result first (is_in c.loop-hour.words k) (is_in c.put_hour.new.words k) (has_bit c.bits_between-in-loop-hour.result ((k + 1440 - first) % 1440))
          (omega arith) (omega arith) day (omega arith) (omega arith) refl (c.loop-hour.invariant.2 (omega arith)) (c.bits_between-in-loop-hour.ensures ((k + 1440 - first) % 1440)) (c.loop-hour.invariant.3 k day) (c.put_hour.ensures k day)
          ∙ skipped c.args.hours.now c.args.minutes.now c.args.from c.args.to (hour + 1) next ((k + c.args.turn) % 1440) listed.0 (omega arith) listed.2,
    )
