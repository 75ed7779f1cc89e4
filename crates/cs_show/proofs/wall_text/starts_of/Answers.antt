use Rattle.std.proofs.Common.{◌≡◌, ◌*◌, ◌-◌, arith}
use Rattle.cs_show.specs.WallText.{starts_in, starts_of}
use Rattle.cs_show.proofs.Starts.{same_range}
use Rattle.cs_show.proofs.wall_text.starts_of.Goals as goal

pub returns : goal.returns
unfolding starts_of
returns c =
    let last : c.loop-step.step ≡ 1680 = omega arith in
    let first : 1440 * c.number.result - 120 ≡ 1440 * c.args.day - 120 = omega (arith, c.number.ensures.value) in
    same_range (starts_in c.args.zone c.args.schedule.now c.args.day) c.loop-step.starts.items (1440 * c.number.result - 120) (1440 * c.args.day - 120) c.loop-step.step 1680 c.loop-step.invariant first last
