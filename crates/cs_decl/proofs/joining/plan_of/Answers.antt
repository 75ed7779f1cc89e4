use Rattle.std.proofs.Common.{rules}
use Rattle.std.proofs.lemmas.Int.{to_z-of_z}
use mir.Val.{SFits}
use mir.Syntax.{w16}
use Rattle.cs_decl.specs.Join.{plan_of}
use Rattle.cs_decl.proofs.Wholes.{whole}
use Rattle.cs_decl.proofs.joining.plan_of.Goals as goal

pub new-requires : goal.new-requires
unfolding plan_of
new-requires c =
    let fits : SFits w16 c.offset_of.result = search rules in
    rw (
      to_z-of_z w16 c.offset_of.result fits,
      c.offset_of.ensures.value,
      c.zone_of.ensures,
      c.in_ok-clocks.ensures,
      c.pass_of.ensures,
      c.hours_of.ensures,
      c.capacity_of.ensures,
      c.in_ok-doubled.ensures,
      c.guessed.ensures,
      c.defaulted-defaulted.ensures,
      c.in_ok-groups.ensures,
      c.as_slice.ensures,
      c.in_ok-jobs.ensures,
      c.lines.ensures.value,
      c.lines-2.ensures.value,
      c.lines-3.ensures.value,
      c.lines-4.ensures.value,
    )
    (whole c.args.crontab c.args.left_out c.args.untimed c.args.anacrontab c.args.entries.now c.requires.valid (rw c.offset_of.ensures.value at c.offset_of.ensures.bound) c.lines.ensures.few c.lines-2.ensures.few c.lines-2.ensures.possible c.requires.timed)
