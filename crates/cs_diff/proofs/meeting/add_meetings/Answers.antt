use Rattle.std.proofs.Common.{All, Global, Vec, subst, sym}
use Rattle.cs_diff.specs.Meeting.{IsMeeting}
use Rattle.cs_diff.specs.declared.meeting.Meeting.{Meeting}
use Rattle.cs_diff.proofs.meeting.add_meetings.Goals as goal
use Rattle.cs_diff.proofs.meeting.add_meetings.Goals.{then-not-met+in_ok-add_meeting, else-not-met}

pub loop-other-preserved : goal.loop-other-preserved
loop-other-preserved c given =
    let meet : Vec Meeting Global → Type 0 = λ v. All (IsMeeting c.args.plan.now) v.items in
    elim c.if-not-met.branch [
      | then-not-met+in_ok-add_meeting w ↦
          subst meet (sym w.meetings-is) (w.in_ok-add_meeting.ensures (c.loop-other.invariant given))
      | else-not-met w ↦ subst meet (sym w.meetings-is) (c.loop-other.invariant given)
    ]
