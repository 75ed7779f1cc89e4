use Rattle.std.proofs.Common.{All}
use Rattle.cs_diff.specs.Meeting.{IsMeeting}
use Rattle.cs_diff.proofs.meeting.add_meetings.Given as goal

abbrev pub invariant-loop-other : goal.invariant-loop-other
invariant-loop-other l =
    All (IsMeeting l.plan) l.fn.meetings.items → All (IsMeeting l.plan) l.meetings.items
