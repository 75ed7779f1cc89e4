use Rattle.std.proofs.Common.{All}
use Rattle.cs_diff.specs.Meeting.{IsMeeting}
use Rattle.cs_diff.proofs.meeting.all_meetings.Given as goal

abbrev pub invariant-loop-one : goal.invariant-loop-one
invariant-loop-one l = All (IsMeeting l.plan) l.meetings.items
