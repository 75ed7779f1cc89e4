-- The event and the reply of an entry, by what it holds of them.
use Rattle.std.specs.Prelude.{ℕ, true, false}
use Rattle.cs_history.specs.History.{run_of}
use Rattle.cs_history.specs.declared.event.Event.{Event}
use Rattle.cs_history.specs.declared.event.Event.TheVariants.{Minute, Begin, Got, Catch, End, Down, Up}
use Rattle.cs_history.specs.declared.reply.Reply.{Reply}
use Rattle.cs_history.specs.declared.reply.Reply.TheVariants as replies
use Rattle.cs_keep.specs.declared.entry.EventKind.{EventKind}
use Rattle.cs_keep.specs.declared.entry.EventKind.TheVariants as kinds
use Rattle.cs_keep.specs.declared.entry.Told.{Told}
use Rattle.cs_keep.specs.declared.entry.Told.TheVariants as answers

abbrev pub event_of : EventKind → ℕ → ℕ → Event
event_of kinds.Minute job at = Minute at
event_of kinds.Begin job at = Begin job
event_of kinds.Got job at = Got job at
event_of kinds.Catch job at = Catch job
event_of kinds.End job at = End (run_of job at)
event_of kinds.Down job at = Down
event_of kinds.Up job at = Up at

-- the job and the minute are those of a run that started
abbrev pub reply_of : Told → ℕ → ℕ → Reply
reply_of answers.Clock job at = replies.Clock
reply_of answers.Started job at = replies.Started (run_of job at)
reply_of answers.Waiting job at = replies.Waiting
reply_of answers.Skipped job at = replies.Skipped
reply_of answers.InTime job at = replies.Ended true
reply_of answers.Late job at = replies.Ended false
reply_of answers.Went job at = replies.Went
reply_of answers.Came job at = replies.Came
