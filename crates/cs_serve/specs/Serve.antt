-- What comes of an order to run tables.
use Rattle.std.specs.Prelude.{◌≡◌, ◌≢◌, ◌⊎◌, ◌+◌, ◌<◌, ◌≤◌, ◌++◌, ◌∷◌, ℕ, List, [], Option, None, Some}
use Rattle.std.specs.Prelude.{IfSome, codes, false, option_map, slice_index_or, sum, true, unwrap_or}
use Rattle.arrayvec.specs.ArrayVec.{array_vec_len}
use Rattle.cs_check.specs.Checked.{plan_in}
use Rattle.cs_check.specs.declared.checked.Checked.{Checked}
use Rattle.cs_civil.specs.Calendar.{last_minute}
use Rattle.cs_daemon.specs.Causes.{IsBack}
use Rattle.cs_daemon.specs.Rest.{IsLeftIn}
use Rattle.cs_daemon.specs.declared.end.Cause.{Cause}
use Rattle.cs_daemon.specs.declared.end.Cause.TheVariants.{ClockBack, ClockFailed, HistoryFull}
use Rattle.cs_daemon.specs.declared.end.Cause.TheVariants.{LastMinute, NoMemory, Stopped}
use Rattle.cs_daemon.specs.declared.end.DaemonEnd.{DaemonEnd}
use Rattle.cs_device.specs.declared.clock.Tick.{Tick}
use Rattle.cs_device.specs.declared.clock.Tick.TheVariants.{At, Stop}
use Rattle.cs_keep.specs.Closed.{checked_in, keeping_in}
use Rattle.cs_keep.specs.Keeping.{IsKept}
use Rattle.cs_files.specs.Response.{Ending, complaint}
use Rattle.cs_owner.specs.declared.owners.Owner.{Owner}
use Rattle.cs_ruling.specs.declared.answer.Order.{Order}
use Rattle.cs_args.specs.Asked.{asked_run, AskedRun}
use Rattle.cs_serve.specs.Anew.{IsOrderOf}
use Rattle.cs_files.specs.Ending.{Ends, Sink, Tries}
use Rattle.cs_serve.specs.declared.obstacle.Obstacle.{Obstacle}
use Rattle.cs_serve.specs.declared.obstacle.Obstacle.TheVariants.{Exposed, InUse, NoFolder, NoHome, NoLog, NoOutput, NotRoot, RequestStays, RunsUnread, Unlocked}

-- why an order isn't served, before a path
abbrev pub in_front : Obstacle → List ℕ
in_front NoFolder = codes "no folder "
in_front InUse = codes "another daemon uses "
in_front Exposed = codes "other users can write to "
in_front Unlocked = codes "can't lock "
in_front RequestStays = codes "can't remove old requests from "
in_front RunsUnread = codes "can't read the list of runs in "
in_front NoHome = codes "no home folder, the user of this process isn't in "
in_front NotRoot = codes "only root can run the gathered table "
in_front NoLog = codes "can't write "
in_front NoOutput = codes "no folder "

-- the path: that of the table, the log, the folder of output, the users, or the folder of stamps
abbrev pub named : Obstacle → Order → List ℕ
named NoFolder order = order.words.stamps.now
named InUse order = order.words.stamps.now
named Exposed order = order.words.stamps.now
named Unlocked order = order.words.stamps.now
named RequestStays order = order.words.stamps.now
named RunsUnread order = order.words.stamps.now
named NoHome order = codes "/etc/passwd"
named NotRoot order = order.words.check.table.now
named NoLog order = unwrap_or (option_map (λ path. path.now) order.words.log) []
named NoOutput order = unwrap_or (option_map (λ path. path.now) order.words.output) []

-- that is reported after the warnings
abbrev pub unserved : Obstacle → Order → Ending
unserved obstacle order = record {
  status = 6;
  out = [];
  err = order.warnings ++ complaint (in_front obstacle ++ named obstacle order);
}

-- what a clock and a store of stamps have said: the clock's last answer, its greatest minute, how
-- many of its answers were a minute later than all before, and how often each of the two failed
pub record Tellings : Type 0 where
  pub last : Option Tick
  pub top : ℕ
  pub risen : ℕ
  pub clock_failures : ℕ
  pub stamp_failures : ℕ

-- new ones have said nothing
abbrev pub no_tellings : Tellings
no_tellings = record { last = None; top = 0; risen = 0; clock_failures = 0; stamp_failures = 0 }

-- The daemon was run over what was checked, with these owners, and ended so. Each event is the
-- clock's or a worker's.
-- The keep, where one was opened, is that of what was checked, and its journal is a legal history.
-- It stopped where its clock said so, with an event for each minute later than all before but the
-- first; it ended for its clock where that went back or failed, and with the last minute where that
-- came. Then there is a keep, as there is where the history is full. No failure is counted that the
-- devices didn't have.
pub record HasRun (checked : Checked) (owners : List Owner) (before after : Tellings)
    (end : DaemonEnd) : Type 0 where
  pub threads : array_vec_len end.shares ≡ (plan_in checked).capacity + 1
  pub shares : sum end.shares.items ≡ end.total
  pub none : end.keep ≡ None → end.total ≡ 0
  pub same : IfSome end.keep (λ kept. checked_in kept ≡ checked)
  pub kept : IfSome end.keep (λ kept. IsKept (keeping_in kept))
  pub total : IfSome end.keep (λ kept. (keeping_in kept).total ≡ end.total)
  pub owned : end.owners ≡ owners
  pub stopped : end.cause ≡ Stopped → after.last ≡ Some Stop
  pub rises : end.cause ≡ Stopped
      → after.risen ≤ before.risen + slice_index_or end.shares.items 0 0 + 1
  pub back : end.cause ≡ ClockBack → IsBack after.top after.last
  pub came : end.cause ≡ LastMinute → after.last ≡ Some (At last_minute)
  pub last_keep : end.cause ≡ LastMinute → end.keep ≢ None
  pub full_keep : end.cause ≡ HistoryFull → end.keep ≢ None
  pub failed : end.cause ≡ ClockFailed → before.clock_failures < after.clock_failures
  pub rest : IfSome end.rest (λ m. IfSome end.keep (λ kept. IsLeftIn (keeping_in kept) m))
  pub faults : end.stamp_faults + before.stamp_failures ≤ after.stamp_failures

abbrev pub cause_status : Cause → ℕ
cause_status Stopped = 0
cause_status LastMinute = 0
cause_status ClockBack = 6
cause_status ClockFailed = 6
cause_status HistoryFull = 1
cause_status NoMemory = 5

-- what is written of it, unless the clock stopped
abbrev pub farewell : Cause → List ℕ
farewell Stopped = []
farewell LastMinute = codes "cronsafe: the last minute of 9999 has come\n"
farewell ClockBack = codes "cronsafe: the clock went back, or is before 1970-01-04\n"
farewell ClockFailed = codes "cronsafe: can't read the clock\n"
farewell HistoryFull = codes "cronsafe: the history is full\n"
farewell NoMemory = codes "cronsafe: out of memory\n"

-- the daemon is run with these devices until it ends, and why it ended is reported and is the
-- status; of what it writes to standard output nothing is said
pub record IsServedBy (checked : Checked) (owners : List Owner) (before after : Tellings)
    (err-old err-new : Sink) (status : ℕ) : Type 0 where
  pub end : DaemonEnd
  pub run : HasRun checked owners before after end
  pub told : Tries (farewell end.cause) err-old err-new
  pub by_cause : status ≡ cause_status end.cause

-- so it is with new devices of this machine
abbrev pub IsServed : Order → Sink → Sink → ℕ → Type 0
IsServed order err-old err-new status =
    (after : Tellings)
    × IsServedBy order.checked order.owners no_tellings after err-old err-new status

-- the warnings are reported first
abbrev pub IsServedBehind : Order → Sink → Sink → ℕ → Type 0
IsServedBehind order err-old err-new status =
    (warned : Sink) × Tries order.warnings err-old warned × IsServed order warned err-new status

abbrev pub taken_away : List ℕ
taken_away = codes "cronsafe: the folder of stamps was taken away\n"

-- it was served as if to end with status 0, and then reports that its folder was taken away
abbrev pub LosesFolder : Order → Sink → Sink → ℕ → Type 0
LosesFolder order err-old err-new status = (status ≡ 6)
    × ((stopped : Sink) × IsServedBehind order err-old stopped 0
    × Tries taken_away stopped err-new)

-- it was run, to the end or until its folder was taken away
abbrev pub IsRun : Order → Sink → Sink → ℕ → Type 0
IsRun order err-old err-new status =
    IsServedBehind order err-old err-new status ⊎ LosesFolder order err-old err-new status

-- the warnings are reported, and then that memory ran out
abbrev pub RunsOutBehind : Order → Sink → Sink → ℕ → Type 0
RunsOutBehind order err-old err-new status = (status ≡ 5)
    × ((warned : Sink) × Tries order.warnings err-old warned
    × Tries (codes "cronsafe: out of memory\n") warned err-new)

-- it isn't served, which is reported after the warnings; or memory ran out
abbrev pub Refuses : Obstacle → Order → Sink → Sink → Sink → Sink → ℕ → Type 0
Refuses obstacle order out-old out-new err-old err-new status =
    Ends (unserved obstacle order) out-old out-new err-old err-new status
    ⊎ ((out-new ≡ out-old) × RunsOutBehind order err-old err-new status)

-- it isn't served, which is reported after the warnings; or memory ran out, and nothing is run
abbrev pub IsUnserved : Order → Sink → Sink → Sink → Sink → ℕ → Type 0
IsUnserved order out-old out-new err-old err-new status =
    ((obstacle : Obstacle)
    × Ends (unserved obstacle order) out-old out-new err-old err-new status)
    ⊎ ((out-new ≡ out-old) × RunsOutBehind order err-old err-new status)

-- so it is, or it was run
abbrev pub ServesOne : Order → Sink → Sink → Sink → Sink → ℕ → Type 0
ServesOne order out-old out-new err-old err-new status =
    IsUnserved order out-old out-new err-old err-new status ⊎ IsRun order err-old err-new status

-- a daemon that has stopped is followed by what these words order
abbrev pub IsNextOf : Cause → AskedRun → Order → Type 0
IsNextOf cause a next = (cause ≡ Stopped) × IsOrderOf a next

-- an order was served with status 0, and is followed by what its words order when its files are
-- read again
abbrev pub IsFollowed : Order → Sink → Sink → Order → Type 0
IsFollowed order err-old err-new next =
    IsServedBehind order err-old err-new 0 × IsOrderOf (asked_run order.words) next

-- An order comes after others, the last of them first: each was followed by the one after it. The
-- first of all is this one, with these two outputs.
abbrev pub ComesBehind : Order → Sink → Sink → List Order → Order → Sink → Sink → Type 0
ComesBehind first out-first err-first [] order out err =
    (order ≡ first) × (out ≡ out-first) × (err ≡ err-first)
ComesBehind first out-first err-first (earlier ∷ others) order out err =
    (out-earlier : Sink) × (err-earlier : Sink)
    × ComesBehind first out-first err-first others earlier out-earlier err-earlier
    × IsFollowed earlier err-earlier err order

-- the order comes first, others may follow, and the last one gives the status
pub record Serves (first : Order) (out-old out-new err-old err-new : Sink) (status : ℕ) : Type 0
  where
    pub earlier : List Order
    pub order : Order
    pub out : Sink
    pub err : Sink
    pub turns : ComesBehind first out-old err-old earlier order out err
    pub comes : ServesOne order out out-new err err-new status

-- nothing is run: the warnings are reported
abbrev pub IsTried : Order → Sink → Sink → Sink → Sink → ℕ → Type 0
IsTried order out-old out-new err-old err-new status =
    (status ≡ 0) × (out-new ≡ out-old) × Tries order.warnings err-old err-new

-- an order isn't served; or, with `--check-only`, it is tried, and without that it is served
abbrev pub ServesOrTries : Order → Sink → Sink → Sink → Sink → ℕ → Type 0
ServesOrTries order out-old out-new err-old err-new status =
    IsUnserved order out-old out-new err-old err-new status
    ⊎ (((order.words.check_only ≡ true)
    × IsTried order out-old out-new err-old err-new status)
    ⊎ ((order.words.check_only ≡ false)
    × Serves order out-old out-new err-old err-new status))
