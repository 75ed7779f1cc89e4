-- Worked examples: plans, and the answers to scripts.
use Rattle.std.specs.Prelude.{ℕ, ◌+◌, ◌%◌, ◌/◌, Bool, true, false, ◌&&◌, ◌||◌, List, [], ◌∷◌, Option, Some, None, get_or, ◌==◌, if◌then◌else◌, nat_lt, nat_le, length}
use Rattle.cs_history.specs.Plan.{Plan}
use Rattle.cs_history.specs.History.{History, From, history, ◌▸◌}
use Rattle.cs_history.specs.Step.{state_of, refusal, reply}
use Rattle.cs_history.specs.declared.mode.Mode.{Mode}
use Rattle.cs_history.specs.declared.mode.Mode.TheVariants.{Plain, Skip, Wait, Shared}
use Rattle.cs_history.specs.declared.event.Event.{Event}
use Rattle.cs_history.specs.declared.event.Event.TheVariants.{Minute, Begin, Down, Up}
use Rattle.cs_history.specs.declared.reply.Reply.{Reply}
use Rattle.cs_history.specs.declared.refusal.Refusal.{Refusal}

pub data Outcome : Type 0 where
  Refused : Refusal → Outcome
  Said : Reply → Outcome

abbrev pub outcome_of : Option Refusal → Reply → Outcome
outcome_of None r = Said r
outcome_of (Some f) r = Refused f

-- a refused event leaves the history as it was
abbrev pub follow : Option Refusal → History → Event → History
follow None h e = h ▸ e
follow (Some f) h e = h

abbrev pub story : Plan → History → List Event → History
story p h [] = h
story p h (e ∷ es) = story p (follow (refusal p (state_of p h) e) h e) es

-- the answer to each event of a script
abbrev pub answers : Plan → History → List Event → List Outcome
answers p h [] = []
answers p h (e ∷ es) = outcome_of (refusal p (state_of p h) e) (reply p (state_of p h) e)
    ∷ answers p (follow (refusal p (state_of p h) e) h e) es

abbrev pub start : ℕ → Bool → List (Option ℕ) → History
start t up stamps = From (record { now = t; up = up; stamps = stamps })

-- 2024-01-01, day 19,723, at this minute of the day
abbrev pub at : ℕ → ℕ
at m = 28401120 + m

-- three cron jobs due at these minutes of each hour, all of one exclusive group
abbrev pub hourly : List ℕ → List Mode → List ℕ → Plan
hourly minutes modes limits = record {
  crons = 3;
  jobs = 3;
  limit = λ j. get_or limits j 1;
  weight = λ _. 1;
  group = λ _. Some 0;
  mode = λ j. get_or modes j Plain;
  due = λ j t. t % 60 == get_or minutes j 60;
  owed = λ _ _ _. false;
  delay = λ _. 0;
  groups = 1;
  exclusive = λ _. true;
  capacity = 3;
  from = 0;
  to = 1440;
  pass_minute = None;
}

-- due each day: no stamp, a stamp of a later day, or one of an earlier day
abbrev pub daily : Option ℕ → ℕ → Bool
daily None today = true
daily (Some s) today = nat_lt today s || nat_le (s + 1) today

-- anacron jobs due each day, with these delays
abbrev pub catching : List ℕ → ℕ → ℕ → Option ℕ → Plan
catching delays from to pass_minute = record {
  crons = 0;
  jobs = length delays;
  limit = λ _. 60;
  weight = λ _. 1;
  group = λ _. None;
  mode = λ _. Plain;
  due = λ _ _. false;
  owed = λ _ s d. daily s d;
  delay = λ j. get_or delays j 0;
  groups = 0;
  exclusive = λ _. false;
  capacity = 3;
  from = from;
  to = to;
  pass_minute = pass_minute;
}

-- cron jobs of one group, each of weight w
abbrev pub plan_of : ℕ → List Mode → (ℕ → ℕ → Bool) → ℕ → Bool → (ℕ → ℕ) → ℕ → Plan
plan_of n modes due capacity exclusive limit w = record {
  crons = n;
  jobs = n;
  limit = limit;
  weight = λ _. w;
  group = λ _. Some 0;
  mode = λ j. get_or modes j Plain;
  due = due;
  owed = λ _ _ _. false;
  delay = λ _. 0;
  groups = 1;
  exclusive = λ _. exclusive;
  capacity = capacity;
  from = 0;
  to = 1440;
  pass_minute = None;
}

-- due at these minutes of the day
abbrev pub at_of : List ℕ → ℕ → ℕ → Bool
at_of ms j t = t % 1440 == get_or ms j 0

-- 23:30 for l minutes, and 00:00 for 10
abbrev pub nights : ℕ → Plan
nights l = plan_of 2 [] (at_of (1410 ∷ 0 ∷ [])) 3 true (λ j. if j == 0 then l else 10) 1

-- every five minutes for l minutes
abbrev pub fives : ℕ → Plan
fives l = plan_of 1 [] (λ j t. t % 5 == 0) 3 true (λ _. l) 1

-- each midnight for l minutes
abbrev pub midnights : ℕ → Plan
midnights l = plan_of 1 [] (at_of (0 ∷ [])) 3 true (λ _. l) 1

-- Sundays at 12:00 for three days
abbrev pub sundays : Plan
sundays = plan_of 1 [] (λ j t. ((t / 1440 + 4) % 7 == 0) && (t % 1440 == 720)) 3 true (λ _. 4320) 1

-- a cron job at minute m of the day and two anacron jobs, all of one group and of up to an hour,
-- with catch-up hours 03:00 to 05:00
abbrev pub beside_catch_up : ℕ → Plan
beside_catch_up m = record {
  crons = 1;
  jobs = 3;
  limit = λ _. 60;
  weight = λ _. 1;
  group = λ _. Some 0;
  mode = λ _. Plain;
  due = λ j t. t % 1440 == m;
  owed = λ _ s d. daily s d;
  delay = λ _. 0;
  groups = 1;
  exclusive = λ _. true;
  capacity = 3;
  from = 180;
  to = 300;
  pass_minute = None;
}

-- two at midnight that weigh 2 each
abbrev pub heavy : Mode → Plan
heavy m = plan_of 2 (m ∷ m ∷ []) (at_of (0 ∷ 0 ∷ [])) 3 true (λ _. 10) 2

-- a job of 20 minutes that waits, at each full hour, and a skip job at minute 49
abbrev pub skipping : Plan
skipping = plan_of 2 (Wait ∷ Skip ∷ []) (λ j t. t % 60 == get_or (0 ∷ 49 ∷ []) j 0) 3 true
    (λ j. if j == 0 then 20 else 10) 1

-- 2023-02-28 23:00 for two hours, and 2023-03-01 00:30
abbrev pub spring : Plan
spring = plan_of 2 [] (λ j t. t == get_or (27960420 ∷ 27960510 ∷ []) j 0) 3 true
    (λ j. if j == 0 then 120 else 10) 1

-- the first goes on over an outage that ends a minute before the second is due, or this much later
abbrev pub over_outage : ℕ → History
over_outage later = history (record { now = 27960419; up = true; stamps = [] })
    (Minute 27960420 ∷ Begin 0 ∷ Down ∷ Up (later + 27960509) ∷ Minute (later + 27960510) ∷ Begin 1
    ∷ [])

-- two at midnight that both run
abbrev pub both_at_midnight : History
both_at_midnight =
    history (record { now = 2879; up = true; stamps = [] }) (Minute 2880 ∷ Begin 0 ∷ Begin 1 ∷ [])

-- two that share and one that waits, at each full hour
abbrev pub sharing : Plan
sharing = plan_of 3 (Shared ∷ Shared ∷ Wait ∷ []) (λ j t. t % 60 == 0) 2 true
    (λ j. get_or (20 ∷ 30 ∷ 10 ∷ []) j 1) 1

abbrev pub all_begin : History
all_begin = history (record { now = at 59; up = true; stamps = [] })
    (Minute (at 60) ∷ Begin 0 ∷ Begin 1 ∷ Begin 2 ∷ [])

-- two jobs of an exclusive group at 01:00: one of this mode, and one that waits
abbrev pub at_one : Mode → Plan
at_one m = plan_of 2 (m ∷ Wait ∷ []) (at_of (60 ∷ 60 ∷ [])) 3 true (λ _. 20) 1

-- the first finds the lock held by the other
abbrev pub held_lock : History
held_lock = history (record { now = at 59; up = true; stamps = [] })
    (Minute (at 60) ∷ Begin 1 ∷ Begin 0 ∷ [])
