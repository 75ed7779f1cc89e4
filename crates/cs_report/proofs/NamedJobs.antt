-- What a script that can be named names.
use Rattle.std.proofs.Common.{◌≡◌, ◌<◌, ◌≤◌, ◌-◌, ℕ, Bool, true, false, ◌&&◌, length, refl, nat_lt, nat_le}
use Rattle.std.specs.List.{list_all}
use Rattle.std.proofs.lemmas.Bool.{ltb-true, leb-true}
use Rattle.cs_civil.specs.Calendar.{last_minute}
use Rattle.cs_history.specs.Plan.{first_start}
use Rattle.cs_history.specs.declared.script.Script.{Script}
use Rattle.cs_plan.specs.Plan.{Declared, crons}
use Rattle.cs_report.specs.ScriptText.{are_nameable_stamps, is_anacron_name, is_job_name, is_nameable, is_nameable_event}

pub and_left : (a b : Bool) → (a && b) ≡ true → a ≡ true
and_left true b e = refl
and_left false b e = absurd cc

pub and_right : (a b : Bool) → (a && b) ≡ true → b ≡ true
and_right true b e = e
and_right false b e = absurd cc

pub anacron_behind : (d : Declared) (j : ℕ) → is_anacron_name d j ≡ true → crons d ≤ j
unfolding is_anacron_name
anacron_behind d j is = leb-true (crons d) j (and_left _ _ is)

pub anacron_there : (d : Declared) (j : ℕ) → is_anacron_name d j ≡ true → j - crons d < length d.anacrontab.lines
unfolding is_anacron_name
anacron_there d j is = ltb-true (j - crons d) (length d.anacrontab.lines) (and_left _ _ (and_right (nat_le (crons d) j) _ is))

pub anacron_else : (d : Declared) (j : ℕ) → is_job_name d j ≡ true → nat_lt j (crons d) ≡ false → is_anacron_name d j ≡ true
unfolding is_job_name
anacron_else d j is behind = rw behind at is

pub events_nameable : (d : Declared) (script : Script) → is_nameable d script ≡ true → list_all (is_nameable_event d) script.events ≡ true
unfolding is_nameable
events_nameable d script is =
    and_right (are_nameable_stamps d.anacrontab.lines script.start.stamps) _ (and_right (nat_le script.start.now last_minute) _ (and_right (nat_le first_start script.start.now) _ is))
