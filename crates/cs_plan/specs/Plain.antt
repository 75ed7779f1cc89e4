-- The plan of tables for which only the longest time of every run is declared.
use Rattle.std.specs.Prelude.{ℕ, pos, nat_le, [], ◌++◌, map, None, Bool, not, ◌&&◌, Result, Err, if◌then◌else◌}
use Rattle.cs_zone.specs.Zone.{no_zone}
use Rattle.cs_crontab.specs.Crontab.{Table as Crontab}
use Rattle.cs_anacrontab.specs.Anacrontab.{Table as Anacrontab}
use Rattle.cs_history.specs.declared.mode.Mode.TheVariants.{Plain}
use Rattle.cs_civil.specs.declared.minute.TheConstants.{MINUTES_OF_DAY}
use Rattle.cs_plan.specs.declared.limits.TheConstants.{MAX_MINUTES, MAX_CAPACITY}
use Rattle.cs_plan.specs.declared.fault.DeclFault.TheVariants as faults
use Rattle.cs_plan.specs.Job.{DeclaredJob}
use Rattle.cs_plan.specs.Plan.{Declared, places_of}
use Rattle.cs_plan.specs.Answers.{Fault}
use Rattle.cs_plan.specs.Reboot.{reboot_fault}
use Rattle.cs_plan.specs.Answers.{unless}

-- weight 1, no group, no lock
abbrev pub plain_job : ℕ → ℕ → DeclaredJob
plain_job max place = record { place = place; max = max; weight = 1; group = None; mode = Plain }

-- the greatest capacity, catch-up at all hours, no pass minute, and a clock that shows UTC
unfoldable pub plain_plan : Crontab → Anacrontab → ℕ → Declared
plain_plan crontab anacrontab max = record {
  crontab = crontab;
  anacrontab = anacrontab;
  jobs = map (plain_job max) (places_of crontab.lines)
      ++ map (plain_job max) (places_of anacrontab.lines);
  groups = [];
  capacity = MAX_CAPACITY;
  hours = record { from = 0; to = MINUTES_OF_DAY };
  pass = None;
  offset = pos 0;
  zone = no_zone;
  clocks = None;
  left_out = [];
  defaulted = 0;
  guessed = 0;
  untimed = None;
  doubled = None;
}

abbrev pub is_possible_max : ℕ → Bool
is_possible_max max = nat_le 1 max && nat_le max MAX_MINUTES

-- that plan, or the fault of the longest time, or the first `@reboot`
unfoldable pub plain_of : Crontab → Anacrontab → ℕ → Result Declared Fault
plain_of crontab anacrontab max =
    if not (is_possible_max max) then Err (faults.BadMax, None)
    else unless (plain_plan crontab anacrontab max) (reboot_fault crontab.lines)
