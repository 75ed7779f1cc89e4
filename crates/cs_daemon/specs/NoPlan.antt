-- A plan without jobs, for the ledger where no daemon runs.
use Rattle.std.specs.Prelude.{pos, [], None}
use Rattle.cs_crontab.specs.Crontab as crontab
use Rattle.cs_anacrontab.specs.Anacrontab as anacrontab
use Rattle.cs_zone.specs.Zone.{no_zone}
use Rattle.cs_plan.specs.Plan.{Declared}

abbrev pub no_plan : Declared
no_plan = record {
  crontab = crontab.no_lines;
  anacrontab = anacrontab.no_lines;
  jobs = [];
  groups = [];
  capacity = 1;
  hours = record { from = 0; to = 1 };
  pass = None;
  offset = pos 0;
  zone = no_zone;
  clocks = None;
  left_out = [];
  defaulted = 0;
  guessed = 0;
  untimed = None;
  doubled = None;
}
