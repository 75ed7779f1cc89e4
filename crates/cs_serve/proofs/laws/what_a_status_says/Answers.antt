use Rattle.cs_serve.proofs.Service.{served_clock, served_done, served_events, served_faults, served_full, served_memory}
use Rattle.cs_serve.proofs.laws.what_a_status_says.Goals as goal

pub returns : goal.returns
returns c = record {
  done = served_done;
  full = served_full;
  clock = served_clock;
  memory = served_memory;
  events = served_events;
  faults = served_faults;
}
