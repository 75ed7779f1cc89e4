-- What a daemon reports of a run.
use Rattle.std.specs.Prelude.{ℕ, nat_eq, List, [], Option, option_map, unwrap_or}
use Rattle.std.specs.List.{find, starts_with}
use Rattle.cs_machine.specs.declared.setup.JobNote.{JobNote}

-- the first whose front begins the run's name
abbrev pub note_of : List ℕ → List JobNote → Option JobNote
note_of run jobs = find (λ note. starts_with nat_eq run note.front) jobs

-- the jobs whose runs may meet it if it is late
abbrev pub peers_of : List ℕ → List JobNote → List ℕ
peers_of run jobs = unwrap_or (option_map (λ note. note.peers) (note_of run jobs)) []
