use Rattle.tests_daemon.proofs.step_rows.minutes_are_counted.Given as goal

abbrev pub ghosts-count_minutes : goal.ghosts-count_minutes
ghosts-count_minutes g a = record { name = a.blank.name; parts = a.blank.parts }
