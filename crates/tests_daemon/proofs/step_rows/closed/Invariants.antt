use Rattle.tests_daemon.proofs.step_rows.closed.Given as goal

abbrev pub ghosts-close_keep : goal.ghosts-close_keep
ghosts-close_keep g a = record { name = a.blank.name; parts = a.blank.parts }
