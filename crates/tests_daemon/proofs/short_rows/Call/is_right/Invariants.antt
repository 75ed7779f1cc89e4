use Rattle.tests_daemon.proofs.short_rows.Call.is_right.Given as goal

abbrev pub ghosts-opening : goal.ghosts-opening
ghosts-opening a = record { name = a.blank.name; parts = a.blank.parts }
