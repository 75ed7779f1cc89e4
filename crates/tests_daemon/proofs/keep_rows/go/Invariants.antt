use Rattle.tests_daemon.proofs.keep_rows.go.Given as goal

abbrev pub ghosts-open_and_go : goal.ghosts-open_and_go
ghosts-open_and_go g a = record { name = a.blank.name; parts = a.blank.parts }
