use Rattle.tests_daemon.proofs.thread_rows.two_threads.Given as goal

abbrev pub ghosts-share_and_sum : goal.ghosts-share_and_sum
ghosts-share_and_sum g a = record { name = a.blank.name; parts = a.blank.parts }
