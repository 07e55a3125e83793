use Rattle.tests_waiting.proofs.queue.the_first_that_is_ready_comes_first.Given as goal

abbrev pub ghosts-first : goal.ghosts-first
ghosts-first g a = record { name = a.blank.name; parts = a.blank.parts }
