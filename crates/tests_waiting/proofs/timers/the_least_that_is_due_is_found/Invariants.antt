use Rattle.tests_waiting.proofs.timers.the_least_that_is_due_is_found.Given as goal

abbrev pub ghosts-least : goal.ghosts-least
ghosts-least g a = record { name = a.blank.name; parts = a.blank.parts }
