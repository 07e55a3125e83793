use Rattle.tests_waiting.proofs.sorted.entries_stand_by_moment_and_then_by_number.Given as goal

abbrev pub ghosts-look : goal.ghosts-look
ghosts-look g a = record { name = a.blank.name; parts = a.blank.parts }
