use Rattle.stride_base.proofs.tests.triples_are_sorted_and_looks_counted.Given as goal

abbrev pub ghosts-look_at_four : goal.ghosts-look_at_four
ghosts-look_at_four g a = record { name = a.blank.name; parts = a.blank.parts }
