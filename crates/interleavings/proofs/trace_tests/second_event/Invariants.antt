use Rattle.interleavings.proofs.trace_tests.second_event.Given as goal

-- the ledger of the blank that is made here
abbrev pub ghosts-second_event_by : goal.ghosts-second_event_by
ghosts-second_event_by g a = record { name = a.blank.name; parts = a.blank.parts }
