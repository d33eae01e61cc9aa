use Rattle.event_order.proofs.tests.arranged.Given as goal

-- the ledger of the blank that is made here
abbrev pub ghosts-arranged_by : goal.ghosts-arranged_by
ghosts-arranged_by g a = record { name = a.blank.name; parts = a.blank.parts }
