use Rattle.live_rows.proofs.whole_calls.ending_of.Given as goal

-- the ledger of the blank that is made here
abbrev pub ghosts-ending_by : goal.ghosts-ending_by
ghosts-ending_by g a = record { name = a.blank.name; parts = a.blank.parts }
