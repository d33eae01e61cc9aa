use Rattle.live_rows.proofs.session_rows.replayed.Given as goal

-- the ledger of the blank that is made here
abbrev pub ghosts-replayed_by : goal.ghosts-replayed_by
ghosts-replayed_by g a = record { name = a.blank.name; parts = a.blank.parts }
