use Rattle.worked_rows.proofs.rows.outcome_of.Given as goal

-- the ledger of each row's blank
abbrev pub ghosts-outcome_by : goal.ghosts-outcome_by
ghosts-outcome_by g a = record { name = a.blank.name; parts = a.blank.parts }
