use Rattle.linked_rows.proofs.setting.outcome_of.Given as goal

-- the ledger of the blank that is made here
abbrev pub ghosts-linked_by : goal.ghosts-linked_by
ghosts-linked_by g a = record { name = a.blank.name; parts = a.blank.parts }
