use Rattle.linked_rows.proofs.drawn_orders.arranged_of.Given as goal

-- the ledger of the blank that is made here
abbrev pub ghosts-arranged_by : goal.ghosts-arranged_by
ghosts-arranged_by g a = record { name = a.blank.name; parts = a.blank.parts }
