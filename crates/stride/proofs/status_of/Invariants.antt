use Rattle.stride.proofs.status_of.Given as goal

-- the ledger of the blank that is made here
abbrev pub ghosts-run : goal.ghosts-run
ghosts-run g a = record { name = a.blank.name; parts = a.blank.parts }
