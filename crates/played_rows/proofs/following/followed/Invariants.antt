use Rattle.played_rows.proofs.following.followed.Given as goal

-- the ledger of each row's blank
abbrev pub ghosts-followed_by : goal.ghosts-followed_by
ghosts-followed_by g a = record { name = a.blank.name; parts = a.blank.parts }
