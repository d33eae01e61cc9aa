-- The report of a run, by its results. Only private clauses cite this module.
use Rattle.std.specs.Prelude.{ℕ, List, ◌∷◌, ◌++◌, codes}
use Rattle.replayer.specs.Replays.{Results}
use Rattle.stride_cli.specs.Reports.{ends_section}

-- the sections of a run's transcript and ends
abbrev pub run_section : Results → List ℕ
run_section results = (codes "transcript" ++ (10 ∷ results.transcript)) ++ ends_section results.ends
