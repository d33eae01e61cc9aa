-- What contracts see of a replay.
use Rattle.std.specs.Prelude.{◌≡◌, ℕ, List, map, Some, None, Result, Ok, Err}
use Rattle.stride_isa.specs.Listing.{Listing}
use Rattle.sc_machine.specs.declared.end.End.{End}
use Rattle.sc_machine.specs.Machine.{Machine}
use Rattle.sc_machine.specs.Schedule.{ends, last_values, outputs, refused_place, replayed}
use Rattle.sc_machine.specs.Transcript.{transcript_bytes}
use Rattle.replayer.specs.declared.replay_error.ReplayError.{ReplayError}
use Rattle.replayer.specs.declared.replay_error.ReplayError.TheVariants.{NotEnabled, NoMemory}
use Rattle.replayer.specs.declared.results.Replay.{Replay}

-- the bytes of the transcript, what each thread printed, how each ended, and the value of each cell
pub record Results : Type 0 where
  pub transcript : List ℕ
  pub outputs : List (List ℕ)
  pub ends : List End
  pub last_values : List ℕ

-- a replay without where it lies in memory
abbrev pub seen : Replay → Results
seen r = record { transcript = r.transcript.items; outputs = map (λ out. out.items) r.outputs.items; ends = r.ends.items; last_values = r.last_values.items }

-- what a finished machine leaves
abbrev pub results_of : Listing → Machine → Results
results_of p m = record { transcript = transcript_bytes m.transcript; outputs = outputs m; ends = ends m; last_values = last_values p m }

-- the list is a schedule of the program, and these are the results of its run
pub record IsRunOf (p : Listing) (fuel : ℕ) (schedule : List ℕ) (results : Results) : Type 0 where
  pub machine : Machine
  pub runs : replayed p fuel schedule ≡ Some machine
  pub whole : refused_place p fuel schedule ≡ None
  pub shows : results ≡ results_of p machine

-- the list is no schedule of the program, and this is the place of its first member that can take no turn
pub record IsRefusedAt (p : Listing) (fuel : ℕ) (schedule : List ℕ) (place : ℕ) : Type 0 where
  pub first : refused_place p fuel schedule ≡ Some place
  pub no_run : replayed p fuel schedule ≡ None

-- the answer is the run of the list, or its first member that can take no turn; want of memory says nothing
abbrev pub IsAnswer : Listing → ℕ → List ℕ → Result Replay ReplayError → Type 0
IsAnswer p fuel schedule (Ok replay) = IsRunOf p fuel schedule (seen replay)
IsAnswer p fuel schedule (Err (NotEnabled place)) = IsRefusedAt p fuel schedule place
IsAnswer p fuel schedule (Err NoMemory) = Unit {0}
