-- The threads of a program that are played by a schedule. Only private clauses cite this module.
use Rattle.std.specs.Prelude.{◌≡◌, ℕ, List, ◌++◌, Option, length, map}
use Rattle.std.specs.List.{range_with_len}
use Rattle.stride_isa.specs.Listing.{Listing}
use Rattle.sc_machine.specs.StandingThread.{IsThreadOf, Standing, started_at, stop_here}
use Rattle.sc_machine.specs.ThreadStep.{Stands, Thread, now}
use Rattle.sc_machine.specs.Transcript.{transcript_bytes}
use Rattle.sc_machine.specs.TurnsInARow.{TookTurns, beside, lines_by}
use Rattle.replayer.specs.declared.player.Player.{Player}

-- the thread that a player plays
abbrev pub thread_of : Player → Thread
thread_of player = player.thread.state

-- what each player's thread printed
abbrev pub outputs_of : List Player → List (List ℕ)
outputs_of players = map (λ (s : Thread). s.out) (map thread_of players)

-- these are the players of the first threads, each after its local start
abbrev pub ArePlayers : Listing → ℕ → ℕ → List Player → Type 0
ArePlayers p fuel count players = map (λ player. player.thread) players ≡ map (started_at p fuel) (range_with_len 0 count)

-- the thread, which stood, took turns in a row over the cells and the holders, and what it printed on the way was added to
-- the transcript
pub record WentTurns (old new : Standing) (limit taken : ℕ) (cells cells' : List ℕ) (holders holders' : List (Option ℕ)) (lines lines' : List ℕ) : Type 0 where
  pub stood : now old.program old.number old.state ≡ Stands (stop_here old)
  pub turns : TookTurns old.program old.fuel old.number limit taken (beside cells holders old.state) (beside cells' holders' new.state)
  pub same : IsThreadOf old.program old.fuel old.number new
  pub long : length cells' ≡ length cells
  pub monitors : length holders' ≡ length holders
  pub printed : lines' ≡ lines ++ transcript_bytes (lines_by old.program old.fuel old.number taken (beside cells holders old.state))
