-- Turns at the table are turns of the machine that it shows.
use borrow.Author.Tests.{le-ltb}
use Rattle.std.proofs.Common.{◌≡◌, ℕ, ◌<◌, ◌≤◌, ◌&&◌, ◌∙◌, ◌++◌, List, length, refl, sym, ap, subst, arith, get_or, set, slice_index, Option, Some, None}
use Rattle.std.specs.Vec.{with_item}
use Rattle.std.specs.List.{slice_get, slice_index_or}
use Rattle.std.proofs.lemmas.Option.{get_or_from_slice_get, slice_get_within}
use Rattle.std.proofs.lemmas.List.{get_or-map, length-map, map-set}
use Rattle.stride_base.specs.Listed.{Listed}
use Rattle.stride_isa.specs.Listing.{Listing}
use Rattle.sc_machine.specs.ThreadStep.{Stands, start_thread, now, stop_of}
use Rattle.sc_machine.specs.Laws.{ShownIn, TurnsInARow}
use Rattle.sc_machine.specs.StandingThread.{Standing, IsThreadOf}
use Rattle.sc_machine.specs.Machine.{Machine, may_make, thread_at}
use Rattle.sc_machine.specs.Schedule.{turns}
use Rattle.sc_machine.specs.Transcript.{spelled, transcript_bytes}
use Rattle.sc_machine.specs.TurnsInARow as Row
use Rattle.sc_machine.specs.TurnsInARow.{beside, lines_by, turns_by}
use Rattle.std.proofs.lemmas.Grind.{flat_map-append}
use Rattle.replayer.specs.declared.player.Player.{Player}
use Rattle.replayer.specs.declared.table.Table.{Table}
use Rattle.replayer.specs.Players.{WentTurns, thread_of}
use Rattle.replayer.specs.Tables.{IsTable, Shows, TookTurns}

-- the thread of the machine that a player plays
shown_thread : (table : Table) (m : Machine) (t : ℕ) (d : Player) → Shows table m → t < length table.players.items → d ≡ get_or table.players.items t d → thread_at m t ≡ thread_of d
shown_thread table m t d shows lt e =
    ap (λ threads. get_or threads t start_thread) shows.threads
    ∙ get_or-map thread_of table.players.items t d start_thread lt
    ∙ ap thread_of (sym e)

-- a thread that is not there takes no turn
pub no_turns : (table : Table) (t limit : ℕ) (m : Machine) → length table.players.items ≤ t → Shows table m → TookTurns table table t limit 0 m
unfolding turns
no_turns table t limit m beyond shows =
    let count : length m.threads ≡ length table.players.items = ap length shows.threads ∙ length-map table.players.items thread_of in
    record {
      within = omega arith;
      machine = m;
      reached = refl;
      shows = shows;
      refused = λ lt. ap (λ b. b && may_make t (now table.program.now t (thread_at m t)) m.holders) (le-ltb t (length m.threads) (omega (arith, count, beyond)));
    }

-- a thread of this program took turns in a row, as they are told by the program, the fuel and its number
record WentBy (p : Listing) (fuel t limit taken : ℕ) (old new : Standing) (cells cells' : List ℕ) (holders holders' : List (Option ℕ)) (lines lines' : List ℕ) : Type 0 where
  stood : now p t old.state ≡ Stands (stop_of p t old.state)
  turns : Row.TookTurns p fuel t limit taken (beside cells holders old.state) (beside cells' holders' new.state)
  printed : lines' ≡ lines ++ transcript_bytes (lines_by p fuel t taken (beside cells holders old.state))

went_turns_by : (p : Listing) (fuel t limit taken : ℕ) (old new : Standing) (cells cells' : List ℕ) (holders holders' : List (Option ℕ)) (lines lines' : List ℕ) → IsThreadOf p fuel t old → WentTurns old new limit taken cells cells' holders holders' lines lines' → WentBy p fuel t limit taken old new cells cells' holders holders' lines lines'
went_turns_by p fuel t limit taken old new cells cells' holders holders' lines lines' is went =
    subst (λ (n : ℕ). WentBy p fuel n limit taken old new cells cells' holders holders' lines lines') is.which
    (subst (λ (f : ℕ). WentBy p f old.number limit taken old new cells cells' holders holders' lines lines') is.fuel_is
    (subst (λ (q : Listing). WentBy q old.fuel old.number limit taken old new cells cells' holders holders' lines lines') is.program
    (record { stood = went.stood; turns = went.turns; printed = went.printed })))

-- turns of a player in a row are turns of the machine that the table shows
module _ (law : TurnsInARow) (table : Table) (t limit taken : ℕ) (old new : Player) (cells : List ℕ) (holders : List (Option ℕ)) (transcript : Listed ℕ) (went : WentTurns old.thread new.thread limit taken table.cells cells table.holders holders table.transcript.items transcript.items) (is : IsTable table) (found : slice_get table.players.items t ≡ Some old) where
  abbrev played : Table
  played = record { program = table.program; fuel = table.fuel; players = with_item table.players t new; cells = cells; holders = holders; transcript = transcript }

  abbrev q : Listing
  q = table.program.now

  abbrev begun : Row.WithShared
  begun = beside table.cells table.holders (thread_of old)

  player_there : t < length table.players.items
  player_there = slice_get_within table.players.items t old found

  player_is : old ≡ get_or table.players.items t old
  player_is = sym (get_or_from_slice_get table.players.items t old old found)

  plays : IsThreadOf q table.fuel t old.thread
  plays = subst (λ (player : Player). IsThreadOf q table.fuel t player.thread) (sym player_is) (is.each t old player_there)

  by : WentBy q table.fuel t limit taken old.thread new.thread table.cells cells table.holders holders table.transcript.items transcript.items
  by = went_turns_by q table.fuel t limit taken old.thread new.thread table.cells cells table.holders holders table.transcript.items transcript.items plays went

  shown_in : (m : Machine) → Shows table m → ShownIn q t begun m
  shown_in m shows = record {
    there = omega (arith, player_there, ap length shows.threads, length-map table.players.items thread_of);
    thread = sym (shown_thread table m t old shows player_there player_is);
    stands = by.stood;
    room = is.room;
    cells = shows.cells;
    monitors = is.monitors;
    holders = shows.holders;
  }

  pub turns_shown : (m : Machine) → Shows table m → TookTurns table played t limit taken m
  turns_shown m shows =
      let after = law q table.fuel t taken begun m (shown_in m shows) by.turns.each in
      let thread : (turns_by q table.fuel t taken begun).thread ≡ thread_of new = sym (ap (λ (s : Row.WithShared). s.thread) by.turns.played) in
      record {
        within = by.turns.within;
        machine = after.machine;
        reached = after.reached;
        shows = record {
          threads = after.threads
              ∙ ap (λ s. set m.threads t s) thread
              ∙ ap (λ xs. set xs t (thread_of new)) shows.threads
              ∙ sym (map-set thread_of table.players.items t new);
          cells = λ cell below. ap (λ (s : Row.WithShared). slice_index s.cells cell) by.turns.played ∙ after.cells cell below;
          holders = λ monitor below. ap (λ (s : Row.WithShared). slice_index_or s.holders monitor None) by.turns.played ∙ after.holders monitor below;
          transcript = by.printed
              ∙ ap (λ xs. xs ++ transcript_bytes (lines_by q table.fuel t taken begun)) shows.transcript
              ∙ sym (flat_map-append spelled m.transcript (lines_by q table.fuel t taken begun))
              ∙ ap transcript_bytes (sym after.transcript);
        };
        refused = λ lt. after.refused (subst (λ (s : Row.WithShared). Row.Stays q t (stop_of q t s.thread) s.holders) by.turns.played (by.turns.whole lt));
      }
