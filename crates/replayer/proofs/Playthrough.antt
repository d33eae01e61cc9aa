-- The loop over a schedule.
use Rattle.std.proofs.Common.{◌≡◌, ℕ, zero, suc, ◌+◌, ◌-◌, ◌<◌, ◌≤◌, ◌∙◌, ◌++◌, false, List, [], ◌∷◌, length, take, refl, sym, ap, slice_index, append_assoc, append-nil, arith}
use Rattle.std.specs.Prelude.{option_and_then}
use Rattle.std.proofs.lemmas.List.{replicate_more, take_more}
use Rattle.std.proofs.Math.ListN.{replicate}
use Rattle.sc_machine.specs.Laws.{RefusedAlongTurns, TurnsJoin}
use Rattle.sc_machine.specs.Machine.{Machine, can}
use Rattle.sc_machine.specs.Schedule.{turns, ready}
use Rattle.replayer.specs.declared.table.Table.{Table}
use Rattle.replayer.specs.Replays.{IsRefusedAt}
use Rattle.replayer.specs.Schedules.{IsRow, PlayedTo}
use Rattle.replayer.specs.Tables.{IsTable, Shows, SameGame, TookTurns}

pub nothing_played : (table : Table) → IsTable table → Shows table (ready table.program.now table.fuel) → PlayedTo table table []
unfolding turns
nothing_played table is shows = record { table = is; game = record { program = refl; fuel = refl }; machine = ready table.program.now table.fuel; reached = refl; shows = shows }

-- members in a row that name the same thread, at the end of a front
take_row : (xs : List ℕ) (place n t : ℕ) → place + n ≤ length xs → ((k : ℕ) → k < n → slice_index xs (place + k) ≡ t) → take (place + n) xs ≡ take place xs ++ replicate n t
take_row xs place zero t within alike =
    let none : place + 0 ≡ place = omega arith in
    ap (λ n. take n xs) none ∙ sym (append-nil (take place xs))
take_row xs place (suc n) t within alike =
    let more : place + suc n ≡ place + n + 1 = omega arith in
    let next : n + 1 ≡ suc n = omega arith in
    let front : take (place + n) xs ≡ take place xs ++ replicate n t = take_row xs place n t (omega (arith, within)) (λ k lt. alike k (omega (arith, lt))) in
    ap (λ n. take n xs) more
    ∙ take_more xs (place + n) 0 (omega (arith, within))
    ∙ ap (λ ys. ys ++ slice_index xs (place + n) ∷ []) front
    ∙ ap (λ y. (take place xs ++ replicate n t) ++ y ∷ []) (alike n (omega arith))
    ∙ append_assoc (take place xs) (replicate n t) (t ∷ [])
    ∙ ap (λ ys. take place xs ++ ys) (replicate_more n t ∙ ap (λ k. replicate k t) next)

-- turns in a row, of members that name the same thread
pub row_played : TurnsJoin → (first here next : Table) (schedule : List ℕ) (place end taken : ℕ) → place ≤ end → end ≤ length schedule → IsRow schedule place end → (inv : PlayedTo first here (take place schedule)) → IsTable next → SameGame here next → TookTurns here next (slice_index schedule place) (end - place) taken inv.machine → PlayedTo first next (take (place + taken) schedule)
row_played joins first here next schedule place end taken before within row inv is game took =
    let t : ℕ = slice_index schedule place in
    let begin : Machine = ready first.program.now first.fuel in
    let enough : place + taken ≤ end = omega (arith, took.within) in
    record {
      table = is;
      game = record { program = game.program ∙ inv.game.program; fuel = game.fuel ∙ inv.game.fuel };
      machine = took.machine;
      reached = ap (λ ts. turns first.program.now first.fuel ts begin) (take_row schedule place taken t (omega arith) (λ k lt. row (place + k) (omega arith) (omega (arith, lt))))
          ∙ joins first.program.now first.fuel (take place schedule) (replicate taken t) begin
          ∙ ap (λ o. option_and_then (turns first.program.now first.fuel (replicate taken t)) o) inv.reached
          ∙ sym (ap (λ program. turns program.now first.fuel (replicate taken t) inv.machine) inv.game.program)
          ∙ sym (ap (λ fuel. turns here.program.now fuel (replicate taken t) inv.machine) inv.game.fuel)
          ∙ took.reached;
      shows = took.shows;
    }

-- the first of them that is not enabled
pub row_refused : RefusedAlongTurns → TurnsJoin → (first here next : Table) (schedule : List ℕ) (place end taken : ℕ) → place ≤ end → end ≤ length schedule → IsRow schedule place end → (inv : PlayedTo first here (take place schedule)) → IsTable next → SameGame here next → TookTurns here next (slice_index schedule place) (end - place) taken inv.machine → place + taken < end → IsRefusedAt first.program.now first.fuel schedule (place + taken)
unfolding row_played
row_refused refuses joins first here next schedule place end taken before within row inv is game took short =
    let rest = row_played joins first here next schedule place end taken before within row inv is game took in
    let stuck : can first.program.now (slice_index schedule place) took.machine ≡ false =
    sym (ap (λ program. can program.now (slice_index schedule place) took.machine) inv.game.program) ∙ took.refused (omega (arith, short)) in
    let same = row (place + taken) (omega arith) short in
    let told = refuses first.program.now first.fuel schedule (place + taken) took.machine (omega (arith, within, short)) rest.reached (ap (λ t. can first.program.now t took.machine) same ∙ stuck) in
    record { first = told.0; no_run = told.1 }
