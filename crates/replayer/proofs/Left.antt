-- What a table leaves that shows the machine after a schedule.
use Rattle.std.proofs.Common.{◌≡◌, ℕ, zero, suc, ◌+◌, ◌<◌, List, [], ◌∷◌, ◌++◌, map, refl, sym, ◌∙◌, ap, ap₂, subst, slice_index, arith, Some}
use Rattle.std.proofs.lemmas.List.FromFn.{map-range_with_len_more}
use Rattle.std.specs.List.{range_with_len}
use Rattle.stride_isa.specs.Listing.{Listing, cell_count}
use Rattle.sc_machine.specs.declared.end.End.{End}
use Rattle.sc_machine.specs.Laws.{MadeAlongTurns}
use Rattle.sc_machine.specs.Schedule.{finished, ready, stopped, turns}
use Rattle.sc_machine.specs.ThreadStep.{Thread, end_of}
use Rattle.replayer.specs.declared.table.Table.{Table}
use Rattle.replayer.specs.Players.{outputs_of, thread_of}
use Rattle.replayer.specs.Replays.{IsRunOf, Results}
use Rattle.replayer.specs.Schedules.{PlayedTo}

-- a thread that is given an end has the end that it is said to have
ends_stay : (threads : List Thread) → map end_of (map stopped threads) ≡ map end_of threads
ends_stay [] = refl
ends_stay (s ∷ threads) = ap (λ es. end_of s ∷ es) (ends_stay threads)

-- and what it printed
outputs_stay : (threads : List Thread) → map (λ (s : Thread). s.out) (map stopped threads) ≡ map (λ (s : Thread). s.out) threads
outputs_stay [] = refl
outputs_stay (s ∷ threads) = ap (λ outs. s.out ∷ outs) (outputs_stay threads)

-- results with the same parts are the same
same_results : {transcript transcript' : List ℕ} {outs outs' : List (List ℕ)} {es es' : List End} {values values' : List ℕ} → transcript ≡ transcript' → outs ≡ outs' → es ≡ es' → values ≡ values' → ◌≡◌ {A = Results} (record { transcript = transcript; outputs = outs; ends = es; last_values = values }) (record { transcript = transcript'; outputs = outs'; ends = es'; last_values = values' })
same_results lines outputs_are ends_are values_are = cc

-- functions that agree below a number list the same values up to it
same_values : (f g : ℕ → ℕ) (n : ℕ) → ((k : ℕ) → k < n → f k ≡ g k) → map f (range_with_len 0 n) ≡ map g (range_with_len 0 n)
same_values f g zero same = refl
same_values f g (suc n) same =
    let more : suc n ≡ n + 1 = omega arith in
    let place : 0 + n ≡ n = omega arith in
    let last : f n ≡ g n = same n (omega arith) in
    let before = same_values f g n (λ k h. same k (omega arith)) in
    ap (λ m. map f (range_with_len 0 m)) more
    ∙ (map-range_with_len_more f 0 n n place
    ∙ (ap₂ (λ (xs : List ℕ) (x : ℕ). xs ++ x ∷ []) before last
    ∙ (sym (map-range_with_len_more g 0 n n place) ∙ ap (λ m. map g (range_with_len 0 m)) (sym more))))

-- the results of a table that shows the machine after the turns of the schedule
pub left_is : MadeAlongTurns → (p : Listing) (fuel : ℕ) (schedule : List ℕ) (first last : Table) (outs : List (List ℕ)) (es : List End) (values : List ℕ) → first.program.now ≡ p → first.fuel ≡ fuel → PlayedTo first last schedule → outs ≡ outputs_of last.players.items → es ≡ map end_of (map thread_of last.players.items) → values ≡ map (λ cell. slice_index last.cells cell) (range_with_len 0 (cell_count p.decls)) → IsRunOf p fuel schedule (record { transcript = last.transcript.items; outputs = outs; ends = es; last_values = values })
left_is makes p fuel schedule first last outs es values program fuel_is end printed ended valued =
    let reached : turns p fuel schedule (ready p fuel) ≡ Some end.machine =
    ap₂ (λ (q : Listing) (f : ℕ). turns q f schedule (ready q f)) (sym program) (sym fuel_is) ∙ end.reached in
    let made = makes p fuel schedule end.machine reached in
    let cells : (k : ℕ) → k < cell_count p.decls → slice_index last.cells k ≡ end.machine.cells k =
    λ k h. end.shows.cells k (subst (λ (q : Listing). k < cell_count q.decls) (sym (ap (λ r. r.now) end.game.program ∙ program)) h) in
    record {
      machine = finished end.machine;
      runs = made.1;
      whole = made.0;
      shows = same_results
          end.shows.transcript
          (printed ∙ (ap (map (λ (s : Thread). s.out)) (sym end.shows.threads) ∙ sym (outputs_stay end.machine.threads)))
          (ended ∙ (ap (map end_of) (sym end.shows.threads) ∙ sym (ends_stay end.machine.threads)))
          (valued ∙ same_values (λ cell. slice_index last.cells cell) end.machine.cells (cell_count p.decls) cells);
    }
