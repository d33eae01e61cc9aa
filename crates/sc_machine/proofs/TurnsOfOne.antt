-- Turns of one thread in a row are turns of the machine.
use Rattle.std.proofs.Common.{◌≡◌, ℕ, zero, suc, ◌+◌, ◌<◌, ◌++◌, ◌∙◌, true, false, cond, List, [], ◌∷◌, length, refl, sym, ap, set, get_or, Some, None, append_assoc, append-nil, arith}
use Rattle.std.specs.Option.{option_and_then}
use Rattle.std.proofs.lemmas.List.{get_or-set_same, length-set, replicate_more, set-get_or, set-set}
use Rattle.std.proofs.Math.ListN.{replicate}
use Rattle.stride_isa.specs.Listing.{Listing}
use Rattle.sc_machine.specs.declared.stop.Stop.{Stop}
use Rattle.sc_machine.specs.Laws.{AfterTurns, ShownIn}
use Rattle.sc_machine.specs.Machine.{Machine, can, thread_at, word_read}
use Rattle.sc_machine.specs.Schedule.{settled_lines, turn, turned, turns}
use Rattle.sc_machine.specs.ThreadStep.{Stands, Thread, answered, now, settled, start_thread, stop_of}
use Rattle.sc_machine.specs.TurnsInARow.{Passes, Stays, TakesTurn, WithShared, answered_in, lines_by, turns_by, word_in}
use Rattle.sc_machine.proofs.AtStop.{can-standing, turn-standing}
use Rattle.sc_machine.proofs.Refusals.{turns-append}
use Rattle.sc_machine.proofs.SharedRows.{RowsShow, cells_long, cells_shown, holders_long, holders_shown, may_shown, word_shown}
use Rattle.sc_machine.proofs.Standing.{answered-has_fuel, settled-stands}

-- one more turn of a thread that is enabled
one_more : (p : Listing) (fuel t n : ℕ) (m after : Machine) → turns p fuel (replicate n t) m ≡ Some after → can p t after ≡ true → turns p fuel (replicate (suc n) t) m ≡ Some (turn p fuel t after)
unfolding turns
one_more p fuel t n m after made enabled =
    let next : n + 1 ≡ suc n = omega arith in
    let more : replicate (suc n) t ≡ replicate n t ++ t ∷ [] = sym (replicate_more n t ∙ ap (λ k. replicate k t) next) in
    ap (λ ts. turns p fuel ts m) more
    ∙ turns-append p fuel (replicate n t) (t ∷ []) m
    ∙ ap (λ o. option_and_then (turns p fuel (t ∷ [])) o) made
    ∙ ap (λ b. cond b (Some (turn p fuel t after)) None) enabled

-- the thread stands after each turn
standing_by : (p : Listing) (fuel t n : ℕ) (s : WithShared) → now p t s.thread ≡ Stands (stop_of p t s.thread) → now p t (turns_by p fuel t n s).thread ≡ Stands (stop_of p t (turns_by p fuel t n s).thread)
unfolding turns_by
standing_by p fuel t zero s stands = stands
standing_by p fuel t (suc n) s stands =
    let last = turns_by p fuel t n s in
    let stop = stop_of p t last.thread in
    settled-stands p fuel t (answered_in p fuel t stop last) (answered-has_fuel p fuel t (word_in stop last.cells) last.thread)

-- turns of the machine that come to the same as those of the thread
pub record Reaches (p : Listing) (fuel t n : ℕ) (s : WithShared) (m : Machine) : Type 0 where
  pub machine : Machine
  pub reached : turns p fuel (replicate n t) m ≡ Some machine
  pub threads : machine.threads ≡ set m.threads t (turns_by p fuel t n s).thread
  pub rows : RowsShow p (turns_by p fuel t n s).cells (turns_by p fuel t n s).holders machine
  pub transcript : machine.transcript ≡ m.transcript ++ lines_by p fuel t n s

module _ (p : Listing) (fuel t n : ℕ) (s : WithShared) (m : Machine) (shown : ShownIn p t s m) (far : Reaches p fuel t n s m) where
  abbrev last : WithShared
  last = turns_by p fuel t n s

  abbrev stop : Stop
  stop = stop_of p t last.thread

  abbrev reached : Machine
  reached = far.machine

  there : t < length reached.threads
  there = omega (arith, shown.there, ap length far.threads, length-set m.threads t last.thread)

  here : thread_at reached t ≡ last.thread
  here = ap (λ (threads : List Thread). get_or threads t start_thread) far.threads ∙ get_or-set_same m.threads t last.thread start_thread shown.there

  stands_there : now p t (thread_at reached t) ≡ Stands stop
  stands_there = ap (now p t) here ∙ standing_by p fuel t n s shown.stands

  -- where it may not go on it is not enabled
  pub not_enabled : Stays p t stop last.holders → can p t reached ≡ false
  not_enabled stays =
      can-standing p t stop reached there stands_there
      ∙ sym (may_shown p last.cells last.holders reached far.rows t stop stays.named)
      ∙ stays.may_not

  -- a turn more
  module _ (takes : Passes p t stop last.holders) where
    enabled : can p t reached ≡ true
    enabled =
        can-standing p t stop reached there stands_there
        ∙ sym (may_shown p last.cells last.holders reached far.rows t stop takes.named)
        ∙ takes.may

    answer : answered p fuel t (word_read stop reached.cells) (thread_at reached t) ≡ answered_in p fuel t stop last
    answer =
        ap (λ w. answered p fuel t w (thread_at reached t)) (sym (word_shown p last.cells last.holders reached far.rows stop takes.named))
        ∙ ap (λ x. answered p fuel t (word_in stop last.cells) x) here

    pub one_more_reached : Reaches p fuel t (suc n) s m
    unfolding turned turns_by lines_by
    one_more_reached =
        let met = answered p fuel t (word_read stop reached.cells) (thread_at reached t) in
        record {
          machine = turned p fuel t stop reached;
          reached = one_more p fuel t n m reached far.reached enabled ∙ ap Some (turn-standing p fuel t stop reached there stands_there);
          threads = ap (λ xs. set xs t (settled p fuel t met)) far.threads
              ∙ set-set m.threads t last.thread (settled p fuel t met)
              ∙ ap (λ x. set m.threads t (settled p fuel t x)) answer;
          rows = record {
            room = omega (arith, far.rows.room, cells_long stop last.cells);
            cells_are = λ k lt. cells_shown p last.cells last.holders reached far.rows stop takes.named k lt;
            monitors = holders_long t stop last.holders ∙ far.rows.monitors;
            holders_are = λ k lt. holders_shown p last.cells last.holders reached far.rows t stop takes.named k lt;
          };
          transcript = ap (λ xs. xs ++ settled_lines p fuel t met) far.transcript
              ∙ append_assoc m.transcript (lines_by p fuel t n s) (settled_lines p fuel t met)
              ∙ ap (λ x. m.transcript ++ (lines_by p fuel t n s ++ settled_lines p fuel t x)) answer;
        }

reaches : (p : Listing) (fuel t n : ℕ) (s : WithShared) (m : Machine) → ShownIn p t s m → ((k : ℕ) → k < n → TakesTurn p t (turns_by p fuel t k s)) → Reaches p fuel t n s m
unfolding turns turns_by lines_by
reaches p fuel t zero s m shown each = record {
  machine = m;
  reached = refl;
  threads = sym (ap (λ x. set m.threads t x) shown.thread ∙ set-get_or m.threads t start_thread);
  rows = record { room = shown.room; cells_are = shown.cells; monitors = shown.monitors; holders_are = shown.holders };
  transcript = sym (append-nil m.transcript);
}
reaches p fuel t (suc n) s m shown each =
    one_more_reached p fuel t n s m shown (reaches p fuel t n s m shown (λ k lt. each k (omega (arith, lt)))) (each n (omega arith))

pub turns_taken : (p : Listing) (fuel t n : ℕ) (s : WithShared) (m : Machine) → ShownIn p t s m → ((k : ℕ) → k < n → TakesTurn p t (turns_by p fuel t k s)) → AfterTurns p fuel t n s m
turns_taken p fuel t n s m shown each =
    let far = reaches p fuel t n s m shown each in
    record {
      machine = far.machine;
      reached = far.reached;
      threads = far.threads;
      cells = far.rows.cells_are;
      holders = far.rows.holders_are;
      transcript = far.transcript;
      refused = not_enabled p fuel t n s m shown far;
    }
