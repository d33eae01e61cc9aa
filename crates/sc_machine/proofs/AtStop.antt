-- The turn of a thread that stands.
use borrow.Author.Tests.{lt-ltb}
use Rattle.std.proofs.Common.{◌≡◌, ℕ, ◌<◌, ◌&&◌, List, ◌++◌, length, ◌∙◌, ap}
use Rattle.std.proofs.lemmas.List.{get_or-set_same, set-set}
use Rattle.stride_isa.specs.Listing.{Listing}
use Rattle.sc_machine.specs.declared.stop.Stop.{Stop}
use Rattle.sc_machine.specs.ThreadStep.{Thread, Stands, start_thread, now, settled, answered}
use Rattle.sc_machine.specs.Machine.{Machine, thread_at, may_make, may_pass, can, word_read, cells_after, holders_after, answered_at, with_thread, stepped_by, sc_step}
use Rattle.sc_machine.specs.Schedule.{settled_lines, settle, turn, turned}

-- a thread that stands is enabled where it may pass the stop
pub can-standing : (p : Listing) (t : ℕ) (stop : Stop) (m : Machine) → t < length m.threads → now p t (thread_at m t) ≡ Stands stop → can p t m ≡ may_pass t stop m.holders
can-standing p t stop m there stands =
    ap (λ b. b && may_make t (now p t (thread_at m t)) m.holders) (lt-ltb t (length m.threads) there)
    ∙ ap (λ r. may_make t r m.holders) stands

-- the turn of a thread that stands, as one equation by its stop
pub turn-standing : (p : Listing) (fuel t : ℕ) (stop : Stop) (m : Machine) → t < length m.threads → now p t (thread_at m t) ≡ Stands stop → turn p fuel t m ≡ turned p fuel t stop m
unfolding turn settle turned sc_step
turn-standing p fuel t stop m there stands =
    let s = answered p fuel t (word_read stop m.cells) (thread_at m t) in
    let m' = answered_at p fuel t stop m in
    let made : List Thread → Machine = λ threads. record { threads = threads; cells = cells_after stop m.cells; holders = holders_after t stop m.holders; transcript = m.transcript ++ settled_lines p fuel t s } in
    ap (λ r. settle p fuel t (stepped_by p fuel t r m)) stands
    ∙ ap (λ x. with_thread t (settled p fuel t x) (settled_lines p fuel t x) m') (get_or-set_same m.threads t s start_thread there)
    ∙ ap made (set-set m.threads t s (settled p fuel t s))
