use Rattle.std.proofs.Common.{ℕ, List, []}
use Rattle.interleavings.specs.CoreShows.{ShowsState, HasSameShape}
use Rattle.interleavings.specs.History.{after}
use Rattle.interleavings.proofs.Begins.{drawn_by}
use Rattle.interleavings.proofs.simulation_start.draw_names.Given as goal

-- the threads so far have drawn
abbrev pub invariant-loop-who : goal.invariant-loop-who
invariant-loop-who l = HasSameShape l.fn.core l.core × ((starts : List ℕ) → ShowsState l.fn.core (after starts []) → ShowsState l.core (drawn_by starts l.who))
