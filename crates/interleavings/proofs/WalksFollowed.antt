-- A thread that goes from event to event is followed through these events by their log.
use Rattle.std.proofs.Common.{◌≡◌, ℕ, ◌+◌, List, [], Ok, refl, arith}
use Rattle.stride_isa.specs.Listing.{Listing}
use Rattle.sc_machine.specs.ThreadStep.{Thread, start_thread, settled}
use Rattle.sc_machine.specs.Schedule.{stopped}
use Rattle.interleavings.specs.declared.event.Event.{Event}
use Rattle.interleavings.specs.Events.{log_of}
use Rattle.interleavings.specs.Following.{follow, no_turns}
use Rattle.interleavings.specs.Laws.{IsWalk}
use Rattle.interleavings.proofs.MachineLaws.{MachineLaws, start-alive}
use Rattle.interleavings.proofs.Walks.{walks_followed}

pub walk-followed : MachineLaws → (p : Listing) (fuel t : ℕ) (es : List Event) (last : Thread) → IsWalk p fuel t es last → follow p fuel t (log_of es) ≡ Ok (record { events = es; thread = stopped last })
unfolding follow
walk-followed laws p fuel t es last walk = walks_followed laws p fuel t (log_of es) (fuel + 1) [] es no_turns (settled p fuel t start_thread) last refl (start-alive laws p fuel t) (omega arith) walk.inside walk.walks
