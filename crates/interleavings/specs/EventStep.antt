-- How a thread goes on after an event of its own.
use Rattle.std.specs.Prelude.{ℕ}
use Rattle.stride_isa.specs.Listing.{Listing}
use Rattle.sc_machine.specs.ThreadStep.{Thread, settled, answered}
use Rattle.interleavings.specs.declared.event.Event.{Event}
use Rattle.interleavings.specs.Events.{word_given}

-- the thread after an event: the shared instruction at which it stood is answered, and the local ones up to the next shared
-- one or the end are made
abbrev pub after_event : Listing → ℕ → ℕ → Event → Thread → Thread
after_event p fuel t event s = settled p fuel t (answered p fuel t (word_given event) s)
