-- One event of a thread that is run again.
use Rattle.sc_machine.specs.declared.stop.Stop.{Stop}
use Rattle.sc_machine.specs.declared.stop.Stop.TheVariants as stops
use Rattle.sc_machine.specs.ThreadRun.{TakesWord}
use Rattle.interleavings.specs.declared.event.Event.{Event}
use Rattle.interleavings.specs.declared.event.Event.TheVariants as events
use Rattle.interleavings.specs.Events.{word_in}
use Rattle.thread_rerun.specs.Shows.{Suits}

-- an event gives the word that its shared instruction takes
pub suits_takes : (stop : Stop) (event : Event) → Suits stop event → TakesWord stop (word_in event)
suits_takes (stops.Read at) (events.Read cell value bound) suits = tt
suits_takes (stops.Write at word) (events.Write cell value number) suits = tt
suits_takes (stops.Update at change) (events.Update cell old new number) suits = tt
suits_takes (stops.Enter at) (events.Enter monitor turn) suits = tt
suits_takes (stops.Exit at) (events.Exit monitor turn) suits = tt
suits_takes stop event suits = absurd suits
