-- The simulation of `drive` beside the run that it shows. Only private clauses cite this module.
use Rattle.std.specs.Prelude.{◌≡◌, ℕ, ◌+◌, ◌<◌, ◌≤◌, List, [], length, map, Option, Some, None}
use Rattle.std.specs.List.{slice_index_or}
use Rattle.stride_isa.specs.Limits.{thread_limit}
use Rattle.stride_isa.specs.Listing.{Listing, cell_count, starts_of}
use Rattle.sc_machine.specs.declared.stop.Stop.{Stop}
use Rattle.sc_machine.specs.StandingThread.{IsThreadOf, Standing}
use Rattle.sc_machine.specs.ThreadRun.{TakesWord}
use Rattle.interleavings.specs.declared.limits.TheConstants.{STEP_LIMIT}
use Rattle.interleavings.specs.declared.activity.OddLooks.{OddLooks}
use Rattle.interleavings.specs.declared.core_state.Core.{Core}
use Rattle.interleavings.specs.declared.event.Event.{Event}
use Rattle.interleavings.specs.declared.simulation.Simulation.{Simulation}
use Rattle.interleavings.specs.Events.{word_in}
use Rattle.interleavings.specs.History.{start_state, after}
use Rattle.interleavings.specs.Recording.{Setting, state_of}
use Rattle.interleavings.specs.Driving.{Drive, thread_after, advance_all, begun, stranger}
use Rattle.interleavings.specs.CoreShows.{ShowsState, HasWholeRow}

-- the event finishes the instruction at the stop
abbrev pub SuitsStop : Stop → Option Event → Type 0
SuitsStop stop None = Unit {0}
SuitsStop stop (Some event) = TakesWord stop (word_in event)

-- a thread after a step of its own
abbrev pub gone_on : Standing → Option Event → ℕ → Option OddLooks → Standing
gone_on s finished patience looks = record s { state = thread_after (record { program = s.program; fuel = s.fuel; patience = patience }) s.number finished looks s.state }

-- the simulation is one of this setting, and shows this run
pub record Shows (g : Setting) (sim : Simulation) (d : Drive) : Type 0 where
  pub program : sim.program.now ≡ g.program
  pub fuel : sim.fuel ≡ g.fuel
  pub patience : sim.patience ≡ g.patience
  pub few : length g.program.threads ≤ thread_limit
  pub count : length sim.threads.items ≡ length g.program.threads
  pub each : (t : ℕ) (thread : Standing) → t < length sim.threads.items → IsThreadOf g.program g.fuel t (slice_index_or sim.threads.items t thread)
  pub threads : d.threads ≡ map (λ (s : Standing). s.state) sim.threads.items
  pub whole : HasWholeRow sim.core
  pub cells : sim.core.layout.cells ≡ cell_count g.program.decls
  pub monitors : sim.core.layout.monitors ≡ length g.program.monitors
  pub people : length sim.core.people.items ≡ length g.program.threads
  pub state : ShowsState sim.core (state_of g d.steps)

-- an order of the program's threads leads to the run
pub record IsReached (g : Setting) (d : Drive) : Type 0 where
  pub order : List ℕ
  pub known : stranger (length g.program.threads) order ≡ None
  pub same : d ≡ advance_all g order (begun g)

-- the simulation shows a run to which an order leads, and that may make n more steps
pub record CanGo (sim : Simulation) (n : ℕ) : Type 0 where
  pub setting : Setting
  pub drive : Drive
  pub reached : IsReached setting drive
  pub shows : Shows setting sim drive
  pub few : length drive.steps + n ≤ STEP_LIMIT

-- the simulation shows what this makes of each run that it showed
abbrev pub Makes : (Setting → Drive → Drive) → Simulation → Simulation → Type 0
Makes f old new = (g : Setting) (d : Drive) → Shows g old d → Shows g new (f g d)

-- the core may let so many threads draw their names
pub record CanDraw (core : Core) (threads : ℕ) : Type 0 where
  pub whole : HasWholeRow core
  pub people : length core.people.items ≡ threads
  pub few : threads ≤ thread_limit
  pub starts : List ℕ
  pub shows : ShowsState core (after starts [])

-- the core at the start of a program
pub record IsStartCore (p : Listing) (core : Core) : Type 0 where
  pub whole : HasWholeRow core
  pub cells : core.layout.cells ≡ cell_count p.decls
  pub monitors : core.layout.monitors ≡ length p.monitors
  pub people : length core.people.items ≡ length p.threads
  pub shows : ShowsState core (start_state (starts_of p.decls))
