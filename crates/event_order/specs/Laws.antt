-- What holds of the direct order, whatever the program and the logs are.
use Rattle.std.specs.Prelude.{◌≡◌, ℕ, ◌≤◌, ◌⊎◌, List, length, map, Ok, Some}
use Rattle.stride_isa.specs.Listing.{Listing, starts_of}
use Rattle.stride_isa.specs.Validity.{IsValid}
use Rattle.sc_machine.specs.Machine.{Machine}
use Rattle.sc_machine.specs.Schedule.{replayed}
use Rattle.interleavings.specs.declared.event.Event.{Event}
use Rattle.interleavings.specs.declared.event.LogEntry.{LogEntry}
use Rattle.interleavings.specs.declared.traces.Place.{Place}
use Rattle.interleavings.specs.Following.{Followed, follow_all}
use Rattle.interleavings.specs.RunEvents.{plain, run_events}
use Rattle.interleavings.specs.TraceLists.{TraceLists, events_of, IsInRange}
use Rattle.linkage.specs.declared.link_error.LinkError.{LinkError}
use Rattle.linkage.specs.Links.{IsLinked}
use Rattle.linkage.specs.Refusals.{IsRefused}
use Rattle.linkage.specs.Sources.{event_at, event_count}
use Rattle.event_order.specs.Cycles.{AtMost, IsCycle, IsLeft, IsTheCycle, StepsBack}
use Rattle.event_order.specs.DirectOrder.{LinkRows}
use Rattle.event_order.specs.Extensions.{IsExtension, schedule_of}
use Rattle.event_order.specs.Following.{IsFollowed}
use Rattle.event_order.specs.Least.{IsLeast}

-- the events of threads that were run again, with the program's starting values and the number of its monitors
abbrev pub traces_of : Listing → List Followed → TraceLists
traces_of p all = record { events = map (λ (f : Followed). f.events) all; starts = starts_of p.decls; monitors = length p.monitors }

-- each event is of a cell or a monitor that is there
abbrev pub AreInRange : TraceLists → Type 0
AreInRange traces = (place : Place) (event : Event) → event_at traces place ≡ Some event → IsInRange traces event

-- the schedule is one of the program, its run leaves each thread as following left it, and each thread makes exactly its
-- followed events in it
pub record RunsAsFollowed (p : Listing) (fuel : ℕ) (all : List Followed) (schedule : List ℕ) : Type 0 where
  pub machine : Machine
  pub runs : replayed p fuel schedule ≡ Some machine
  pub threads : machine.threads ≡ map (λ (f : Followed). f.thread) all
  pub events : (t : ℕ) → run_events p fuel schedule t ≡ map plain (events_of (traces_of p all) t)

-- any extension of the direct order is a run of a valid program's threads that were followed, where nothing about their links is
-- refused
abbrev pub ExtensionsAreRuns : Type 0
ExtensionsAreRuns = (p : Listing) (fuel : ℕ) (logs : List (List LogEntry)) (all : List Followed) (links : LinkRows) (places : List Place) → IsValid p → 1 ≤ fuel → follow_all p fuel logs ≡ Ok all → ((refusal : LinkError) → IsRefused (traces_of p all) refusal → ⊥) → IsLinked (traces_of p all) links → IsExtension (traces_of p all) links places → RunsAsFollowed p fuel all (schedule_of places)

-- the events of a valid program's threads that were followed are of cells and monitors that are there
abbrev pub FollowedAreInRange : Type 0
FollowedAreInRange = (p : Listing) (fuel : ℕ) (logs : List (List LogEntry)) (all : List Followed) → IsValid p → 1 ≤ fuel → follow_all p fuel logs ≡ Ok all → AreInRange (traces_of p all)

-- an extension has as many places as there are events
abbrev pub ExtensionsAreWhole : Type 0
ExtensionsAreWhole = (traces : TraceLists) (links : LinkRows) (places : List Place) → IsExtension traces links places → length places ≡ event_count traces

-- a cycle and an extension exclude each other
abbrev pub CyclesExclude : Type 0
CyclesExclude = (traces : TraceLists) (links : LinkRows) (cycle places : List Place) → IsCycle traces links cycle → IsExtension traces links places → ⊥

-- there is one least schedule at most
abbrev pub OneLeast : Type 0
OneLeast = (traces : TraceLists) (links : LinkRows) (one other : List ℕ) → IsLeast traces links one → IsLeast traces links other → one ≡ other

-- there is one cycle at most that is told
abbrev pub OneCycle : Type 0
OneCycle = (traces : TraceLists) (links : LinkRows) (one other : List Place) → IsTheCycle traces links one → IsTheCycle traces links other → one ≡ other

-- of linked events there is the least schedule, or the cycle that is told
abbrev pub LeastOrCycle : Type 0
LeastOrCycle = (traces : TraceLists) (links : LinkRows) → IsLinked traces links → ((schedule : List ℕ) × IsLeast traces links schedule) ⊎ ((cycle : List Place) × IsTheCycle traces links cycle × IsCycle traces links cycle)

-- where steps back are followed from the least event until an event comes a second time, the events between are the cycle that
-- is told
abbrev pub FollowedIsTold : Type 0
FollowedIsTold = (traces : TraceLists) (links : LinkRows) (start : Place) (cycle : List Place) → IsLeft traces links start → ((other : Place) → IsLeft traces links other → AtMost start other) → IsFollowed (StepsBack traces links) start cycle → IsTheCycle traces links cycle
