-- What a program, a fuel and logs come to: where a thread diverges from its log, why its events can't be linked or have no
-- order, or the links of all reads with the schedule of all events.
use Rattle.std.specs.Prelude.{◌≡◌, ℕ, List, Result, Ok, Err}
use Rattle.stride_isa.specs.Listing.{Listing}
use Rattle.interleavings.specs.declared.event.LogEntry.{LogEntry}
use Rattle.interleavings.specs.declared.traces.Place.{Place}
use Rattle.interleavings.specs.Following.{Divergence, Followed, follow_all}
use Rattle.interleavings.specs.TraceLists.{TraceLists}
use Rattle.linkage.specs.Answers.{IsWhole}
use Rattle.linkage.specs.Refusals.{IsFirstRefusal}
use Rattle.linkage.specs.declared.link_error.LinkError.{LinkError}
use Rattle.event_order.specs.Cycles.{IsTheCycle}
use Rattle.event_order.specs.DirectOrder.{LinkRows}
use Rattle.event_order.specs.Laws.{traces_of}
use Rattle.event_order.specs.Least.{IsLeast}

-- the links of all reads, and the schedule of all events
pub record Inferred : Type 0 where
  pub links : LinkRows
  pub schedule : List ℕ

-- what logs come to: a thread diverges from its log, events can't be linked, their direct order has a cycle, or they have links
-- and a schedule
pub data Inference : Type 0 where
  Diverging : Divergence → Inference
  Unlinked : LinkError → Inference
  Circular : List Place → Inference
  Ordered : Inferred → Inference

-- what events come to: the first refusal of their links, the cycle that is told, or their links and the least schedule
abbrev pub IsInferredOf : TraceLists → Inference → Type 0
IsInferredOf traces (Diverging divergence) = ⊥
IsInferredOf traces (Unlinked refusal) = IsFirstRefusal traces refusal
IsInferredOf traces (Circular cycle) = (links : LinkRows) × (IsWhole traces links × IsTheCycle traces links cycle)
IsInferredOf traces (Ordered inferred) = IsWhole traces inferred.links × IsLeast traces inferred.links inferred.schedule

-- the schedule is the least of the events by their links
abbrev pub SchedulesEvents : TraceLists → List ℕ → Type 0
SchedulesEvents traces schedule = (links : LinkRows) × IsInferredOf traces (Ordered (record { links = links; schedule = schedule }))

-- what threads that were followed come to, or where the least one that does diverges
abbrev pub IsInferredBy : Listing → Result (List Followed) Divergence → Inference → Type 0
IsInferredBy p (Err divergence) inference = inference ≡ Diverging divergence
IsInferredBy p (Ok all) inference = IsInferredOf (traces_of p all) inference

-- what the program with this fuel and these logs comes to
abbrev pub IsInferred : Listing → ℕ → List (List LogEntry) → Inference → Type 0
IsInferred p fuel logs inference = IsInferredBy p (follow_all p fuel logs) inference
