-- What the answer of arranging says.
use Rattle.std.specs.Prelude.{ℕ, ◌+◌, ◌*◌, List, Result, Ok, Err}
use Rattle.stride_base.specs.Listed.{Listed}
use Rattle.interleavings.specs.declared.traces.Place.{Place}
use Rattle.interleavings.specs.TraceLists.{TraceLists}
use Rattle.linkage.specs.Sources.{event_count}
use Rattle.event_order.specs.Cycles.{IsCycle, IsTheCycle}
use Rattle.event_order.specs.DirectOrder.{LinkRows}
use Rattle.event_order.specs.Least.{IsLeast}
use Rattle.event_order.specs.declared.order_error.OrderError.{OrderError}
use Rattle.event_order.specs.declared.order_error.OrderError.TheVariants.{Cycle, NoMemory}

-- the least schedule where there is no cycle, or the one cycle that is told; want of memory is free
abbrev pub IsAnswer : TraceLists → LinkRows → Result (Listed ℕ) OrderError → Type 0
IsAnswer traces links (Ok order) = IsLeast traces links order.items × ((places : List Place) → IsCycle traces links places → ⊥)
IsAnswer traces links (Err (Cycle places)) = IsTheCycle traces links places.items × IsCycle traces links places.items
IsAnswer traces links (Err NoMemory) = Unit {0}

-- how many looks at events and links arranging takes at most
abbrev pub most_looks : TraceLists → ℕ
most_looks traces = 32 * (event_count traces + 1)
