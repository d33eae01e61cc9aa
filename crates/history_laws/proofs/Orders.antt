-- The events of a history have links and a least schedule.
use Rattle.std.proofs.Common.{ℕ, List, ◌⊎◌, inl, inr}
use Rattle.interleavings.specs.declared.traces.Place.{Place}
use Rattle.interleavings.specs.History.{Step}
use Rattle.interleavings.specs.TraceLists.{TraceLists}
use Rattle.linkage.specs.declared.link_error.LinkError.{LinkError}
use Rattle.linkage.specs.Answers.{IsWhole}
use Rattle.linkage.specs.Laws.{LinksOrRefusal}
use Rattle.linkage.specs.Refusals.{IsFirstRefusal}
use Rattle.event_order.specs.Cycles.{IsCycle, IsTheCycle}
use Rattle.event_order.specs.DirectOrder.{LinkRows}
use Rattle.event_order.specs.Laws.{LeastOrCycle}
use Rattle.event_order.specs.Least.{IsLeast}
use Rattle.history_laws.specs.HistoryEvents.{AreEventsOf}
use Rattle.history_laws.specs.Laws.{HistoriesAreLinked, HistoriesAreOrdered, HistoriesHaveOrders}

module _ (is_linked : HistoriesAreLinked) (is_ordered : HistoriesAreOrdered) (steps : List Step) (traces : TraceLists) (are : AreEventsOf steps traces) where
  links_there : ((links : LinkRows) × IsWhole traces links) ⊎ ((refusal : LinkError) × IsFirstRefusal traces refusal) → (links : LinkRows) × IsWhole traces links
  links_there (inl links) = links
  links_there (inr refusal) = absurd (is_linked steps traces are refusal.0 refusal.1.refused)

  least_there : (links : LinkRows) → IsWhole traces links → ((schedule : List ℕ) × IsLeast traces links schedule) ⊎ ((cycle : List Place) × IsTheCycle traces links cycle × IsCycle traces links cycle) → (schedule : List ℕ) × IsLeast traces links schedule
  least_there links whole (inl least) = least
  least_there links whole (inr cycle) = absurd (is_ordered steps traces links are whole.linked cycle.0 cycle.2)

-- of the events of any history
pub histories-have-orders : HistoriesAreLinked → HistoriesAreOrdered → LinksOrRefusal → LeastOrCycle → HistoriesHaveOrders
histories-have-orders is_linked is_ordered link order steps traces are =
    let links = links_there is_linked is_ordered steps traces are (link traces) in
    (links.0, links.1, least_there is_linked is_ordered steps traces are links.0 links.1 (order traces links.0 links.1.linked))
