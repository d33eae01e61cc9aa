-- There is the least schedule, or the cycle that is told.
use Rattle.std.proofs.Common.{ℕ, ◌⊎◌, List, Option, Some, None, inl, inr}
use Rattle.interleavings.specs.declared.traces.Place.{Place}
use Rattle.event_order.specs.Backs.{IsLeastOf, Remains}
use Rattle.event_order.specs.Cycles.{IsCycle, IsTheCycle}
use Rattle.event_order.specs.Deeds.{AreDeedsOf}
use Rattle.event_order.specs.Fronts.{done_of}
use Rattle.event_order.specs.Laws.{LeastOrCycle}
use Rattle.event_order.specs.Least.{IsLeast}
use Rattle.event_order.specs.declared.deed.Deed.{Deed}
use Rattle.event_order.proofs.Answering.{least_and_no_cycle, remaining, the_cycle}
use Rattle.event_order.proofs.LeastPlaces.{least_place}
use Rattle.event_order.proofs.Reaching.{reached}
use Rattle.event_order.proofs.Rendering.{deeds_there}
use Rattle.event_order.proofs.Returning.{known_remains, round_there}

-- the least schedule is where nothing remains, and else the cycle
pub least_or_cycle : LeastOrCycle
least_or_cycle traces links linked = let rows = deeds_there traces links linked in of_rows rows.0 rows.1
  where
    of_rows : (rows : List (List Deed)) → AreDeedsOf traces links rows → ((schedule : List ℕ) × IsLeast traces links schedule) ⊎ ((cycle : List Place) × IsTheCycle traces links cycle × IsCycle traces links cycle)
    of_rows rows are =
        let far = reached rows in
        let left = least_place rows (Remains rows (done_of far.done)) (known_remains rows (done_of far.done)) (λ at remains. remains.there) in
        of_left left.0 left.1
      where
        of_left : (found : Option Place) → IsLeastOf (Remains rows (done_of (reached rows).done)) found → ((schedule : List ℕ) × IsLeast traces links schedule) ⊎ ((cycle : List Place) × IsTheCycle traces links cycle × IsCycle traces links cycle)
        of_left None none = let far = reached rows in inl (far.order, (least_and_no_cycle traces links rows are far.done far.order far.extended none).0)
        of_left (Some first) least =
            let far = reached rows in
            let round = round_there rows (done_of far.done) (remaining rows far.done far.order far.extended) first least.0 in
            let told = the_cycle traces links rows are far.done far.order far.extended first round.0 least round.1 in
            inr (round.0, told.0, told.1)
