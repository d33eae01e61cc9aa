-- The answers: the least schedule where nothing remains, and the cycle where something does.
use Rattle.std.proofs.Common.{ℕ, List, Some}
use Rattle.interleavings.specs.declared.traces.Place.{Place}
use Rattle.interleavings.specs.TraceLists.{TraceLists}
use Rattle.event_order.specs.Backs.{AllRemain, IsBackOf, IsLeastOf, Remains}
use Rattle.event_order.specs.Cycles.{IsCycle, IsRoundFrom, IsTheCycle, Precedes, StepsBack}
use Rattle.event_order.specs.Deeds.{AreDeedsOf}
use Rattle.event_order.specs.DirectOrder.{LinkRows}
use Rattle.event_order.specs.Fronts.{IsExtended, done_of}
use Rattle.event_order.specs.Least.{IsLeast}
use Rattle.event_order.specs.declared.deed.Deed.{Deed}
use Rattle.event_order.proofs.Excluding.{cycle_excludes}
use Rattle.event_order.proofs.Greedy.{all_remain, before_precedes, left_from, left_to, whole_order}
use Rattle.event_order.proofs.Leading.{ring_weaker, round_weaker}
use Rattle.event_order.proofs.Preceding.{precedes_to}

-- where an order goes no further, each deed that remains has one before it that remains
pub remaining : (rows : List (List Deed)) (done order : List ℕ) → IsExtended rows done order → AllRemain rows (done_of done)
remaining rows done order extended = all_remain rows extended.counts done extended.front extended.stopped

module _ (traces : TraceLists) (links : LinkRows) (rows : List (List Deed)) (are : AreDeedsOf traces links rows) (done : List ℕ) (order : List ℕ) (extended : IsExtended rows done order) where
  -- where nothing remains there is the least schedule and no cycle
  pub least_and_no_cycle : ((at : Place) → Remains rows (done_of done) at → ⊥) → IsLeast traces links order × ((places : List Place) → IsCycle traces links places → ⊥)
  least_and_no_cycle none =
      let least = whole_order traces links rows are (done_of done) order extended.kept none in
      (least, λ places cycle. cycle_excludes traces links places least.places cycle least.extends)

  -- a step back among what remains is a step back
  steps_back : (at back : Place) → IsBackOf rows (done_of done) at back → StepsBack traces links at back
  steps_back at back step = record {
    before = before_precedes traces links rows are (done_of done) back at step.remains.there step.before;
    left = left_from traces links rows are (done_of done) (remaining rows done order extended) back step.before.remains;
    least = λ other precedes left. step.least other (record {
      remains = left_to traces links rows are (done_of done) order extended.kept other left;
      directly = precedes_to traces links rows are other at precedes;
    });
  }

  -- where something remains there is the cycle
  pub the_cycle : (first : Place) (cycle : List Place) → IsLeastOf (Remains rows (done_of done)) (Some first) → IsRoundFrom (IsBackOf rows (done_of done)) first cycle → IsTheCycle traces links cycle × IsCycle traces links cycle
  the_cycle first cycle least round =
      let whole = round_weaker (IsBackOf rows (done_of done)) (StepsBack traces links) steps_back first cycle round in (
        record {
          start = first;
          left = left_from traces links rows are (done_of done) (remaining rows done order extended) first least.0;
          least = λ other left. least.1 other (left_to traces links rows are (done_of done) order extended.kept other left);
          round = whole;
        },
        ring_weaker (λ before after. StepsBack traces links after before) (Precedes traces links) (λ before after step. step.before) cycle whole.goes_round,
      )
