-- The refusal of events that can't be linked, or have no order.
use Rattle.std.proofs.Common.{refl, Err}
use Rattle.interleavings.specs.TraceLists.{TraceLists}
use Rattle.linkage.specs.Answers.{IsTold, IsWhole}
use Rattle.linkage.specs.declared.link_error.LinkError.{LinkError}
use Rattle.linkage.specs.declared.link_error.LinkError.TheVariants as links
use Rattle.event_order.specs.Answers.{IsAnswer}
use Rattle.event_order.specs.DirectOrder.{LinkRows}
use Rattle.event_order.specs.declared.order_error.OrderError.{OrderError}
use Rattle.event_order.specs.declared.order_error.OrderError.TheVariants as orders
use Rattle.stride_cli.specs.Bundles.{RefusesEvents}
use Rattle.stride_cli.specs.Inferring.{Circular, Unlinked}
use Rattle.stride_cli.specs.Refusals.{of_link, of_order}

-- events that can't be linked
pub link_refused : (traces : TraceLists) (error : LinkError) → IsTold traces error → RefusesEvents traces (of_link error)
link_refused traces (links.TwiceWritten cell number) told = (Unlinked (links.TwiceWritten cell number), (told, refl))
link_refused traces (links.WriteGap cell number) told = (Unlinked (links.WriteGap cell number), (told, refl))
link_refused traces (links.TwiceTurned monitor turn) told = (Unlinked (links.TwiceTurned monitor turn), (told, refl))
link_refused traces (links.TurnGap monitor turn) told = (Unlinked (links.TurnGap monitor turn), (told, refl))
link_refused traces (links.BoundTooLarge at) told = (Unlinked (links.BoundTooLarge at), (told, refl))
link_refused traces (links.NoEqualWrite at) told = (Unlinked (links.NoEqualWrite at), (told, refl))
link_refused traces (links.UpdateMismatch at) told = (Unlinked (links.UpdateMismatch at), (told, refl))
link_refused traces links.NoMemory told = tt

-- events that have no order
pub order_refused : (traces : TraceLists) (rows : LinkRows) (error : OrderError) → IsWhole traces rows → IsAnswer traces rows (Err error) → RefusesEvents traces (of_order error)
order_refused traces rows (orders.Cycle places) whole is = (Circular places.items, ((rows, (whole, is.0)), refl))
order_refused traces rows orders.NoMemory whole is = tt
