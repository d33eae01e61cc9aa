use Rattle.std.proofs.Common.{List, drop, ap, subst, ◌∙◌}
use Rattle.std.proofs.lemmas.List.{take_rest}
use Rattle.std.proofs.lemmas.Result.{IfOk-weaker}
use Rattle.stride_base.specs.Listed.{Listed}
use Rattle.interleavings.specs.declared.traces.Place.{Place}
use Rattle.event_order.specs.Backs.{IsBackOf}
use Rattle.event_order.specs.Following.{IsTurned}
use Rattle.event_order.specs.Fronts.{done_of}
use Rattle.event_order.proofs.Rounds.{round_from}
use Rattle.event_order.proofs.arranging.cycle_from.Goals as goal

pub returns : goal.returns
returns c =
    let met = c.in_ok-walk.walk.met.items in
    let again = c.in_ok-walk.walk.again in
    let ring = take_rest c.deref.result.now again ∙ ap (drop again) c.deref.ensures.value in
    let P : Listed Place → List Place → Type 0 = λ cycle xs. IsTurned xs cycle.items in
    IfOk-weaker c.turned.result _ _
    (λ cycle turned. round_from (IsBackOf c.args.deeds.now (done_of c.args.done.now)) c.args.first met again c.in_ok-walk.ensures cycle.items (subst (P cycle) ring turned))
    c.turned.ensures
