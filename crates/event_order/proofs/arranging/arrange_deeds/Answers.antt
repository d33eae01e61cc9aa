use Rattle.std.proofs.Common.{List, ℕ, Some, subst, sym}
use Rattle.interleavings.specs.declared.traces.Place.{Place}
use Rattle.event_order.specs.Backs.{AllRemain, IsBackOf, IsLeastOf, Remains}
use Rattle.event_order.specs.Cycles.{IsRoundFrom}
use Rattle.event_order.specs.Fronts.{done_of}
use Rattle.event_order.proofs.Answering.{least_and_no_cycle, remaining, the_cycle}
use Rattle.event_order.proofs.arranging.arrange_deeds.Goals as goal

pub cycle_from-requires-clause-all : goal.cycle_from-requires-clause-all
cycle_from-requires-clause-all c =
    let P : List ℕ → Type 0 = λ done. AllRemain c.args.deeds.now (done_of done) in
    subst P (sym c.deref-in-Some.ensures.value) (remaining c.args.deeds.now c.in_ok-extended.extended.done.items c.in_ok-extended.extended.order.items c.in_ok-extended.ensures.extended)

pub returns-in_ok-cycle_from-in-Some : goal.returns-in_ok-cycle_from-in-Some
returns-in_ok-cycle_from-in-Some c = λ traces links are.
    let done = c.in_ok-extended.extended.done.items in
    let P : List ℕ → Type 0 = λ d. IsLeastOf (Remains c.args.deeds.now (done_of d)) (Some c.in-Some.first) in
    let Q : List ℕ → Type 0 = λ d. IsRoundFrom (IsBackOf c.args.deeds.now (done_of d)) c.in-Some.first c.in_ok-cycle_from-in-Some.field-0.items in
    the_cycle traces links c.args.deeds.now are done c.in_ok-extended.extended.order.items c.in_ok-extended.ensures.extended c.in-Some.first c.in_ok-cycle_from-in-Some.field-0.items
    (subst P c.deref.ensures.value c.in-Some.ensures) (subst Q c.deref-in-Some.ensures.value c.in_ok-cycle_from-in-Some.ensures)

pub returns-in-None : goal.returns-in-None
returns-in-None c = λ traces links are.
    let P : List ℕ → Type 0 = λ d. (at : Place) → Remains c.args.deeds.now (done_of d) at → ⊥ in
    least_and_no_cycle traces links c.args.deeds.now are c.in_ok-extended.extended.done.items c.in_ok-extended.extended.order.items c.in_ok-extended.ensures.extended (subst P c.deref.ensures.value c.in-None.ensures)
