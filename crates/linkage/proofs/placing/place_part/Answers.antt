use Rattle.std.proofs.Common.{◌≡◌, ◌≤◌, ◌∙◌, ap, sym, arith}
use Rattle.std.specs.Prelude.{Some}
use Rattle.std.proofs.lemmas.Option.{slice_get-get_or}
use Rattle.interleavings.specs.TraceLists.{events_of}
use Rattle.linkage.specs.GatherShows.{place_at}
use Rattle.linkage.specs.Sources.{event_at}
use Rattle.linkage.proofs.PlacedWrites.{event_place, placed_part, placed_step, unfit_step, placed_next}
use Rattle.linkage.proofs.placing.place_part.Goals as goal

pub loop-place-init : goal.loop-place-init
loop-place-init g c = record {
  begun = omega (arith, c.min-place.ensures, c.count-count.ensures.count);
  inside = omega (arith, c.min-place.ensures, c.count-count.ensures.count, c.requires.order);
  placed = placed_part c.args.traces.now c.args.spans.now c.requires.spans c.args.from c.args.to c.args.placing.now c.args.thread c.min-place.result (omega (arith, c.min-place.ensures)) c.requires.placing;
  looks = omega (arith, c.min-place.ensures, c.count-count.ensures.count);
}

pub take-requires-clause-there : goal.take-requires-clause-there
take-requires-clause-there g c =
    let traces = c.args.traces.now in
    let t = c.args.thread in
    let i = c.loop-place.place in
    let there : event_at traces (place_at t i) ≡ Some c.at-event.result = slice_get-get_or (events_of traces t) i c.at-event.result (omega (arith, c.count-count.ensures.count, c.loop-place-test.true)) ∙ ap Some (sym c.at-event.ensures.event) in
    event_place traces c.args.spans.now c.requires.spans t i c.at-event.result there

pub take-requires-clause-values : goal.take-requires-clause-values
take-requires-clause-values g c = c.loop-place.invariant.placed.count

pub take-requires-clause-filled : goal.take-requires-clause-filled
take-requires-clause-filled g c = c.loop-place.invariant.placed.marks.count

pub loop-place-preserved : goal.loop-place-preserved
loop-place-preserved g c =
    let traces = c.args.traces.now in
    let t = c.args.thread in
    let i = c.loop-place.place in
    let there : event_at traces (place_at t i) ≡ Some c.at-event.result = slice_get-get_or (events_of traces t) i c.at-event.result (omega (arith, c.count-count.ensures.count, c.loop-place-test.true)) ∙ ap Some (sym c.at-event.ensures.event) in
    let on : c.args.from ≤ i = omega arith in
    record {
      begun = omega arith;
      inside = omega arith;
      placed = placed_step traces c.args.spans.now c.requires.spans t i c.at-event.result there c.args.from c.args.to on c.loop-place.placing c.take.new.self c.loop-place.invariant.placed c.if-not-take.ensures;
      looks = omega (arith, c.at-event.ensures.look, c.loop-place.invariant.looks);
    }

pub returns-clause-placing : goal.returns-clause-placing
returns-clause-placing g c =
    placed_next c.args.traces.now c.args.spans.now c.requires.spans c.args.from c.args.to c.loop-place.placing c.args.thread c.loop-place.place (omega arith) c.loop-place.invariant.placed

pub returns-then-not-take-clause-placing : goal.returns-then-not-take-clause-placing
returns-then-not-take-clause-placing g c =
    let traces = c.args.traces.now in
    let t = c.args.thread in
    let i = c.loop-place.place in
    let there : event_at traces (place_at t i) ≡ Some c.at-event.result = slice_get-get_or (events_of traces t) i c.at-event.result (omega (arith, c.count-count.ensures.count, c.loop-place-test.true)) ∙ ap Some (sym c.at-event.ensures.event) in
    let on : c.args.from ≤ i = omega arith in
    unfit_step traces c.args.spans.now c.requires.spans t i c.at-event.result there c.args.from c.args.to on c.loop-place.placing c.take.new.self c.loop-place.invariant.placed c.if-not-take.ensures
