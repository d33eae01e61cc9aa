use Rattle.std.proofs.Common.{◌≡◌, ◌∙◌, ap, sym, arith}
use Rattle.std.specs.Prelude.{Some}
use Rattle.std.proofs.lemmas.Option.{slice_get-get_or}
use Rattle.interleavings.specs.TraceLists.{events_of}
use Rattle.linkage.specs.GatherShows.{place_at}
use Rattle.linkage.specs.Sources.{event_at}
use Rattle.linkage.proofs.MarkedTurns.{turn_place, marked_step, marked_next}
use Rattle.linkage.proofs.turn_marks.mark_thread.Goals as goal

pub mark-requires-clause-there : goal.mark-requires-clause-there
mark-requires-clause-there g c =
    let traces = c.args.traces.now in
    let t = c.args.thread in
    let i = c.loop-place.place in
    let there : event_at traces (place_at t i) ≡ Some c.at-event.result = slice_get-get_or (events_of traces t) i c.at-event.result (omega (arith, c.count-place-end.ensures.count)) ∙ ap Some (sym c.at-event.ensures.event) in
    turn_place traces c.args.spans.now c.requires.spans t i c.at-event.result there c.at-event.ensures.range

pub mark-requires-clause-entered : goal.mark-requires-clause-entered
mark-requires-clause-entered g c = c.loop-place.invariant.marked.entered.count

pub mark-requires-clause-left : goal.mark-requires-clause-left
mark-requires-clause-left g c = c.loop-place.invariant.marked.left.count

pub loop-place-preserved : goal.loop-place-preserved
loop-place-preserved g c =
    let traces = c.args.traces.now in
    let t = c.args.thread in
    let i = c.loop-place.place in
    let there : event_at traces (place_at t i) ≡ Some c.at-event.result = slice_get-get_or (events_of traces t) i c.at-event.result (omega (arith, c.count-place-end.ensures.count)) ∙ ap Some (sym c.at-event.ensures.event) in
    record {
      marked =
          marked_step traces c.args.spans.now c.requires.spans t i c.at-event.result c.loop-place.marks c.mark.new.self there c.loop-place.invariant.marked c.if-not-mark.ensures
          (turn_place traces c.args.spans.now c.requires.spans t i c.at-event.result there c.at-event.ensures.range);
      looks = omega (arith, c.at-event.ensures.look, c.loop-place.invariant.looks);
    }

pub returns-clause-marks : goal.returns-clause-marks
returns-clause-marks g c =
    λ whole. marked_next c.args.traces.now c.args.spans.now c.requires.spans c.args.thread c.loop-place.place c.loop-place.marks (omega (arith, c.loop-place-test.false, c.count-place-end.ensures.count)) c.loop-place.invariant.marked
