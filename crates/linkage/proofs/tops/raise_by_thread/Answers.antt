use Rattle.std.proofs.Common.{◌≡◌, ◌∙◌, ap, sym, arith}
use Rattle.std.specs.Prelude.{Some}
use Rattle.std.proofs.lemmas.Option.{slice_get-get_or}
use Rattle.interleavings.specs.TraceLists.{events_of}
use Rattle.linkage.specs.GatherShows.{place_at}
use Rattle.linkage.specs.Sources.{event_at}
use Rattle.linkage.proofs.Topping.{topped_step, topped_next}
use Rattle.linkage.proofs.tops.raise_by_thread.Goals as goal

pub raise-requires-clause-cells : goal.raise-requires-clause-cells
raise-requires-clause-cells g c = c.loop-place.invariant.tops.writes.count

pub raise-requires-clause-monitors : goal.raise-requires-clause-monitors
raise-requires-clause-monitors g c = c.loop-place.invariant.tops.entries.count

pub loop-place-preserved : goal.loop-place-preserved
loop-place-preserved g c =
    let traces = c.args.traces.now in
    let t = c.args.thread in
    let i = c.loop-place.place in
    let there : event_at traces (place_at t i) ≡ Some c.at-event.result = slice_get-get_or (events_of traces t) i c.at-event.result (omega (arith, c.count-place-end.ensures.count)) ∙ ap Some (sym c.at-event.ensures.event) in
    record {
      tops = topped_step traces t i c.at-event.result c.loop-place.tops c.raise.new.self there c.at-event.ensures.range c.loop-place.invariant.tops c.raise.ensures;
      looks = omega (arith, c.at-event.ensures.look, c.loop-place.invariant.looks);
    }

pub returns-clause-tops : goal.returns-clause-tops
returns-clause-tops g c =
    topped_next c.args.traces.now c.args.thread c.loop-place.place c.loop-place.tops (omega (arith, c.loop-place-test.false, c.count-place-end.ensures.count)) c.loop-place.invariant.tops
