use Rattle.std.proofs.Common.{◌≡◌, ◌∙◌, ap, sym, arith}
use Rattle.std.specs.Prelude.{Some}
use Rattle.std.proofs.lemmas.Option.{slice_get-get_or}
use Rattle.interleavings.specs.TraceLists.{events_of}
use Rattle.linkage.specs.GatherShows.{place_at}
use Rattle.linkage.specs.Sources.{event_at}
use Rattle.linkage.proofs.GatherSteps.{gathered_step, gathered_next}
use Rattle.linkage.proofs.gathered.gather_thread.Goals as goal

pub loop-place-preserved : goal.loop-place-preserved
loop-place-preserved g c =
    let traces = c.args.traces.now in
    let t = c.args.thread in
    let i = c.loop-place.place in
    let there : event_at traces (place_at t i) ≡ Some c.at-event.result = slice_get-get_or (events_of traces t) i c.at-event.result (omega (arith, c.count-place-end.ensures.count)) ∙ ap Some (sym c.at-event.ensures.event) in
    record {
      gathered = gathered_step traces t i c.at-event.result c.loop-place.gathered c.add.new.self there c.at-event.ensures.range c.loop-place.invariant.gathered c.in_ok-add.ensures;
      looks = omega (arith, c.at-event.ensures.look, c.loop-place.invariant.looks);
    }

pub returns-clause-gathered : goal.returns-clause-gathered
returns-clause-gathered g c =
    gathered_next c.args.traces.now c.args.thread c.loop-place.place c.loop-place.gathered c.requires.thread (omega (arith, c.loop-place-test.false, c.count-place-end.ensures.count)) c.loop-place.invariant.gathered
