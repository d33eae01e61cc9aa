use Rattle.std.proofs.Common.{◌≡◌, ◌∙◌, ap, sym, arith}
use Rattle.std.specs.Prelude.{Some}
use Rattle.std.proofs.lemmas.Option.{slice_get-get_or}
use Rattle.interleavings.specs.TraceLists.{events_of}
use Rattle.linkage.specs.Rounds.{first_events}
use Rattle.linkage.proofs.Progress.{part_begins, part_ends, progress_step, link_here, row_step, row_up_to}
use Rattle.linkage.proofs.linking.link_part.Goals as goal

pub loop-place-init : goal.loop-place-init
loop-place-init g c =
    let traces = c.args.traces.now in
    let t = c.args.thread in
    let start = c.min-place.result in
    let is : first_events traces c.args.from t ≡ start = omega arith in
    record {
      started = omega arith;
      finder = c.requires.finder;
      progress = part_begins traces c.args.from c.args.to c.args.misfits.now t start (omega arith) c.requires.progress;
      row = row_up_to traces t (first_events traces c.args.from t) start c.args.row.now.items is c.requires.row;
      looks = omega arith;
    }

pub link_event-requires-clause-event : goal.link_event-requires-clause-event
link_event-requires-clause-event g c =
    let traces = c.args.traces.now in
    let t = c.args.thread in
    let i = c.loop-place.place in
    slice_get-get_or (events_of traces t) i c.at-event.result (omega arith) ∙ ap Some (sym c.at-event.ensures.event)

pub loop-place-preserved : goal.loop-place-preserved
loop-place-preserved g c =
    let traces = c.args.traces.now in
    let t = c.args.thread in
    let i = c.loop-place.place in
    let old = c.loop-place.misfits in
    let new = c.note.new.self in
    let finding = c.in_ok-finding.finding in
    let found = c.in_ok-finding.ensures.finding in
    record {
      started = omega arith;
      finder = c.in_ok-finding.ensures.finder;
      progress = progress_step traces c.args.from c.args.to t i old c.loop-place.invariant.progress finding new c.note.result found c.note.ensures;
      row = rw c.in_ok-push.ensures.items (row_step traces t i c.loop-place.row.items c.note.result c.loop-place.invariant.row (link_here traces t i old finding new c.note.result found c.note.ensures));
      looks = omega (arith, c.at-event.ensures.look, c.in_ok-finding.ensures.looks, c.loop-place.invariant.looks);
    }

pub returns-clause-progress : goal.returns-clause-progress
returns-clause-progress g c =
    part_ends c.args.traces.now c.args.from c.args.to c.loop-place.misfits c.args.thread c.loop-place.place (omega arith) c.loop-place.invariant.progress
