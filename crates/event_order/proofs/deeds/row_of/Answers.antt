use Rattle.std.proofs.Common.{◌≡◌, Some, sym, ◌∙◌, ap, arith}
use Rattle.std.proofs.lemmas.Option.{slice_get_read}
use Rattle.interleavings.specs.declared.traces.Place.{Place}
use Rattle.interleavings.specs.TraceLists.{events_of}
use Rattle.linkage.specs.Links.{link_at}
use Rattle.std.specs.Prelude.{option_map}
use Rattle.event_order.specs.Deeds.{deed_in, deed_of}
use Rattle.event_order.proofs.Making.{row_more}
use Rattle.event_order.proofs.deeds.row_of.Goals as goal

pub loop-place-preserved : goal.loop-place-preserved
loop-place-preserved g c =
    let traces = c.args.traces.now in
    let links = c.args.links.now in
    let at : Place = record { thread = c.args.thread; place = c.loop-place.place } in
    let event = slice_get_read (events_of traces c.args.thread) c.count-count.result c.loop-place.place c.at-event.result c.count-count.ensures.count c.loop-place-test.true c.at-event.ensures.event in
    let deed : deed_in traces links at ≡ Some c.of-deed.result =
    ap (option_map (λ event. deed_of event (link_at links at))) event
    ∙ (ap (λ link. Some (deed_of c.at-event.result link)) (sym c.of-link.ensures.link) ∙ ap Some (sym c.of-deed.ensures)) in
    record {
      row = rw c.in_ok-push.ensures.items (row_more traces links c.args.thread c.loop-place.place c.loop-place.row.items c.of-deed.result c.loop-place.invariant.row deed);
      looks = omega (arith, c.at-event.ensures.look, c.of-link.ensures.look, c.loop-place.invariant.looks);
    }
