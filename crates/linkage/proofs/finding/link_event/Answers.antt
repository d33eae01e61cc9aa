use Rattle.std.proofs.Common.{◌≡◌, ◌<◌, ◌∙◌, ℕ, ap, subst, length, arith}
use Rattle.std.specs.Prelude.{Option, Some, slice_index}
use Rattle.std.proofs.lemmas.List.{get_or_default}
use Rattle.interleavings.specs.declared.event.Event.{Event}
use Rattle.interleavings.specs.declared.event.Event.TheVariants.{Read, Update}
use Rattle.interleavings.specs.TraceLists.{IsInRange}
use Rattle.linkage.specs.Finding.{IsLinkOrNone}
use Rattle.linkage.specs.Sources.{event_at}
use Rattle.linkage.proofs.EventLinks.{too_large, not_too_large, linked_here, unequal_here, read_no_mismatch, unread, update_not_read, update_stored, mismatch_here, no_mismatch_here}
use Rattle.linkage.proofs.finding.link_event.Goals as goal

pub returns-then-bound-index-clause-finding : goal.returns-then-bound-index-clause-finding
returns-then-bound-index-clause-finding g c =
    let r = c.in-Read in
    let row = c.args.finder.now.row in
    let there : event_at c.args.traces.now c.args.at ≡ Some (Read r.cell r.value r.bound) = c.requires.event ∙ ap Some r.is in
    let P : Event → Type 0 = λ event. IsInRange c.args.traces.now event in
    let own : r.cell < length c.args.traces.now.starts = subst P r.is c.requires.range in
    let top : c.index.result.now ≡ slice_index row.spans.greatest.items r.cell = c.index.ensures ∙ get_or_default row.spans.greatest.items r.cell _ 0 (omega (arith, own, c.requires.finder.row.greatest)) in
    too_large c.args.traces.now c.args.at r.cell r.value r.bound there row c.requires.finder.row own (omega (arith, top, c.if-bound-index.true))

pub is_old_stored-requires-clause-number : goal.is_old_stored-requires-clause-number
is_old_stored-requires-clause-number g c =
    let u = c.in-Update in
    let row = c.args.finder.now.row in
    let there : event_at c.args.traces.now c.args.at ≡ Some (Update u.cell u.old u.new u.number) = c.requires.event ∙ ap Some u.is in
    (c.requires.finder.row.stored u.cell u.number u.new (update_stored c.args.traces.now c.args.at u.cell u.old u.new u.number there)).1.0

pub returns-in-Some-clause-finding : goal.returns-in-Some-clause-finding
returns-in-Some-clause-finding g c =
    let r = c.in-Read in
    let row = c.args.finder.now.row in
    let there : event_at c.args.traces.now c.args.at ≡ Some (Read r.cell r.value r.bound) = c.requires.event ∙ ap Some r.is in
    let P : Event → Type 0 = λ event. IsInRange c.args.traces.now event in
    let own : r.cell < length c.args.traces.now.starts = subst P r.is c.requires.range in
    let top : c.index.result.now ≡ slice_index row.spans.greatest.items r.cell = c.index.ensures ∙ get_or_default row.spans.greatest.items r.cell _ 0 (omega (arith, own, c.requires.finder.row.greatest)) in
    let Q : Option ℕ → Type 0 = λ found. IsLinkOrNone c.args.traces.now r.cell r.value r.bound found in
    let here = linked_here c.args.traces.now c.args.at r.cell r.value r.bound there c.in-Some.number (subst Q c.in-Some.is c.in_ok-number-in-Read.ensures.found) in (
      here.0,
      not_too_large c.args.traces.now c.args.at r.cell r.value r.bound there row c.requires.finder.row own (omega (arith, top, c.if-bound-index.false)),
      here.1,
      read_no_mismatch c.args.traces.now c.args.at r.cell r.value r.bound there,
    )

pub returns-in-None-clause-finding : goal.returns-in-None-clause-finding
returns-in-None-clause-finding g c =
    let r = c.in-Read in
    let row = c.args.finder.now.row in
    let there : event_at c.args.traces.now c.args.at ≡ Some (Read r.cell r.value r.bound) = c.requires.event ∙ ap Some r.is in
    let P : Event → Type 0 = λ event. IsInRange c.args.traces.now event in
    let own : r.cell < length c.args.traces.now.starts = subst P r.is c.requires.range in
    let top : c.index.result.now ≡ slice_index row.spans.greatest.items r.cell = c.index.ensures ∙ get_or_default row.spans.greatest.items r.cell _ 0 (omega (arith, own, c.requires.finder.row.greatest)) in
    let Q : Option ℕ → Type 0 = λ found. IsLinkOrNone c.args.traces.now r.cell r.value r.bound found in (
      unequal_here c.args.traces.now c.args.at r.cell r.value r.bound there (subst Q c.in-None.is c.in_ok-number-in-Read.ensures.found),
      not_too_large c.args.traces.now c.args.at r.cell r.value r.bound there row c.requires.finder.row own (omega (arith, top, c.if-bound-index.false)),
      read_no_mismatch c.args.traces.now c.args.at r.cell r.value r.bound there,
    )

pub returns-then-is_old_stored-clause-finding : goal.returns-then-is_old_stored-clause-finding
returns-then-is_old_stored-clause-finding g c =
    let u = c.in-Update in
    let there : event_at c.args.traces.now c.args.at ≡ Some (Update u.cell u.old u.new u.number) = c.requires.event ∙ ap Some u.is in (
      unread c.args.traces.now c.args.at u.cell u.old u.new u.number there,
      λ b. update_not_read c.args.traces.now c.args.at u.cell u.old u.new u.number there _ _ _ b.reads,
      λ b. update_not_read c.args.traces.now c.args.at u.cell u.old u.new u.number there _ _ _ b.reads,
      no_mismatch_here c.args.traces.now c.args.at u.cell u.old u.new u.number there c.if-is_old_stored.ensures,
    )

pub returns-else-is_old_stored-clause-finding : goal.returns-else-is_old_stored-clause-finding
returns-else-is_old_stored-clause-finding g c =
    let u = c.in-Update in
    let there : event_at c.args.traces.now c.args.at ≡ Some (Update u.cell u.old u.new u.number) = c.requires.event ∙ ap Some u.is in (
      mismatch_here c.args.traces.now c.args.at u.cell u.old u.new u.number there c.if-is_old_stored.ensures,
      λ b. update_not_read c.args.traces.now c.args.at u.cell u.old u.new u.number there _ _ _ b.reads,
      λ b. update_not_read c.args.traces.now c.args.at u.cell u.old u.new u.number there _ _ _ b.reads,
      unread c.args.traces.now c.args.at u.cell u.old u.new u.number there,
    )
