-- The deeds of events and links that are there.
use Rattle.std.proofs.Common.{◌≡◌, ℕ, zero, suc, ◌+◌, ◌≤◌, List, [], ◌∷◌, ◌++◌, Some, length, get_or, refl, ap, subst, arith}
use Rattle.std.specs.Prelude.{option_map}
use Rattle.std.proofs.lemmas.Option.{slice_get-get_or}
use Rattle.interleavings.specs.declared.event.Event.{Event}
use Rattle.interleavings.specs.declared.event.Event.TheVariants as events
use Rattle.interleavings.specs.declared.traces.Place.{Place}
use Rattle.interleavings.specs.TraceLists.{TraceLists, events_of}
use Rattle.linkage.specs.Links.{IsLinked, link_at}
use Rattle.event_order.specs.Deeds.{AreDeedsOf, AreRowsOf, IsRowOf, deed_in, deed_of}
use Rattle.event_order.specs.DirectOrder.{LinkRows}
use Rattle.event_order.specs.declared.deed.Deed.{Deed}
use Rattle.event_order.proofs.Making.{deeds_all, row_more, rows_more}

module _ (traces : TraceLists) (links : LinkRows) where
  -- the deeds of the first events of a thread
  row_for : (thread n : ℕ) → n ≤ length (events_of traces thread) → (row : List Deed) × IsRowOf traces links thread n row
  row_for thread zero small = ([], record { count_is = refl; deeds = λ i below. absurd (omega arith) })
  row_for thread (suc n) small =
      let before = row_for thread n (omega arith) in
      let event : Event = get_or (events_of traces thread) n (events.Exit 0 0) in
      let at : Place = record { thread = thread; place = n } in
      let is : deed_in traces links at ≡ Some (deed_of event (link_at links at)) = ap (option_map (λ e. deed_of e (link_at links at))) (slice_get-get_or (events_of traces thread) n (events.Exit 0 0) (omega arith)) in
      let row : List Deed = before.0 ++ deed_of event (link_at links at) ∷ [] in
      let next : n + 1 ≡ suc n = omega arith in
      let P : ℕ → Type 0 = λ k. IsRowOf traces links thread k row in
      (row, subst P next (row_more traces links thread n before.0 (deed_of event (link_at links at)) before.1 is))

  -- the deeds of the first threads
  rows_for : (n : ℕ) → (rows : List (List Deed)) × AreRowsOf traces links n rows
  rows_for zero = ([], record { threads_are = refl; each = λ thread below. absurd (omega arith) })
  rows_for (suc n) =
      let before = rows_for n in
      let last = row_for n (length (events_of traces n)) (omega arith) in
      let rows : List (List Deed) = before.0 ++ last.0 ∷ [] in
      let next : n + 1 ≡ suc n = omega arith in
      let P : ℕ → Type 0 = λ k. AreRowsOf traces links k rows in
      (rows, subst P next (rows_more traces links n before.0 last.0 before.1 last.1))

  -- the deeds of all threads
  pub deeds_there : IsLinked traces links → (rows : List (List Deed)) × AreDeedsOf traces links rows
  deeds_there linked = let all = rows_for (length traces.events) in (all.0, deeds_all traces links all.0 linked all.1)
