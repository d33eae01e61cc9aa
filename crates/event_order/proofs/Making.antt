-- The deeds of events, one event and one thread more.
use Rattle.std.proofs.Common.{◌≡◌, ℕ, zero, suc, ◌+◌, ◌<◌, ◌≤◌, List, [], ◌∷◌, ◌++◌, Some, length, refl, sym, ◌∙◌, ap, subst, inl, inr, arith}
use Rattle.std.specs.Prelude.{option_map, slice_get}
use Rattle.std.proofs.lemmas.Bool.{cases_lt}
use Rattle.std.proofs.lemmas.List.{length_push, get_or_push, get_or_append_left, get_or_past}
use Rattle.std.proofs.lemmas.Option.{slice_get_past}
use Rattle.interleavings.specs.declared.traces.Place.{Place}
use Rattle.interleavings.specs.TraceLists.{TraceLists, events_of}
use Rattle.event_order.specs.DirectOrder.{LinkRows}
use Rattle.linkage.specs.Links.{IsLinked, link_at}
use Rattle.event_order.specs.Deeds.{AreDeedsOf, AreRowsOf, IsRowOf, deed_at, deed_in, deed_of, deeds_of, size}
use Rattle.event_order.specs.declared.deed.Deed.{Deed}

-- what stood in a list still stands there with one more
pub slice_get-left : {X : Type 0} (xs : List X) (y : X) (i : ℕ) → i < length xs → slice_get (xs ++ y ∷ []) i ≡ slice_get xs i
slice_get-left [] y i small = absurd (omega arith)
slice_get-left (x ∷ xs) y zero small = refl
slice_get-left (x ∷ xs) y (suc i) small = slice_get-left xs y i (omega arith)

-- and the one more stands at the end
pub slice_get-end : {X : Type 0} (xs : List X) (y : X) (i : ℕ) → i ≡ length xs → slice_get (xs ++ y ∷ []) i ≡ Some y
slice_get-end [] y zero is = refl
slice_get-end [] y (suc i) is = absurd (omega arith)
slice_get-end (x ∷ xs) y zero is = absurd (omega arith)
slice_get-end (x ∷ xs) y (suc i) is = slice_get-end xs y i (omega arith)

-- one event more of a thread
pub row_more : (traces : TraceLists) (links : LinkRows) (thread n : ℕ) (row : List Deed) (deed : Deed) → IsRowOf traces links thread n row → deed_in traces links (record { thread = thread; place = n }) ≡ Some deed → IsRowOf traces links thread (n + 1) (row ++ deed ∷ [])
row_more traces links thread n row deed known is = record {
  count_is = length_push row deed ∙ ap (λ k. k + 1) known.count_is;
  deeds = λ i small. elim (cases_lt i n) [
    | inl before ↦ slice_get-left row deed i (let count = known.count_is in omega arith) ∙ known.deeds i before
    | inr last ↦
        let here : i ≡ n = omega arith in
        slice_get-end row deed i (here ∙ sym known.count_is) ∙ (sym is ∙ ap (λ k. deed_in traces links (record { thread = thread; place = k })) (sym here))
  ];
}

-- one thread more
pub rows_more : (traces : TraceLists) (links : LinkRows) (n : ℕ) (rows : List (List Deed)) (row : List Deed) → AreRowsOf traces links n rows → IsRowOf traces links n (length (events_of traces n)) row → AreRowsOf traces links (n + 1) (rows ++ row ∷ [])
rows_more traces links n rows row known is = record {
  threads_are = length_push rows row ∙ ap (λ k. k + 1) known.threads_are;
  each = λ thread small. elim (cases_lt thread n) [
    | inl before ↦ subst (IsRowOf traces links thread (length (events_of traces thread))) (sym (get_or_append_left rows (row ∷ []) [] thread (let count = known.threads_are in omega arith))) (known.each thread before)
    | inr last ↦
        let here : n ≡ thread = omega arith in
        let P : ℕ → Type 0 = λ t. IsRowOf traces links t (length (events_of traces t)) (deeds_of (rows ++ row ∷ []) t) in
        subst P here (subst (IsRowOf traces links n (length (events_of traces n))) (sym (get_or_push rows row [] n known.threads_are)) is)
  ];
}

-- each row still has few deeds
pub few_more : (most : ℕ) (rows : List (List Deed)) (row : List Deed) → ((thread : ℕ) → size rows thread ≤ most) → length row ≤ most → (thread : ℕ) → size (rows ++ row ∷ []) thread ≤ most
few_more most rows row few small thread = elim (cases_lt thread (length rows)) [
  | inl before ↦ let same = ap length (get_or_append_left rows (row ∷ []) [] thread before) in let old = few thread in omega arith
  | inr after ↦ elim (cases_lt (length rows) thread) [
    | inl past ↦ let same = ap length (get_or_past (rows ++ row ∷ []) thread [] (let count = length_push rows row in omega arith)) in omega arith
    | inr last ↦ let same = ap length (get_or_push rows row [] thread (omega arith)) in omega arith
  ]
]

-- the deeds of all threads are those of the events
pub deeds_all : (traces : TraceLists) (links : LinkRows) (rows : List (List Deed)) → IsLinked traces links → AreRowsOf traces links (length traces.events) rows → AreDeedsOf traces links rows
deeds_all traces links rows linked are = record {
  linked = linked;
  deeds = λ at. elim (cases_lt at.thread (length traces.events)) [
    | inl there ↦ in_row at (are.each at.thread there)
    | inr past ↦
        let none : deeds_of rows at.thread ≡ [] = get_or_past rows at.thread [] (let count = are.threads_are in omega arith) in
        let no_events : events_of traces at.thread ≡ [] = get_or_past traces.events at.thread [] past in
        ap (λ row. slice_get row at.place) none ∙ sym (ap (λ events. option_map (λ event. deed_of event (link_at links at)) (slice_get events at.place)) no_events)
  ];
}
  where
    in_row : (at : Place) → IsRowOf traces links at.thread (length (events_of traces at.thread)) (deeds_of rows at.thread) → deed_at rows at ≡ deed_in traces links at
    in_row at row = elim (cases_lt at.place (length (events_of traces at.thread))) [
      | inl inside ↦ row.deeds at.place inside
      | inr past ↦
          slice_get_past (deeds_of rows at.thread) at.place (let count = row.count_is in omega arith)
          ∙ sym (ap (option_map (λ event. deed_of event (link_at links at))) (slice_get_past (events_of traces at.thread) at.place past))
    ]
