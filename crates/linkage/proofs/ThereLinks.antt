-- Each read has a link, or no write within its bound stored its value.
use Rattle.std.proofs.Common.{◌≡◌, ◌∙◌, ℕ, zero, suc, ◌+◌, ◌≤◌, ◌⊎◌, List, [], ◌∷◌, ◌++◌, Option, Some, None, length, refl, sym, subst, inl, inr, arith}
use Rattle.interleavings.specs.declared.traces.Place.{Place}
use Rattle.interleavings.specs.TraceLists.{TraceLists, events_of}
use Rattle.linkage.specs.GatherShows.{place_at}
use Rattle.linkage.specs.Links.{IsLink}
use Rattle.linkage.specs.Misfitting.{AreRowsLinked, IsLinkAt, IsRowUpTo}
use Rattle.linkage.specs.Refusals.{IsUnequal}
use Rattle.linkage.specs.Sources.{IsReadAt, Stored, event_at}
use Rattle.linkage.proofs.Deciding.{greatest_within}
use Rattle.linkage.proofs.KnownRefusals.{same_reading}
use Rattle.linkage.proofs.KnownSources.{known_stored}
use Rattle.linkage.proofs.Progress.{row_start, row_step, rows_start, rows_step}
use Rattle.linkage.proofs.Unique.{kinds}

module _ (traces : TraceLists) where
  -- a read has a link, or no write within its bound stored its value
  link_of_read : (cell value bound : ℕ) → ((number : ℕ) × IsLink traces cell value bound number) ⊎ ((number : ℕ) → number ≤ bound → Stored traces cell number value → ⊥)
  link_of_read cell value bound = elim (greatest_within (λ number. Stored traces cell number value) (λ number. known_stored traces cell number value) bound) [
    | inl found ↦ inl (found.0, record { within = found.1.within; equal = found.1.holds; greatest = found.1.greatest })
    | inr none ↦ inr none
  ]

  -- the link of a place
  link_there : (at : Place) → (link : Option ℕ) × IsLinkAt traces at link
  link_there at = elim (kinds (event_at traces at)) [
    | inl none ↦ (None, record { read = λ cell value bound reads. absurd (let is : Some bound ≡ None = sym reads.within ∙ none in cc); unread = λ unread. refl })
    | inr found ↦
        let here : IsReadAt traces at found.0 found.1 found.2 = record { met = found.3; within = found.4 } in
        elim (link_of_read found.0 found.1 found.2) [
          | inl linked ↦ (
            Some linked.0,
            record {
              read = λ cell value bound reads. inr (inr (linked.0, refl, same_reading traces (λ c v b. IsLink traces c v b linked.0) at found.0 found.1 found.2 cell value bound here reads linked.1));
              unread = λ unread. absurd (let is : Some found.2 ≡ None = sym here.within ∙ unread in cc);
            },
          )
          | inr none ↦
              let unequal : IsUnequal traces at = record { cell = found.0; value = found.1; bound = found.2; reads = here; none = none } in
              (None, record { read = λ cell value bound reads. inr (inl unequal); unread = λ unread. refl })
        ]
  ]

  -- the links of the first events of a thread
  row_there : (thread n : ℕ) → (row : List (Option ℕ)) × IsRowUpTo traces thread n row
  row_there thread zero = ([], row_start traces thread)
  row_there thread (suc n) =
      let before = row_there thread n in
      let link = link_there (place_at thread n) in
      let row : List (Option ℕ) = before.0 ++ link.0 ∷ [] in
      let P : ℕ → Type 0 = λ k. IsRowUpTo traces thread k row in
      let next : n + 1 ≡ suc n = omega arith in
      (row, subst P next (row_step traces thread n before.0 link.0 before.1 link.1))

  -- the links of the first threads
  pub rows_there : (n : ℕ) → (rows : List (List (Option ℕ))) × AreRowsLinked traces n rows
  rows_there zero = ([], rows_start traces)
  rows_there (suc n) =
      let before = rows_there n in
      let last = row_there n (length (events_of traces n)) in
      let rows : List (List (Option ℕ)) = before.0 ++ last.0 ∷ [] in
      let P : ℕ → Type 0 = λ k. AreRowsLinked traces k rows in
      let next : n + 1 ≡ suc n = omega arith in
      (rows, subst P next (rows_step traces n before.0 last.0 before.1 last.1))
