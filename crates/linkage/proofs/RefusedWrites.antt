-- Where the writes can't be at their places, one number is written twice or left out.
use Rattle.std.proofs.Common.{◌≡◌, ℕ, ◌+◌, ◌≤◌, inl, inr, List, length, refl, sym, ap, subst, arith}
use Rattle.std.specs.Prelude.{Some, None, IsPermutation}
use Rattle.std.proofs.lemmas.List.Sorted.{length_permutation}
use Rattle.interleavings.specs.TraceLists.{TraceLists}
use Rattle.linkage.specs.declared.link_error.LinkError.TheVariants.{TwiceWritten, WriteGap}
use Rattle.linkage.specs.declared.numbered.Numbered.{Numbered}
use Rattle.linkage.specs.declared.spans.Spans.{Spans}
use Rattle.linkage.specs.AllOf.{IsAllOf, WriteGiven}
use Rattle.linkage.specs.Sources.{event_count}
use Rattle.linkage.specs.Numbers.{AreGreatest, AreOwned, AreStarted, IsFirstGap, IsFirstTwice, IsOrdered}
use Rattle.linkage.specs.Placing.{AreWriteSpans, IsUnplaced}
use Rattle.linkage.specs.Refusals.{IsFirstRefusal}
use Rattle.linkage.specs.Spans.{places_before}
use Rattle.linkage.proofs.Moved.{sorted_all, sorted_owned, sorted_ordered}
use Rattle.linkage.proofs.NumberChecks.{started_writes, first_twice_written, none_written_twice, first_write_gap, no_write_gap}
use Rattle.linkage.proofs.Rows.{few_places}
use Rattle.linkage.proofs.Topping.{listed_tops}

-- all writes in order
module _ (traces : TraceLists) (spans : Spans) (are : AreWriteSpans traces spans) (writes sorted items : List (Numbered ℕ)) (all : IsAllOf (WriteGiven traces) writes) (own : AreOwned writes (length traces.starts)) (moved : IsPermutation writes sorted) (is : items ≡ sorted) (ordered : IsOrdered sorted) where
  pub in_order : IsOrdered items
  in_order = sorted_ordered (WriteGiven traces) writes sorted items moved is ordered

  all_items : IsAllOf (WriteGiven traces) items
  all_items = sorted_all (WriteGiven traces) writes sorted items moved is all

  pub owned_items : AreOwned items (length spans.greatest.items)
  owned_items = sorted_owned (WriteGiven traces) writes sorted items moved is (length traces.starts) (length spans.greatest.items) are.tops.count own

  owned_starts : AreOwned items (length traces.starts)
  owned_starts = sorted_owned (WriteGiven traces) writes sorted items moved is (length traces.starts) (length traces.starts) refl own

  pub started_items : AreStarted items (length spans.greatest.items)
  started_items = let P : ℕ → Type 0 = λ owners. AreStarted items owners in subst P (sym are.tops.count) (started_writes traces items all_items)

  greatest : AreGreatest items (length traces.starts) spans.greatest.items
  greatest = listed_tops (WriteGiven traces) items (length traces.starts) spans.greatest.items all_items are.tops

  pub twice_first : (cell number : ℕ) → IsFirstTwice items (Some (cell, number)) → IsFirstRefusal traces (TwiceWritten cell number)
  twice_first cell number found = first_twice_written traces items all_items cell number found

  module _ (single : IsFirstTwice items None) where
    pub gap_first : (cell number : ℕ) → IsFirstGap items spans.greatest.items (Some (cell, number)) → IsFirstRefusal traces (WriteGap cell number)
    gap_first cell number found = first_write_gap traces items all_items spans.greatest.items owned_starts greatest cell number (none_written_twice traces items all_items single) found

    -- there is a gap
    pub some_gap : length writes ≤ length traces.starts + event_count traces → IsUnplaced traces spans → IsFirstGap items spans.greatest.items None → ⊥
    some_gap few unplaced whole =
        elim unplaced [
          | inl much ↦ (
              let no_more = few_places items (length traces.starts) spans.greatest.items in_order greatest whole in
              let f : places_before spans.greatest.items (length traces.starts) ≡ places_before spans.greatest.items (length spans.greatest.items) = ap (places_before spans.greatest.items) (sym are.tops.count) in
              omega (arith, much, few, no_more, f, are.shape.whole, ap length is, length_permutation writes sorted moved))
          | inr unfit ↦ unfit (no_write_gap traces items all_items spans.greatest.items owned_starts greatest (none_written_twice traces items all_items single) whole)
        ]
