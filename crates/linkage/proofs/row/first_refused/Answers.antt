use Rattle.std.proofs.Common.{◌≡◌, ℕ, refl, sym, subst, List, length}
use Rattle.std.specs.Prelude.{Option, Some, None}
use Rattle.std.specs.Option.{IsSome}
use Rattle.linkage.specs.Numbers.{AreOwned, AreStarted, IsFirstGap}
use Rattle.linkage.proofs.RefusedWrites.{in_order, owned_items, started_items, twice_first, gap_first, some_gap}
use Rattle.linkage.proofs.row.first_refused.Goals as goal

some_if : {X : Type 0} (found : Option X) → (found ≡ None → ⊥) → IsSome found
some_if None never = absurd (never refl)
some_if (Some x) never = refl

pub first_twice-requires : goal.first_twice-requires
first_twice-requires g c =
    let gathered = c.in_ok-writes.ensures.gathered in
    in_order c.args.traces.now c.args.spans.now c.requires.spans c.in_ok-writes.field-0.writes.items c.sort.new.items.items c.as_slice-items.result.now gathered.writes gathered.within.writes c.sort.ensures.permutation c.as_slice-items.ensures.value c.sort.ensures.ordered

pub returns-in-Some-clause-told : goal.returns-in-Some-clause-told
returns-in-Some-clause-told g c =
    let gathered = c.in_ok-writes.ensures.gathered in
    twice_first c.args.traces.now c.args.spans.now c.requires.spans c.in_ok-writes.field-0.writes.items c.sort.new.items.items c.as_slice-items.result.now gathered.writes gathered.within.writes c.sort.ensures.permutation c.as_slice-items.ensures.value c.sort.ensures.ordered c.in-Some.cell c.in-Some.number c.in-Some.ensures

pub first_gap-requires-clause-ordered : goal.first_gap-requires-clause-ordered
first_gap-requires-clause-ordered g c =
    let gathered = c.in_ok-writes.ensures.gathered in
    in_order c.args.traces.now c.args.spans.now c.requires.spans c.in_ok-writes.field-0.writes.items c.sort.new.items.items c.as_slice-items.result.now gathered.writes gathered.within.writes c.sort.ensures.permutation c.as_slice-items.ensures.value c.sort.ensures.ordered

pub first_gap-requires-clause-owned : goal.first_gap-requires-clause-owned
first_gap-requires-clause-owned g c =
    let gathered = c.in_ok-writes.ensures.gathered in
    let P : List ℕ → Type 0 = λ greatest. AreOwned c.as_slice-items.result.now (length greatest) in
    subst P (sym c.as_slice.ensures.value)
    (owned_items c.args.traces.now c.args.spans.now c.requires.spans c.in_ok-writes.field-0.writes.items c.sort.new.items.items c.as_slice-items.result.now gathered.writes gathered.within.writes c.sort.ensures.permutation c.as_slice-items.ensures.value c.sort.ensures.ordered)

pub first_gap-requires-clause-started : goal.first_gap-requires-clause-started
first_gap-requires-clause-started g c =
    let gathered = c.in_ok-writes.ensures.gathered in
    let P : List ℕ → Type 0 = λ greatest. AreStarted c.as_slice-items.result.now (length greatest) in
    subst P (sym c.as_slice.ensures.value)
    (started_items c.args.traces.now c.args.spans.now c.requires.spans c.in_ok-writes.field-0.writes.items c.sort.new.items.items c.as_slice-items.result.now gathered.writes gathered.within.writes c.sort.ensures.permutation c.as_slice-items.ensures.value c.sort.ensures.ordered)

pub unwrap-cell-requires : goal.unwrap-cell-requires
unwrap-cell-requires g c =
    let gathered = c.in_ok-writes.ensures.gathered in
    let P : List ℕ → Type 0 = λ greatest. IsFirstGap c.as_slice-items.result.now greatest c.first_gap.result in
    let Q : Option (ℕ × ℕ) → Type 0 = λ found. IsFirstGap c.as_slice-items.result.now c.args.spans.now.greatest.items found in
    let found = subst P c.as_slice.ensures.value c.first_gap.ensures in
    some_if c.first_gap.result (λ none.
    some_gap c.args.traces.now c.args.spans.now c.requires.spans c.in_ok-writes.field-0.writes.items c.sort.new.items.items c.as_slice-items.result.now gathered.writes gathered.within.writes c.sort.ensures.permutation c.as_slice-items.ensures.value c.sort.ensures.ordered c.in_default.ensures gathered.few c.requires.unplaced (subst Q none found))

pub returns-clause-told : goal.returns-clause-told
returns-clause-told g c =
    let gathered = c.in_ok-writes.ensures.gathered in
    let P : List ℕ → Type 0 = λ greatest. IsFirstGap c.as_slice-items.result.now greatest c.first_gap.result in
    let Q : Option (ℕ × ℕ) → Type 0 = λ found. IsFirstGap c.as_slice-items.result.now c.args.spans.now.greatest.items found in
    let found = subst P c.as_slice.ensures.value c.first_gap.ensures in
    gap_first c.args.traces.now c.args.spans.now c.requires.spans c.in_ok-writes.field-0.writes.items c.sort.new.items.items c.as_slice-items.result.now gathered.writes gathered.within.writes c.sort.ensures.permutation c.as_slice-items.ensures.value c.sort.ensures.ordered c.in_default.ensures c.unwrap-cell.result.0 c.unwrap-cell.result.1 (subst Q c.unwrap-cell.ensures found)
