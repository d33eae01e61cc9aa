-- Finding the write of a read, in the row and in the index.
use Rattle.std.proofs.Common.{◌≡◌, ◌∙◌, ℕ, ◌+◌, ◌-◌, ◌*◌, ◌^◌, ◌<◌, ◌≤◌, inl, inr, List, length, sym, ap, subst, arith}
use Rattle.std.specs.Prelude.{Option, Some, None, slice_get, slice_index}
use Rattle.std.specs.Option.{IfSome}
use Rattle.std.proofs.Math.Pow.{pow_mono}
use Rattle.std.proofs.lemmas.Bool.{cases_eq, cases_lt}
use Rattle.std.proofs.lemmas.Option.{slice_get-get_or}
use Rattle.stride_base.specs.Ascending.{Triple, HaveSameMembers}
use Rattle.stride_isa.specs.Limits.{cell_limit, fuel_limit, thread_limit}
use Rattle.interleavings.specs.TraceLists.{TraceLists}
use Rattle.linkage.specs.declared.row.Row.{Row}
use Rattle.linkage.specs.Answers.{IsLatest}
use Rattle.linkage.specs.Checking.{IsRow}
use Rattle.linkage.specs.Finding.{Holds, IsNearBelow, IsNear, IsIndex, IsLinkOrNone, IsWindow, index_looks, window_looks}
use Rattle.linkage.specs.Indexing.{AreListedBefore, AreListedFrom}
use Rattle.linkage.specs.Links.{IsLink}
use Rattle.linkage.specs.Sources.{Stored}
use Rattle.linkage.specs.Spans.{HasPlace, place_of, places_before}

-- near the bound
module _ (row : Row) (cell value bound below place read : ℕ) (where_is : place ≡ place_of row.spans cell bound) (inside : place < length row.values.items) (is : read ≡ slice_index row.values.items (place - below)) (under : below ≤ bound) (so_far : IsNearBelow row cell value bound below) where
  there : slice_get row.values.items (place_of row.spans cell (bound - below)) ≡ Some read
  there =
      let e : place_of row.spans cell (bound - below) ≡ place - below = omega arith in
      ap (slice_get row.values.items) e ∙ (slice_get-get_or row.values.items (place - below) 0 (omega arith) ∙ ap Some (sym is))

  pub near_hit : read ≡ value → IsNear row cell value bound (Some (bound - below))
  near_hit same = (omega arith, there ∙ ap Some same, λ other within above holds. so_far other within (omega arith) holds)

  pub near_miss : (read ≡ value → ⊥) → IsNearBelow row cell value bound (below + 1)
  near_miss apart number within above holds =
      elim (cases_eq number (bound - below)) [
        | inl same ↦ (
            let P : ℕ → Type 0 = λ n. Holds row cell n value in
            let h : Some read ≡ Some value = sym there ∙ subst P same holds in
            apart cc)
        | inr off ↦ so_far number within (omega (arith, off)) holds
      ]

module _ (traces : TraceLists) (row : Row) (is : IsRow traces row) where
  -- what is stored is what the row holds
  pub stored_held : (cell number value : ℕ) → Stored traces cell number value → Holds row cell number value
  stored_held cell number value stored = (is.stored cell number value stored).1.1

  pub held_stored : (cell number value : ℕ) → cell < length traces.starts → number ≤ slice_index row.spans.greatest.items cell → Holds row cell number value → Stored traces cell number value
  held_stored cell number value own most holds =
      let t = is.there cell number own most in
      let both : Some t.0 ≡ Some value = sym t.1.1 ∙ holds in
      let same : t.0 ≡ value = cc in
      subst (λ (v : ℕ). Stored traces cell number v) same t.2

  -- the cell's number has a place
  pub row_place : (cell number : ℕ) → cell < length traces.starts → number ≤ slice_index row.spans.greatest.items cell → HasPlace row.spans cell number
  row_place cell number own most = (omega (arith, is.greatest, own), most)

  pub near_link : (cell value bound number : ℕ) → cell < length traces.starts → bound ≤ slice_index row.spans.greatest.items cell → IsNear row cell value bound (Some number) → IsLink traces cell value bound number
  near_link cell value bound number own most near = record {
    within = near.0;
    equal = held_stored cell number value own (omega (arith, near.0)) near.1;
    greatest = λ other within stored.
        elim (cases_lt number other) [
          | inl above ↦ absurd (near.2 other within above (stored_held cell other value stored))
          | inr under ↦ under
        ];
  }

  -- the sorted triples of all writes are the index
  pub index_from : (cells : ℕ) (triples index : List Triple) → cells ≡ length traces.starts → AreListedBefore row cells 0 triples → HaveSameMembers triples index → length index ≡ length triples → IsIndex traces index
  index_from cells triples index all listed members count = record {
    exact = λ cell number value. (
      λ stored.
          let s = is.stored cell number value stored in
          (members (cell, value, number)).0 ((listed.exact cell number value).0 (row_place cell number s.0 s.1.0, inl (omega (arith, all, s.0)), s.1.1)),
      λ contained.
          let l = (listed.exact cell number value).1 ((members (cell, value, number)).1 contained) in
          held_stored cell number value (omega (arith, is.greatest, l.0.0)) l.0.1 l.2,
    );
    few =
        let e : places_before row.spans.greatest.items cells ≡ places_before row.spans.greatest.items (length row.spans.greatest.items) = ap (places_before row.spans.greatest.items) (omega (arith, all, is.greatest)) in
        omega (arith, is.few, count, listed.count, is.shape.count, is.shape.spans.whole, e);
  }

-- the sorted triples of the writes below a bound are their index
pub window_from : (row : Row) (cell bound width first : ℕ) (triples index : List Triple) → first ≡ bound - width → AreListedFrom row cell first (bound + 1) triples → HaveSameMembers triples index → length index ≡ length triples → IsWindow row cell bound width index
window_from row cell bound width first triples index start listed members count = record {
  exact = λ number value. (
    λ held. (members (cell, value, number)).0 ((listed.exact number value).0 (omega (arith, start, held.1), omega (arith, held.0), held.2)),
    λ contained. let h = (listed.exact number value).1 ((members (cell, value, number)).1 contained) in (omega (arith, h.1), omega (arith, start, h.0), h.2),
  );
  few = omega (arith, start, count, listed.count);
}

-- what the index of the writes below a bound tells of a read
pub near_from_window : (row : Row) (cell value bound width : ℕ) (index : List Triple) (found : Option ℕ) → IsWindow row cell bound width index → IsLatest index cell value bound found → IsNear row cell value bound found
near_from_window row cell value bound width index None is latest = tt
near_from_window row cell value bound width index (Some number) is latest =
    let h = (is.exact number value).1 latest.listed in (
      h.0,
      h.2,
      λ other within above holds. (
          let most = latest.greatest other within ((is.exact other value).0 (within, omega (arith, above, h.1), holds)) in
          omega (arith, above, most)),
    )

pub link_from_window : (traces : TraceLists) (row : Row) → IsRow traces row → (cell value bound width : ℕ) (index : List Triple) (found : Option ℕ) → cell < length traces.starts → bound ≤ slice_index row.spans.greatest.items cell → IsWindow row cell bound width index → IsLatest index cell value bound found → IfSome found (IsLink traces cell value bound)
link_from_window traces row is cell value bound width index None own most window latest = tt
link_from_window traces row is cell value bound width index (Some number) own most window latest = near_link traces row is cell value bound number own most (near_from_window row cell value bound width index (Some number) window latest)

-- halving so few members takes few looks
pub few_window_looks : (looks count width : ℕ) → width ≤ 1024 → count ≤ width + 1 → 2 ^ looks ≤ 2 * count + 1 → looks ≤ window_looks
few_window_looks looks count width narrow few halved =
    elim (cases_lt window_looks looks) [
      | inl more ↦ absurd (let large : 2 ^ 12 ≤ 2 ^ looks = pow_mono {i = 12} {j = looks} (omega arith) in omega (arith, large))
      | inr under ↦ under
    ]

-- what the index tells of a read
pub link_from_index : (traces : TraceLists) (index : List Triple) (cell value bound : ℕ) (found : Option ℕ) → IsIndex traces index → IsLatest index cell value bound found → IsLinkOrNone traces cell value bound found
link_from_index traces index cell value bound None is latest = λ number within stored. latest number within ((is.exact cell number value).0 stored)
link_from_index traces index cell value bound (Some number) is latest = record {
  within = latest.within;
  equal = (is.exact cell number value).1 latest.listed;
  greatest = λ other within stored. latest.greatest other within ((is.exact cell other value).0 stored);
}

-- halving so few members takes few looks
pub few_looks : (looks count : ℕ) → count ≤ fuel_limit * thread_limit + cell_limit → 2 ^ looks ≤ 2 * count + 1 → looks ≤ index_looks
few_looks looks count few halved =
    elim (cases_lt index_looks looks) [
      | inl more ↦ absurd (let large : 2 ^ 25 ≤ 2 ^ looks = pow_mono {i = 25} {j = looks} (omega arith) in omega (arith, large))
      | inr under ↦ under
    ]
