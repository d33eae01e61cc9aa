-- What one event is linked to.
use Rattle.std.proofs.Common.{◌≡◌, ◌∙◌, ℕ, ◌+◌, ◌-◌, ◌<◌, ◌≤◌, inl, inr, length, refl, sym, ap, subst, arith, nat_eq}
use Rattle.std.specs.Prelude.{Some, slice_get, slice_index}
use Rattle.std.specs.Option.{option_and_then}
use Rattle.std.proofs.lemmas.Bool.{cases_Bool, eqb-false, eqb-true}
use Rattle.std.proofs.lemmas.Option.{get_or_from_slice_get}
use Rattle.interleavings.specs.declared.event.Event.TheVariants.{Read, Update}
use Rattle.interleavings.specs.declared.traces.Place.{Place}
use Rattle.interleavings.specs.Events.{write_of, read_of, bound_of}
use Rattle.interleavings.specs.TraceLists.{TraceLists}
use Rattle.linkage.specs.declared.row.Row.{Row}
use Rattle.linkage.specs.Checking.{IsRow}
use Rattle.linkage.specs.Links.{IsLink}
use Rattle.linkage.specs.Misfitting.{IsOldStored, IsLinkedAt, IsUnread}
use Rattle.linkage.specs.Refusals.{IsBoundTooLarge, IsUnequal, IsMismatch}
use Rattle.linkage.specs.Sources.{event_at, Stored, IsReadAt, IsUpdateAt}
use Rattle.linkage.specs.Spans.{place_of}
use Rattle.linkage.proofs.Finds.{stored_held}
use Rattle.linkage.proofs.Frontier.{gives_none, gives_one}
use Rattle.linkage.proofs.Parts.{same_read, same_write}

same_number : (a b : ℕ) → Some a ≡ Some b → a ≡ b
same_number a b same = cc

-- a read
module _ (traces : TraceLists) (at : Place) (cell value bound : ℕ) (there : event_at traces at ≡ Some (Read cell value bound)) where
  pub reads : IsReadAt traces at cell value bound
  reads = record { met = ap (option_and_then read_of) there; within = ap (option_and_then bound_of) there }

  one_read : (c v b : ℕ) → IsReadAt traces at c v b → (c ≡ cell) × (v ≡ value) × (b ≡ bound)
  one_read c v b r =
      let e = same_read _ _ (gives_one traces at (Read cell value bound) there read_of _ _ refl r.met) in
      (e.0, e.1, same_number b bound (gives_one traces at (Read cell value bound) there bound_of _ _ refl r.within))

  pub read_no_mismatch : IsMismatch traces at → ⊥
  read_no_mismatch m = gives_none traces at (Read cell value bound) there write_of _ refl m.updates.made

  module _ (row : Row) (is : IsRow traces row) (own : cell < length traces.starts) where
    pub too_large : slice_index row.spans.greatest.items cell < bound → IsBoundTooLarge traces at
    too_large over = record {
      cell = cell;
      value = value;
      bound = bound;
      reads = reads;
      above = λ number stored s. let t = is.stored cell number stored s in omega (arith, over, t.1.0);
    }

    pub not_too_large : bound ≤ slice_index row.spans.greatest.items cell → IsBoundTooLarge traces at → ⊥
    not_too_large under b =
        let e = one_read b.cell b.value b.bound b.reads in
        let top = is.there cell (slice_index row.spans.greatest.items cell) own (omega arith) in
        let P : ℕ → Type 0 = λ c. Stored traces c (slice_index row.spans.greatest.items cell) top.0 in
        omega (arith, under, e.2, b.above (slice_index row.spans.greatest.items cell) top.0 (subst P (sym e.0) top.2))

  pub linked_here : (number : ℕ) → IsLink traces cell value bound number → IsLinkedAt traces at number × (IsUnequal traces at → ⊥)
  linked_here number link = (
    record { cell = cell; value = value; bound = bound; reads = reads; link = link },
    λ u.
        let e = one_read u.cell u.value u.bound u.reads in
        let P : ℕ × ℕ → Type 0 = λ p. Stored traces p.0 number p.1 in
        let pair : (cell, value) ≡ (u.cell, u.value) = cc (e.0, e.1) in
        u.none number (omega (arith, link.within, e.2)) (subst P pair link.equal),
  )

  pub unequal_here : ((number : ℕ) → number ≤ bound → Stored traces cell number value → ⊥) → IsUnequal traces at
  unequal_here none = record { cell = cell; value = value; bound = bound; reads = reads; none = none }

-- an update
module _ (traces : TraceLists) (at : Place) (cell old new number : ℕ) (there : event_at traces at ≡ Some (Update cell old new number)) where
  pub unread : IsUnread traces at
  unread = ap (option_and_then bound_of) there

  pub update_not_read : (c v b : ℕ) → IsReadAt traces at c v b → ⊥
  update_not_read c v b r = gives_none traces at (Update cell old new number) there bound_of _ refl r.within

  pub update_stored : Stored traces cell number new
  update_stored = (Some at, ap (option_and_then write_of) there)

  updates : IsUpdateAt traces at cell old number
  updates = record { met = ap (option_and_then read_of) there; new = new; made = ap (option_and_then write_of) there }

  pub mismatch_here : ((below : ℕ) → below + 1 ≡ number → Stored traces cell below old → ⊥) → IsMismatch traces at
  mismatch_here none = record { cell = cell; old = old; number = number; updates = updates; none = none }

  pub no_mismatch_here : (below : ℕ) × (below + 1 ≡ number) × Stored traces cell below old → IsMismatch traces at → ⊥
  no_mismatch_here (below, next, stored) m =
      let e = same_read _ _ (gives_one traces at (Update cell old new number) there read_of _ _ refl m.updates.met) in
      let f = same_write _ _ (gives_one traces at (Update cell old new number) there write_of _ _ refl m.updates.made) in
      let P : ℕ × ℕ → Type 0 = λ p. Stored traces p.0 below p.1 in
      let pair : (cell, old) ≡ (m.cell, m.old) = cc (e.0, e.1) in
      let one : below + 1 ≡ m.number = next ∙ sym f.1 in
      m.none below one (subst P pair stored)

-- what the row tells of the write before an update
pub old_stored : (traces : TraceLists) (row : Row) (cell old number place read : ℕ) → IsRow traces row → cell < length traces.starts → number ≤ slice_index row.spans.greatest.items cell → 0 < number → place ≡ place_of row.spans cell (number - 1) → read ≡ slice_index row.values.items place → IsOldStored traces cell old number (nat_eq read old)
old_stored traces row cell old number place read is own most some where_is here =
    let t = is.there cell (number - 1) own (omega arith) in
    let at : slice_get row.values.items place ≡ Some t.0 = ap (slice_get row.values.items) where_is ∙ t.1.1 in
    let value : read ≡ t.0 = here ∙ get_or_from_slice_get row.values.items place t.0 0 at in
    elim (cases_Bool (nat_eq read old)) [
      | inl equal ↦ (
          let same : read ≡ old = eqb-true read old equal in
          let P : ℕ → Type 0 = λ v. Stored traces cell (number - 1) v in
          rw equal (number - 1, omega arith, subst P (sym value ∙ same) t.2))
      | inr apart ↦
          rw apart
          (λ below next stored.
          let b : below ≡ number - 1 = omega arith in
          let Q : ℕ → Type 0 = λ n. Stored traces cell n old in
          let h = stored_held traces row is cell (number - 1) old (subst Q b stored) in
          let both : Some t.0 ≡ Some old = sym t.1.1 ∙ h in
          let same : t.0 ≡ old = cc in
          eqb-false read old apart (value ∙ same))
    ]
