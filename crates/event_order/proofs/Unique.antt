-- Where nothing about links is refused, each number of a cell is that of one write, and each turn of a monitor is entered
-- once.
use Rattle.std.proofs.Common.{◌≡◌, ◌≢◌, ℕ, ◌⊎◌, Option, Some, None, refl, sym, ◌∙◌, ap, ap₂, subst, inl, inr}
use Rattle.std.specs.Prelude.{unwrap_or}
use Rattle.std.specs.Option.{option_and_then}
use Rattle.interleavings.specs.declared.traces.Place.{Place}
use Rattle.interleavings.specs.Events.{WriteOf, TurnOf, write_of, entered_by}
use Rattle.interleavings.specs.TraceLists.{TraceLists}
use Rattle.linkage.specs.declared.link_error.LinkError.{LinkError}
use Rattle.linkage.specs.declared.link_error.LinkError.TheVariants.{TwiceWritten, TwiceTurned}
use Rattle.linkage.specs.Refusals.{IsRefused}
use Rattle.linkage.specs.Sources.{IsWriteAt, IsEntryAt, Stored, event_at}
use Rattle.event_order.proofs.Places.{cases_place}

-- two sources are the same or not
cases_source : (a b : Option Place) → (a ≡ b) ⊎ (a ≢ b)
cases_source None None = inl refl
cases_source None (Some b) = inr (λ e. absurd cc)
cases_source (Some a) None = inr (λ e. absurd cc)
cases_source (Some a) (Some b) = elim (cases_place a b) [
  | inl same ↦ inl (ap (λ p. Some p) same.0)
  | inr apart ↦ inr (λ e. apart.0 cc)
]

-- the place of a source
abbrev pub place_in : Option Place → Place
place_in source = unwrap_or source (record { thread = 0; place = 0 })

-- the write that is there
abbrev pub write_in : Option WriteOf → WriteOf
write_in found = unwrap_or found (record { cell = 0; number = 0; value = 0 })

module _ (traces : TraceLists) (fits : (refusal : LinkError) → IsRefused traces refusal → ⊥) where
  -- writes of one number of a cell have one source
  pub one_write : (a b : Option Place) (cell number value other : ℕ) → IsWriteAt traces a cell number value → IsWriteAt traces b cell number other → a ≡ b
  one_write a b cell number value other first second = elim (cases_source a b) [
    | inl same ↦ same
    | inr apart ↦ absurd (fits (TwiceWritten cell number) (record { one = a; other = b; differ = apart; one_value = value; one_writes = first; other_value = other; other_writes = second }))
  ]

  -- enters of one turn of a monitor have one source
  pub one_enter : (a b : Option Place) (monitor turn : ℕ) → IsEntryAt traces a monitor turn → IsEntryAt traces b monitor turn → a ≡ b
  one_enter a b monitor turn first second = elim (cases_source a b) [
    | inl same ↦ same
    | inr apart ↦ absurd (fits (TwiceTurned monitor turn) (record { one = a; other = b; differ = apart; one_enters = first; other_enters = second }))
  ]

  -- one source stores one value
  same_source : (source : Option Place) (cell number value other : ℕ) → IsWriteAt traces source cell number value → IsWriteAt traces source cell number other → value ≡ other
  same_source None cell number value other first second = let both : Some value ≡ Some other = sym first.1 ∙ second.1 in cc
  same_source (Some at) cell number value other first second = ap (λ (found : Option WriteOf). (write_in found).value) (sym first ∙ second)

  -- one number of a cell stores one value
  pub one_value : (cell number value other : ℕ) → Stored traces cell number value → Stored traces cell number other → value ≡ other
  one_value cell number value other first second =
      let same : first.0 ≡ second.0 = one_write first.0 second.0 cell number value other first.1 second.1 in
      same_source second.0 cell number value other (subst (λ (source : Option Place). IsWriteAt traces source cell number value) same first.1) second.1

  -- two places that write one number of a cell are the same
  pub one_written : (a b : Place) (x y : WriteOf) → option_and_then write_of (event_at traces a) ≡ Some x → option_and_then write_of (event_at traces b) ≡ Some y → x.cell ≡ y.cell → x.number ≡ y.number → a ≡ b
  one_written a b x y first second cell number =
      let same : Some a ≡ Some b = one_write (Some a) (Some b) y.cell y.number x.value y.value (first ∙ ap₂ (λ c n. Some (record { cell = c; number = n; value = x.value })) cell number) second in
      ap place_in same

  -- two places that begin one turn of a monitor are the same
  pub one_begun : (a b : Place) (x y : TurnOf) → option_and_then entered_by (event_at traces a) ≡ Some x → option_and_then entered_by (event_at traces b) ≡ Some y → x.monitor ≡ y.monitor → x.turn ≡ y.turn → a ≡ b
  one_begun a b x y first second monitor turn =
      let same : Some a ≡ Some b = one_enter (Some a) (Some b) y.monitor y.turn (first ∙ ap₂ (λ m n. Some (record { monitor = m; turn = n })) monitor turn) second in
      ap place_in same
