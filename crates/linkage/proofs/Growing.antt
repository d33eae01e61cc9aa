-- How what is given grows: by nothing, or by one item.
use Rattle.std.proofs.Common.{◌≡◌, ℕ, ◌⊎◌}
use Rattle.std.specs.Prelude.{Option}
use Rattle.interleavings.specs.declared.traces.Place.{Place}
use Rattle.linkage.specs.declared.numbered.Numbered.{Numbered}
use Rattle.linkage.specs.AllOf.{IsGivenTwice}
use Rattle.linkage.specs.Spans.{IsGivenOne}

module _ {V : Type 0} where
  -- the same is given
  pub record IsSame (given given' : Option Place → Numbered V → Type 0) : Type 0 where
    pub kept : (source : Option Place) (item : Numbered V) → given source item → given' source item
    pub back : (source : Option Place) (item : Numbered V) → given' source item → given source item

  -- one item more is given, by a source that gave none of its owner
  pub record IsMore (given given' : Option Place → Numbered V → Type 0) (new : Option Place) (x : Numbered V) : Type 0 where
    pub kept : (source : Option Place) (item : Numbered V) → given source item → given' source item
    pub here : given' new x
    pub news : (source : Option Place) (item : Numbered V) → given' source item → given source item ⊎ ((source ≡ new) × (item ≡ x))
    pub fresh : (item : Numbered V) → given new item → item.owner ≡ x.owner → ⊥

  module _ (given given' : Option Place → Numbered V → Type 0) (kept : (source : Option Place) (item : Numbered V) → given source item → given' source item) where
    -- what was given still is
    pub one_kept : (owner number : ℕ) → IsGivenOne given owner number → IsGivenOne given' owner number
    one_kept owner number one = record { source = one.source; value = one.value; gives = kept one.source _ one.gives }

    pub twice_kept : (owner number : ℕ) → IsGivenTwice given owner number → IsGivenTwice given' owner number
    twice_kept owner number t = record {
      one = t.one;
      other = t.other;
      differ = t.differ;
      one_value = t.one_value;
      one_gives = kept t.one _ t.one_gives;
      other_value = t.other_value;
      other_gives = kept t.other _ t.other_gives;
    }
