-- Writes at their places, as what is given grows.
use Rattle.std.proofs.Common.{◌≡◌, ◌≢◌, ◌∙◌, ℕ, Bool, true, false, inl, inr, List, length, set, refl, sym, ap, subst, arith, get_or-set_same, get_or-set_other}
use Rattle.std.specs.Prelude.{Option, slice_index}
use Rattle.std.specs.List.{slice_index_or}
use Rattle.std.proofs.lemmas.Bool.{cases_eq}
use Rattle.std.proofs.lemmas.List.{length-set}
use Rattle.interleavings.specs.declared.traces.Place.{Place}
use Rattle.linkage.specs.declared.numbered.Numbered.{Numbered}
use Rattle.linkage.specs.declared.placing.Placing.{Placing}
use Rattle.linkage.specs.declared.spans.Spans.{Spans}
use Rattle.linkage.specs.AllOf.{IsGivenTwice}
use Rattle.linkage.specs.Placing.{IsPlaced, IsPut}
use Rattle.linkage.specs.Spans.{AreMarks, AreSpans, HasPlace, IsGivenOne, place_of}
use Rattle.linkage.proofs.Growing.{IsSame, IsMore, one_kept, twice_kept}
use Rattle.linkage.proofs.SpanPlaces.{place_inside, places_apart}

pub true_not_false : (b : Bool) → b ≡ true → b ≡ false → ⊥
true_not_false b is_true is_false = cc

module _ {V : Type 0} (given given' : Option Place → Numbered V → Type 0) (spans : Spans) (marks : List Bool) (are : AreMarks given spans marks) where
  pub marks_same : IsSame given given' → AreMarks given' spans marks
  marks_same same = record {
    count = are.count;
    marked = λ owner number has one. are.marked owner number has (one_kept given' given same.back owner number one);
    meant = λ owner number has marked. one_kept given given' same.kept owner number (are.meant owner number has marked);
  }

  module _ (new : Option Place) (x : Numbered V) (more : IsMore given given' new x) where
    -- what is given now was given before, unless it is the new item
    pub old_or_new : (owner number : ℕ) → IsGivenOne given' owner number → (owner ≡ x.owner → number ≡ x.number → ⊥) → IsGivenOne given owner number
    old_or_new owner number one apart =
        elim (more.news one.source _ one.gives) [
          | inl was ↦ record { source = one.source; value = one.value; gives = was }
          | inr new ↦ absurd (apart (ap (λ (i : Numbered V). i.owner) new.1) (ap (λ (i : Numbered V). i.number) new.1))
        ]

    -- the new item has no place
    pub marks_beyond : (HasPlace spans x.owner x.number → ⊥) → AreMarks given' spans marks
    marks_beyond beyond = record {
      count = are.count;
      marked = λ owner number has one. are.marked owner number has (old_or_new owner number one (λ own same. beyond (moved owner number own same has)));
      meant = λ owner number has marked. one_kept given given' more.kept owner number (are.meant owner number has marked);
    }
      where
        moved : (owner number : ℕ) → owner ≡ x.owner → number ≡ x.number → HasPlace spans owner number → HasPlace spans x.owner x.number
        moved owner number own same has =
            let P : ℕ → Type 0 = λ o. HasPlace spans o number in
            let Q : ℕ → Type 0 = λ n. HasPlace spans x.owner n in
            subst Q same (subst P own has)

    -- the place of the new item is marked
    pub marks_more : AreSpans spans → HasPlace spans x.owner x.number → AreMarks given' spans (set marks (place_of spans x.owner x.number) true)
    marks_more shape there = record { count = length-set marks place true ∙ are.count; marked = marked; meant = meant }
      where
        place : ℕ
        place = place_of spans x.owner x.number

        here : slice_index_or (set marks place true) place false ≡ true
        here = get_or-set_same marks place true false (omega (arith, place_inside spans shape x.owner x.number there, are.count))

        elsewhere : (i : ℕ) → i ≢ place → slice_index_or (set marks place true) i false ≡ slice_index_or marks i false
        elsewhere i apart = get_or-set_other marks place i true false apart

        marked : (owner number : ℕ) → HasPlace spans owner number → IsGivenOne given' owner number → slice_index_or (set marks place true) (place_of spans owner number) false ≡ true
        marked owner number has one =
            elim (cases_eq (place_of spans owner number) place) [
              | inl same ↦ ap (λ i. slice_index_or (set marks place true) i false) same ∙ here
              | inr apart ↦ elsewhere (place_of spans owner number) apart ∙ are.marked owner number has (old_or_new owner number one (λ own same. apart (moved owner number own same)))
            ]
          where
            moved : (owner number : ℕ) → owner ≡ x.owner → number ≡ x.number → place_of spans owner number ≡ place
            moved owner number own same = let first : slice_index spans.firsts.items owner ≡ slice_index spans.firsts.items x.owner = ap (slice_index spans.firsts.items) own in omega (arith, first, same)

        meant : (owner number : ℕ) → HasPlace spans owner number → slice_index_or (set marks place true) (place_of spans owner number) false ≡ true → IsGivenOne given' owner number
        meant owner number has is =
            elim (cases_eq (place_of spans owner number) place) [
              | inl same ↦ (
                  let e = places_apart spans shape owner number x.owner x.number has there same in
                  let P : ℕ → Type 0 = λ o. IsGivenOne given' o number in
                  let Q : ℕ → Type 0 = λ n. IsGivenOne given' x.owner n in
                  subst P (sym e.0) (subst Q (sym e.1) (record { source = new; value = x.value; gives = more.here })))
              | inr apart ↦ one_kept given given' more.kept owner number (are.meant owner number has (sym (elsewhere (place_of spans owner number) apart) ∙ is))
            ]

    -- where the new item is the first of its number, no number is given twice
    pub single_more : (IsGivenOne given x.owner x.number → ⊥) → ((owner number : ℕ) → IsGivenTwice given owner number → ⊥) → (owner number : ℕ) → IsGivenTwice given' owner number → ⊥
    single_more first single owner number twice =
        let a : Numbered V = record { owner = owner; number = number; value = twice.one_value } in
        let b : Numbered V = record { owner = owner; number = number; value = twice.other_value } in
        elim (more.news twice.one a twice.one_gives) [
          | inl one_old ↦
              elim (more.news twice.other b twice.other_gives) [
                | inl other_old ↦ single owner number (record { one = twice.one; other = twice.other; differ = twice.differ; one_value = twice.one_value; one_gives = one_old; other_value = twice.other_value; other_gives = other_old })
                | inr new ↦ not_first owner number b (refl, refl) new.1 (record { source = twice.one; value = twice.one_value; gives = one_old })
              ]
          | inr new ↦
              elim (more.news twice.other b twice.other_gives) [
                | inl other_old ↦ not_first owner number a (refl, refl) new.1 (record { source = twice.other; value = twice.other_value; gives = other_old })
                | inr also ↦ twice.differ (new.0 ∙ sym also.0)
              ]
        ]
      where
        not_first : (owner number : ℕ) (item : Numbered V) → (owner ≡ item.owner) × (number ≡ item.number) → item ≡ x → IsGivenOne given owner number → ⊥
        not_first owner number item key is one =
            let P : ℕ → Type 0 = λ o. IsGivenOne given o number in
            let Q : ℕ → Type 0 = λ n. IsGivenOne given x.owner n in
            first (subst Q (key.1 ∙ ap (λ (i : Numbered V). i.number) is) (subst P (key.0 ∙ ap (λ (i : Numbered V). i.owner) is) one))

    -- a number that is given once more is given twice
    pub twice_now : IsGivenOne given x.owner x.number → IsGivenTwice given' x.owner x.number
    twice_now one = record {
      one = one.source;
      other = new;
      differ = λ same. more.fresh _ (subst (λ (source : Option Place). given source (record { owner = x.owner; number = x.number; value = one.value })) same one.gives) refl;
      one_value = one.value;
      one_gives = more.kept one.source _ one.gives;
      other_value = x.value;
      other_gives = more.here;
    }

-- writes
module _ (given given' : Option Place → Numbered ℕ → Type 0) (spans : Spans) where
  pub placed_same : (placing : Placing) → IsPlaced given spans placing → IsSame given given' → IsPlaced given' spans placing
  placed_same placing placed same = record {
    marks = marks_same given given' spans placing.filled.items placed.marks same;
    count = placed.count;
    values = λ source item gives. placed.values source item (same.back source item gives);
    single = λ owner number twice. placed.single owner number (twice_kept given' given same.back owner number twice);
  }

  -- one write more, at a place that has none
  pub placed_more : AreSpans spans → (old new : Placing) (source : Option Place) (x : Numbered ℕ) → IsPlaced given spans old → IsMore given given' source x → HasPlace spans x.owner x.number → (IsGivenOne given x.owner x.number → ⊥) → ((source : Option Place) (item : Numbered ℕ) → given source item → HasPlace spans item.owner item.number) → IsPut (place_of spans x.owner x.number) x.value old new → IsPlaced given' spans new
  placed_more shape old new source x placed more there first within put = record {
    marks = rw put.1 (marks_more given given' spans old.filled.items placed.marks source x more shape there);
    count = ap length put.0 ∙ (length-set old.values.items place x.value ∙ placed.count);
    values = values;
    single = single_more given given' spans old.filled.items placed.marks source x more first placed.single;
  }
    where
      place : ℕ
      place = place_of spans x.owner x.number

      here : slice_index (set old.values.items place x.value) place ≡ x.value
      here = get_or-set_same old.values.items place x.value 0 (omega (arith, place_inside spans shape x.owner x.number there, placed.count))

      values : (s : Option Place) (item : Numbered ℕ) → given' s item → slice_index new.values.items (place_of spans item.owner item.number) ≡ item.value
      values s item gives =
          rw put.0
          (elim (more.news s item gives) [
            | inl was ↦
                elim (cases_eq (place_of spans item.owner item.number) place) [
                  | inl same ↦ absurd (first (moved item (places_apart spans shape item.owner item.number x.owner x.number (within s item was) there same) (record { source = s; value = item.value; gives = was })))
                  | inr apart ↦ get_or-set_other old.values.items place (place_of spans item.owner item.number) x.value 0 apart ∙ placed.values s item was
                ]
            | inr one ↦ (
                let P : Numbered ℕ → Type 0 = λ i. slice_index (set old.values.items place x.value) (place_of spans i.owner i.number) ≡ i.value in
                subst P (sym one.1) here)
          ])
        where
          moved : (item : Numbered ℕ) → (item.owner ≡ x.owner) × (item.number ≡ x.number) → IsGivenOne given item.owner item.number → IsGivenOne given x.owner x.number
          moved item e one =
              let P : ℕ → Type 0 = λ o. IsGivenOne given o item.number in
              let Q : ℕ → Type 0 = λ n. IsGivenOne given x.owner n in
              subst Q e.1 (subst P e.0 one)
