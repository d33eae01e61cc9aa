-- The triples of the row's writes, as they are listed one by one.
use Rattle.std.proofs.Common.{◌≡◌, ◌∙◌, ℕ, ◌+◌, ◌<◌, ◌≤◌, ◌⊎◌, inl, inr, List, [], ◌∷◌, ◌++◌, length, get_or, refl, sym, ap, subst, arith, length-append}
use Rattle.std.specs.Prelude.{Some, slice_get, slice_index, Contains}
use Rattle.std.proofs.Math.Nat.{eq-or-lt_of_le}
use Rattle.std.proofs.lemmas.Option.{slice_get-get_or, slice_get_within, get_or_from_slice_get}
use Rattle.stride_base.specs.Ascending.{Triple, AreDistinct}
use Rattle.linkage.specs.declared.row.Row.{Row}
use Rattle.linkage.specs.Finding.{Holds}
use Rattle.linkage.specs.Indexing.{AreListedBefore, AreListedFrom}
use Rattle.linkage.specs.Numbers.{Earlier}
use Rattle.linkage.specs.Spans.{HasPlace, place_of}
use Rattle.linkage.proofs.AllOfLists.{get_pushed, get_kept, get_new}
use Rattle.linkage.proofs.SpanPlaces.{places_more}

module _ (xs : List Triple) (x : Triple) where
  -- what is listed stays listed
  contains_kept : (y : Triple) → Contains xs y → Contains (xs ++ x ∷ []) y
  contains_kept y c =
      let at = get_kept xs x y c.0 (slice_get-get_or xs c.0 y c.1 ∙ ap Some c.2) in
      (c.0, omega (arith, c.1, length-append {A = Triple}), get_or_from_slice_get (xs ++ x ∷ []) c.0 y y at)

  contains_new : Contains (xs ++ x ∷ []) x
  contains_new = (length xs, omega (arith, length-append {A = Triple}), get_or_from_slice_get (xs ++ x ∷ []) (length xs) x x (get_new xs x))

  contains_back : (y : Triple) → Contains (xs ++ x ∷ []) y → Contains xs y ⊎ (y ≡ x)
  contains_back y c =
      elim (get_pushed xs x y c.0 (slice_get-get_or (xs ++ x ∷ []) c.0 y c.1 ∙ ap Some c.2)) [
        | inl was ↦ inl (c.0, inside c.0 y was, get_or_from_slice_get xs c.0 y y was)
        | inr new ↦ inr new.1
      ]
    where
      inside : (i : ℕ) (z : Triple) → slice_get xs i ≡ Some z → i < length xs
      inside i z is = slice_get_within xs i z is

  read_old : (i : ℕ) (d : Triple) → i < length xs → get_or (xs ++ x ∷ []) i d ≡ get_or xs i d
  read_old i d inside = get_or_from_slice_get (xs ++ x ∷ []) i (get_or xs i d) d (get_kept xs x (get_or xs i d) i (slice_get-get_or xs i d inside))

  read_new : (i : ℕ) (d : Triple) → i ≡ length xs → get_or (xs ++ x ∷ []) i d ≡ x
  read_new i d is = get_or_from_slice_get (xs ++ x ∷ []) i x d (ap (slice_get (xs ++ x ∷ [])) is ∙ get_new xs x)

  last_or_not : (i : ℕ) → i < length (xs ++ x ∷ []) → (i < length xs) ⊎ (i ≡ length xs)
  last_or_not i inside =
      elim (eq-or-lt_of_le {n = i} {m = length xs} (omega (arith, inside, length-append {A = Triple}))) [ inl last ↦ inr last | inr less ↦ inl less ]

  -- a triple that is not listed yet differs from those that are
  distinct_more : AreDistinct xs → (Contains xs x → ⊥) → AreDistinct (xs ++ x ∷ [])
  distinct_more distinct new i j d i_in j_in same =
      elim (last_or_not i i_in) [
        | inl i_old ↦
            elim (last_or_not j j_in) [
              | inl j_old ↦ distinct i j d i_old j_old (sym (read_old i d i_old) ∙ (same ∙ read_old j d j_old))
              | inr j_last ↦ absurd (new (listed i i_old d (sym (read_old i d i_old) ∙ (same ∙ read_new j d j_last))))
            ]
        | inr i_last ↦
            elim (last_or_not j j_in) [
              | inl j_old ↦ absurd (new (listed j j_old d (sym (read_old j d j_old) ∙ (sym same ∙ read_new i d i_last))))
              | inr j_last ↦ i_last ∙ sym j_last
            ]
      ]
    where
      listed : (i : ℕ) → i < length xs → (d : Triple) → get_or xs i d ≡ x → Contains xs x
      listed i inside d is = (i, inside, get_or_from_slice_get xs i x x (slice_get-get_or xs i d inside ∙ ap Some is))

module _ (writes : Row) where
  -- nothing is listed before the first cell
  pub listed_start : AreListedBefore writes 0 0 []
  listed_start = record {
    count = refl;
    exact = λ c n value. (λ held. absurd (elim held.1 [ inl less ↦ omega (arith, less) | inr same ↦ omega (arith, same.1) ]), λ contained. absurd (omega (arith, contained.1)));
    distinct = λ i j d i_in j_in same. absurd (omega arith);
  }

  module _ (cell number : ℕ) (triples : List Triple) where
    -- one write more
    pub listed_step : (value : ℕ) → HasPlace writes.spans cell number → Holds writes cell number value → AreListedBefore writes cell number triples → AreListedBefore writes cell (number + 1) (triples ++ (cell, value, number) ∷ [])
    listed_step value has holds listed = record {
      count = omega (arith, listed.count, length-append {A = Triple});
      exact = λ c n v. (to c n v, back c n v);
      distinct = distinct_more triples x listed.distinct (λ contained. not_yet ((listed.exact cell number value).1 contained).1);
    }
      where
        x : Triple
        x = (cell, value, number)

        not_yet : Earlier cell number cell number → ⊥
        not_yet before = elim before [ inl less ↦ omega (arith, less) | inr same ↦ omega (arith, same.1) ]

        earlier_or_here : (c n : ℕ) → Earlier c n cell (number + 1) → Earlier c n cell number ⊎ ((c ≡ cell) × (n ≡ number))
        earlier_or_here c n before =
            elim before [
              | inl less ↦ inl (inl less)
              | inr same ↦
                  elim (eq-or-lt_of_le {n = n} {m = number} (omega (arith, same.1))) [
                    | inl here ↦ inr (same.0, here)
                    | inr less ↦ inl (inr (same.0, less))
                  ]
            ]

        to : (c n v : ℕ) → HasPlace writes.spans c n × Earlier c n cell (number + 1) × Holds writes c n v → Contains (triples ++ x ∷ []) (c, v, n)
        to c n v (there, before, held) =
            elim (earlier_or_here c n before) [
              | inl earlier ↦ contains_kept triples x (c, v, n) ((listed.exact c n v).0 (there, earlier, held))
              | inr here ↦ (
                  let first : slice_index writes.spans.firsts.items c ≡ slice_index writes.spans.firsts.items cell = ap (slice_index writes.spans.firsts.items) here.0 in
                  let place : place_of writes.spans c n ≡ place_of writes.spans cell number = omega (arith, first, here.1) in
                  let both : Some v ≡ Some value = sym held ∙ (ap (slice_get writes.values.items) place ∙ holds) in
                  let same : v ≡ value = cc in
                  let t : Triple = (c, v, n) in
                  let one : t ≡ x = cc (here.0, here.1) in
                  subst (Contains (triples ++ x ∷ [])) (sym one) (contains_new triples x))
            ]

        back : (c n v : ℕ) → Contains (triples ++ x ∷ []) (c, v, n) → HasPlace writes.spans c n × Earlier c n cell (number + 1) × Holds writes c n v
        back c n v contained =
            elim (contains_back triples x (c, v, n) contained) [
              | inl was ↦ (
                  let h = (listed.exact c n v).1 was in
                  (h.0, elim h.1 [ inl less ↦ inl less | inr same ↦ inr (same.0, omega (arith, same.1)) ], h.2))
              | inr new ↦ (
                  let P : Triple → Type 0 = λ t. HasPlace writes.spans t.0 t.2 × Earlier t.0 t.2 cell (number + 1) × Holds writes t.0 t.2 t.1 in
                  subst P (sym new) (has, inr (refl, omega arith), holds))
            ]

    -- all writes of a cell
    pub listed_end : cell < length writes.spans.greatest.items → number ≡ slice_index writes.spans.greatest.items cell → AreListedBefore writes cell (number + 1) triples → AreListedBefore writes (cell + 1) 0 triples
    listed_end own top listed = record {
      count = omega (arith, listed.count, top, places_more writes.spans.greatest.items cell own);
      exact = λ c n v. (
        λ held. (listed.exact c n v).0 (held.0, up c n held.0 held.1, held.2),
        λ contained. let h = (listed.exact c n v).1 contained in (h.0, inl (elim h.1 [ inl less ↦ omega (arith, less) | inr same ↦ omega (arith, same.0) ]), h.2),
      );
      distinct = listed.distinct;
    }
      where
        up : (c n : ℕ) → HasPlace writes.spans c n → Earlier c n (cell + 1) 0 → Earlier c n cell (number + 1)
        up c n has before =
            elim before [
              | inl less ↦
                  elim (eq-or-lt_of_le {n = c} {m = cell} (omega (arith, less))) [
                    | inl same ↦ (
                        let e : slice_index writes.spans.greatest.items c ≡ slice_index writes.spans.greatest.items cell = ap (slice_index writes.spans.greatest.items) same in
                        inr (same, omega (arith, e, has.1, top)))
                    | inr lower ↦ inl lower
                  ]
              | inr none ↦ absurd (omega (arith, none.1))
            ]

  -- nothing is listed from a number on before itself
  pub span_start : (cell first : ℕ) → AreListedFrom writes cell first first []
  span_start cell first = record {
    count = omega arith;
    exact = λ n value. (λ held. absurd (omega (arith, held.0, held.1)), λ contained. absurd (omega (arith, contained.1)));
    distinct = λ i j d i_in j_in same. absurd (omega arith);
  }

  module _ (cell first number : ℕ) (triples : List Triple) where
    -- one write more
    pub span_step : (value : ℕ) → first ≤ number → Holds writes cell number value → AreListedFrom writes cell first number triples → AreListedFrom writes cell first (number + 1) (triples ++ (cell, value, number) ∷ [])
    span_step value order holds listed = record {
      count = omega (arith, listed.count, length-append {A = Triple});
      exact = λ n v. (to n v, back n v);
      distinct = distinct_more triples x listed.distinct not_yet;
    }
      where
        x : Triple
        x = (cell, value, number)

        not_yet : Contains triples x → ⊥
        not_yet contained = let h = (listed.exact number value).1 contained in omega (arith, h.1)

        to : (n v : ℕ) → (first ≤ n) × (n < number + 1) × Holds writes cell n v → Contains (triples ++ x ∷ []) (cell, v, n)
        to n v (from, before, held) =
            elim (eq-or-lt_of_le {n = n} {m = number} (omega (arith, before))) [
              | inl here ↦ (
                  let P : ℕ → Type 0 = λ m. Holds writes cell m v in
                  let moved : Holds writes cell number v = subst P here held in
                  let both : Some v ≡ Some value = sym moved ∙ holds in
                  let same : v ≡ value = cc in
                  let t : Triple = (cell, v, n) in
                  let one : t ≡ x = cc (here, same) in
                  subst (Contains (triples ++ x ∷ [])) (sym one) (contains_new triples x))
              | inr less ↦ contains_kept triples x (cell, v, n) ((listed.exact n v).0 (from, less, held))
            ]

        back : (n v : ℕ) → Contains (triples ++ x ∷ []) (cell, v, n) → (first ≤ n) × (n < number + 1) × Holds writes cell n v
        back n v contained =
            elim (contains_back triples x (cell, v, n) contained) [
              | inl was ↦ (
                  let h = (listed.exact n v).1 was in
                  (h.0, omega (arith, h.1), h.2))
              | inr new ↦ (
                  let P : Triple → Type 0 = λ t. (first ≤ t.2) × (t.2 < number + 1) × Holds writes cell t.2 t.1 in
                  subst P (sym new) (order, omega arith, holds))
            ]
