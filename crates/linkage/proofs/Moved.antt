-- All items stay listed when their list is sorted.
use Rattle.std.proofs.Common.{◌≡◌, ◌∙◌, ℕ, ◌<◌, ◌≤◌, ◌⊎◌, inl, inr, List, length, get_or, set, refl, sym, ap, subst, arith, get_or-set_same, get_or-set_other}
use Rattle.std.specs.Prelude.{Option, Some, slice_get, IsPermutation}
use Rattle.std.specs.List.{swap}
use Rattle.std.proofs.lemmas.Bool.{cases_eq, cases_lt}
use Rattle.std.proofs.lemmas.List.{length-set}
use Rattle.std.proofs.lemmas.List.Edits.{swap_is, length-swap}
use Rattle.std.proofs.lemmas.List.Sorted.{IsPermutation-keeps}
use Rattle.std.proofs.lemmas.Option.{get_or_from_slice_get, slice_get-get_or, slice_get_within}
use Rattle.interleavings.specs.declared.traces.Place.{Place}
use Rattle.linkage.specs.declared.numbered.Numbered.{Numbered}
use Rattle.linkage.specs.AllOf.{IsAllOf}
use Rattle.linkage.specs.Numbers.{IsItemAt, IsOrdered, IsTwice, AreOwned}

-- where the item of a place goes when two places are exchanged
abbrev Turned : ℕ → ℕ → ℕ → ℕ → Type 0
Turned i j k m = ((k ≡ i) × (m ≡ j)) ⊎ (((k ≡ j) × (m ≡ i)) ⊎ ((k ≡ i → ⊥) × (k ≡ j → ⊥) × (m ≡ k)))

turn : (i j k : ℕ) → (m : ℕ) × Turned i j k m
turn i j k =
    elim (cases_eq k i) [
      | inl first ↦ (j, inl (first, refl))
      | inr no_first ↦ elim (cases_eq k j) [ inl second ↦ (i, inr (inl (second, refl))) | inr no_second ↦ (k, inr (inr (no_first, no_second, refl))) ]
    ]

turned_back : (i j k m : ℕ) → Turned i j k m → Turned i j m k
turned_back i j k m t =
    elim t [
      | inl first ↦ inr (inl (first.1, first.0))
      | inr rest ↦ elim rest [ inl second ↦ inl (second.1, second.0) | inr third ↦ inr (inr (λ e. third.0 (sym third.2 ∙ e), λ e. third.1 (sym third.2 ∙ e), sym third.2)) ]
    ]

turned_apart : (i j k m k' m' : ℕ) → Turned i j k m → Turned i j k' m' → (k ≡ k' → ⊥) → m ≡ m' → ⊥
turned_apart i j k m k' m' t t' apart same = grind arith

turned_inside : (i j k m n : ℕ) → i < n → j < n → k < n → Turned i j k m → m < n
turned_inside i j k m n ii jj kk t = grind arith

module _ {X : Type 0} (xs : List X) (i j : ℕ) (i_in : i < length xs) (j_in : j < length xs) where
  swap_same : (k m : ℕ) (d : X) → Turned i j k m → get_or (swap xs i j) m d ≡ get_or xs k d
  swap_same k m d t =
      let one = set xs i (get_or xs j d) in
      let is : set one j (get_or xs i d) ≡ swap xs i j = swap_is xs i j d i_in j_in in
      let inside : j < length one = omega (arith, length-set xs i (get_or xs j d)) in
      let at_j : get_or (swap xs i j) j d ≡ get_or xs i d = ap (λ ys. get_or ys j d) (sym is) ∙ get_or-set_same one j (get_or xs i d) d inside in
      let off_j : (k : ℕ) → (k ≡ j → ⊥) → get_or (swap xs i j) k d ≡ get_or one k d = λ k off. ap (λ ys. get_or ys k d) (sym is) ∙ get_or-set_other one j k (get_or xs i d) d off in
      let at_i : get_or one i d ≡ get_or xs j d = get_or-set_same xs i (get_or xs j d) d i_in in
      elim t [
        | inl first ↦ rw (first.0, first.1) at_j
        | inr rest ↦
            elim rest [
              | inl second ↦
                  elim (cases_eq i j) [
                    | inl same ↦ rw (second.0, second.1) (ap (λ k. get_or (swap xs i j) k d) same ∙ (at_j ∙ ap (λ k. get_or xs k d) same))
                    | inr off ↦ rw (second.0, second.1) (off_j i off ∙ at_i)
                  ]
              | inr third ↦ rw third.2 (off_j k third.1 ∙ get_or-set_other xs i k (get_or xs j d) d third.0)
            ]
      ]

  swap_item : (k m : ℕ) (x : X) → Turned i j k m → slice_get xs k ≡ Some x → slice_get (swap xs i j) m ≡ Some x
  swap_item k m x t is =
      let inside : m < length (swap xs i j) = omega (arith, length-swap xs i j, turned_inside i j k m (length xs) i_in j_in (slice_get_within xs k x is) t) in
      slice_get-get_or (swap xs i j) m x inside ∙ ap Some (swap_same k m x t ∙ get_or_from_slice_get xs k x x is)

  back_item : (k m : ℕ) (x : X) → Turned i j k m → slice_get (swap xs i j) m ≡ Some x → slice_get xs k ≡ Some x
  back_item k m x t is =
      let inside : k < length xs = turned_inside i j m k (length xs) i_in j_in (omega (arith, length-swap xs i j, slice_get_within (swap xs i j) m x is)) (turned_back i j k m t) in
      slice_get-get_or xs k x inside ∙ ap Some (sym (swap_same k m x t) ∙ get_or_from_slice_get (swap xs i j) m x x is)

module _ {V : Type 0} where
  -- two places that differ hold items of one owner and number
  twice_of : (items : List (Numbered V)) (a b o n : ℕ) → IsItemAt items a o n → IsItemAt items b o n → (a ≡ b → ⊥) → IsTwice items o n
  twice_of items a b o n at_a at_b apart =
      elim (cases_lt a b) [
        | inl less ↦ record { one = a; other = b; apart = less; at_one = at_a; at_other = at_b }
        | inr more ↦ record { one = b; other = a; apart = lesser a b more apart; at_one = at_b; at_other = at_a }
      ]
    where
      lesser : (a b : ℕ) → b ≤ a → (a ≡ b → ⊥) → b < a
      lesser a b under apart = omega arith

  module _ (xs : List (Numbered V)) (i j : ℕ) (i_in : i < length xs) (j_in : j < length xs) where
    swap_twice : (o n : ℕ) → IsTwice xs o n → IsTwice (swap xs i j) o n
    swap_twice o n t =
        let a = turn i j t.one in
        let b = turn i j t.other in
        twice_of (swap xs i j) a.0 b.0 o n (t.at_one.0, swap_item xs i j i_in j_in t.one a.0 _ a.1 t.at_one.1) (t.at_other.0, swap_item xs i j i_in j_in t.other b.0 _ b.1 t.at_other.1)
        (turned_apart i j t.one a.0 t.other b.0 a.1 b.1 (λ same. omega (arith, t.apart, same)))

    back_twice : (o n : ℕ) → IsTwice (swap xs i j) o n → IsTwice xs o n
    back_twice o n t =
        let a = turn i j t.one in
        let b = turn i j t.other in
        let back_a = turned_back i j t.one a.0 a.1 in
        let back_b = turned_back i j t.other b.0 b.1 in
        twice_of xs a.0 b.0 o n (t.at_one.0, back_item xs i j i_in j_in a.0 t.one _ back_a t.at_one.1) (t.at_other.0, back_item xs i j i_in j_in b.0 t.other _ back_b t.at_other.1)
        (turned_apart i j t.one a.0 t.other b.0 a.1 b.1 (λ same. omega (arith, t.apart, same)))

    swap_all : (given : Option Place → Numbered V → Type 0) → IsAllOf given xs → IsAllOf given (swap xs i j)
    swap_all given all = record {
      sound = λ m item is. let k = turn i j m in all.sound k.0 item (back_item xs i j i_in j_in k.0 m item (turned_back i j m k.0 k.1) is);
      complete = λ source item gives. let at = all.complete source item gives in let m = turn i j at.0 in (m.0, swap_item xs i j i_in j_in at.0 m.0 item m.1 at.1);
      twice = λ o n t. all.twice o n (back_twice o n t);
      once = λ o n t. swap_twice o n (all.once o n t);
    }

    swap_owned : (owners : ℕ) → AreOwned xs owners → AreOwned (swap xs i j) owners
    swap_owned owners owned m o n (v, is) = let k = turn i j m in owned k.0 o n (v, back_item xs i j i_in j_in k.0 m _ (turned_back i j m k.0 k.1) is)

  -- all items are listed in any order
  pub all_moved : (given : Option Place → Numbered V → Type 0) (xs ys : List (Numbered V)) → IsPermutation xs ys → IsAllOf given xs → IsAllOf given ys
  all_moved given xs ys moved all =
      let P : List (Numbered V) → Type 0 = λ items. IsAllOf given items in
      IsPermutation-keeps xs P all (λ items i j i_in j_in so_far. swap_all items i j i_in j_in given so_far) ys moved

  pub owned_moved : (owners : ℕ) (xs ys : List (Numbered V)) → IsPermutation xs ys → AreOwned xs owners → AreOwned ys owners
  owned_moved owners xs ys moved owned =
      let P : List (Numbered V) → Type 0 = λ items. AreOwned items owners in
      IsPermutation-keeps xs P owned (λ items i j i_in j_in so_far. swap_owned items i j i_in j_in owners so_far) ys moved

  -- the same of a list that is equal to the sorted one
  module _ (given : Option Place → Numbered V → Type 0) (xs ys zs : List (Numbered V)) (moved : IsPermutation xs ys) (is : zs ≡ ys) where
    pub sorted_all : IsAllOf given xs → IsAllOf given zs
    sorted_all all = let P : List (Numbered V) → Type 0 = λ items. IsAllOf given items in subst P (sym is) (all_moved given xs ys moved all)

    pub sorted_owned : (owners count : ℕ) → count ≡ owners → AreOwned xs owners → AreOwned zs count
    sorted_owned owners count same owned i o n there =
        let P : List (Numbered V) → Type 0 = λ items. AreOwned items owners in
        omega (arith, same, subst P (sym is) (owned_moved owners xs ys moved owned) i o n there)

    pub sorted_ordered : IsOrdered ys → IsOrdered zs
    sorted_ordered ordered = let P : List (Numbered V) → Type 0 = λ items. IsOrdered items in subst P (sym is) ordered
