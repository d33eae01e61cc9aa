-- Lists of all items that sources give, as they grow.
use Rattle.std.proofs.Common.{◌≡◌, ◌∙◌, ℕ, zero, suc, ◌+◌, ◌⊎◌, inl, inr, List, [], ◌∷◌, ◌++◌, length, refl, sym, ap, subst, arith}
use Rattle.std.specs.Prelude.{Option, Some, None, slice_get}
use Rattle.std.proofs.lemmas.Bool.{cases_lt}
use Rattle.std.proofs.lemmas.Option.{slice_get_within}
use Rattle.interleavings.specs.declared.traces.Place.{Place}
use Rattle.linkage.specs.declared.numbered.Numbered.{Numbered}
use Rattle.linkage.specs.AllOf.{IsAllOf, IsGivenTwice, StartsGiven}
use Rattle.linkage.specs.Numbers.{IsItemAt, IsTwice}
use Rattle.linkage.proofs.Growing.{IsSame, IsMore, twice_kept}

module _ {X : Type 0} where
  -- what is read from a list with one item more was there, or is that item
  pub get_pushed : (xs : List X) (x y : X) (i : ℕ) → slice_get (xs ++ x ∷ []) i ≡ Some y → (slice_get xs i ≡ Some y) ⊎ ((i ≡ length xs) × (y ≡ x))
  get_pushed [] x y zero is = inr (refl, cc)
  get_pushed [] x y (suc i) is = absurd (cc)
  get_pushed (z ∷ zs) x y zero is = inl is
  get_pushed (z ∷ zs) x y (suc i) is =
      elim (get_pushed zs x y i is) [ inl old ↦ inl old | inr new ↦ inr (omega (arith, new.0), new.1) ]

  -- what was there is still there
  pub get_kept : (xs : List X) (x y : X) (i : ℕ) → slice_get xs i ≡ Some y → slice_get (xs ++ x ∷ []) i ≡ Some y
  get_kept [] x y i is = absurd (cc)
  get_kept (z ∷ zs) x y zero is = is
  get_kept (z ∷ zs) x y (suc i) is = get_kept zs x y i is

  -- the new item is at the end
  pub get_new : (xs : List X) (x : X) → slice_get (xs ++ x ∷ []) (length xs) ≡ Some x
  get_new [] x = refl
  get_new (z ∷ zs) x = get_new zs x

module _ {V : Type 0} where
  keep_item : (items : List (Numbered V)) (x : Numbered V) (i o n : ℕ) → IsItemAt items i o n → IsItemAt (items ++ x ∷ []) i o n
  keep_item items x i o n there = (there.0, get_kept items x _ i there.1)

  pub keep_twice : (items : List (Numbered V)) (x : Numbered V) (o n : ℕ) → IsTwice items o n → IsTwice (items ++ x ∷ []) o n
  keep_twice items x o n t = record {
    one = t.one;
    other = t.other;
    apart = t.apart;
    at_one = keep_item items x t.one o n t.at_one;
    at_other = keep_item items x t.other o n t.at_other;
  }

  -- nothing is given, and nothing is listed
  pub all_of_none : (given : Option Place → Numbered V → Type 0) → ((source : Option Place) (item : Numbered V) → given source item → ⊥) → IsAllOf given []
  all_of_none given nothing = record {
    sound = λ i item is. absurd (cc);
    complete = λ source item gives. absurd (nothing source item gives);
    twice = λ o n t. absurd (no_item t.one o n t.at_one);
    once = λ o n t. absurd (nothing t.one _ t.one_gives);
  }
    where
      no_item : (i o n : ℕ) → IsItemAt {V = V} [] i o n → ⊥
      no_item i o n (v, is) = cc

  module _ (given given' : Option Place → Numbered V → Type 0) (items : List (Numbered V)) (all : IsAllOf given items) (old : (source : Option Place) (item : Numbered V) → given source item → given' source item) where
    -- nothing more is given
    pub all_of_same : ((source : Option Place) (item : Numbered V) → given' source item → given source item) → IsAllOf given' items
    all_of_same back = record {
      sound = λ i item is. let s = all.sound i item is in (s.0, old s.0 item s.1);
      complete = λ source item gives. all.complete source item (back source item gives);
      twice = λ o n t. twice_kept given given' old o n (all.twice o n t);
      once = λ o n t. all.once o n (record {
        one = t.one;
        other = t.other;
        differ = t.differ;
        one_value = t.one_value;
        one_gives = back t.one _ t.one_gives;
        other_value = t.other_value;
        other_gives = back t.other _ t.other_gives;
      });
    }

    module _ (new : Option Place) (x : Numbered V) (here : given' new x) (news : (source : Option Place) (item : Numbered V) → given' source item → given source item ⊎ ((source ≡ new) × (item ≡ x))) (fresh : (item : Numbered V) → given new item → item.owner ≡ x.owner → ⊥) where
      more_sound : (i : ℕ) (item : Numbered V) → slice_get (items ++ x ∷ []) i ≡ Some item → (source : Option Place) × given' source item
      more_sound i item is =
          elim (get_pushed items x item i is) [
            | inl was ↦ (let s = all.sound i item was in (s.0, old s.0 item s.1))
            | inr one ↦ (new, subst (given' new) (sym one.1) here)
          ]

      more_complete : (source : Option Place) (item : Numbered V) → given' source item → (i : ℕ) × (slice_get (items ++ x ∷ []) i ≡ Some item)
      more_complete source item gives =
          elim (news source item gives) [
            | inl was ↦ (let at = all.complete source item was in (at.0, get_kept items x item at.0 at.1))
            | inr one ↦ (length items, get_new items x ∙ ap Some (sym one.1))
          ]

      more_twice : (o n : ℕ) → IsTwice (items ++ x ∷ []) o n → IsGivenTwice given' o n
      more_twice o n t =
          let a : Numbered V = record { owner = o; number = n; value = t.at_one.0 } in
          let b : Numbered V = record { owner = o; number = n; value = t.at_other.0 } in
          elim (get_pushed items x b t.other t.at_other.1) [
            | inl both ↦
                elim (get_pushed items x a t.one t.at_one.1) [
                  | inl was ↦ twice_kept given given' old o n (all.twice o n (record { one = t.one; other = t.other; apart = t.apart; at_one = (t.at_one.0, was); at_other = (t.at_other.0, both) }))
                  | inr one ↦ absurd (let inside = slice_get_within items t.other b both in omega (arith, t.apart, one.0))
                ]
            | inr last ↦
                elim (get_pushed items x a t.one t.at_one.1) [
                  | inl was ↦ (
                      let s = all.sound t.one a was in
                      record {
                        one = s.0;
                        other = new;
                        differ = λ same. fresh a (subst (λ (source : Option Place). given source a) same s.1) (ap (λ (item : Numbered V). item.owner) last.1);
                        one_value = t.at_one.0;
                        one_gives = old s.0 a s.1;
                        other_value = t.at_other.0;
                        other_gives = subst (given' new) (sym last.1) here;
                      })
                  | inr one ↦ absurd (omega (arith, t.apart, one.0, last.0))
                ]
          ]

      at_end : (o n i : ℕ) (a : Numbered V) → (o ≡ a.owner) × (n ≡ a.number) → slice_get items i ≡ Some a → (o ≡ x.owner) × (n ≡ x.number) → IsTwice (items ++ x ∷ []) o n
      at_end o n i a ka is kx = record {
        one = i;
        other = length items;
        apart = slice_get_within items i a is;
        at_one = (a.value, rw (ka.0, ka.1) (get_kept items x a i is));
        at_other = (x.value, rw (kx.0, kx.1) (get_new items x));
      }

      more_once : (o n : ℕ) → IsGivenTwice given' o n → IsTwice (items ++ x ∷ []) o n
      more_once o n t =
          let a : Numbered V = record { owner = o; number = n; value = t.one_value } in
          let b : Numbered V = record { owner = o; number = n; value = t.other_value } in
          let key : (c : Numbered V) → c ≡ x → (c.owner ≡ x.owner) × (c.number ≡ x.number) = λ c e. (ap (λ (item : Numbered V). item.owner) e, ap (λ (item : Numbered V). item.number) e) in
          elim (news t.one a t.one_gives) [
            | inl was ↦
                elim (news t.other b t.other_gives) [
                  | inl both ↦ keep_twice items x o n (all.once o n (record { one = t.one; other = t.other; differ = t.differ; one_value = t.one_value; one_gives = was; other_value = t.other_value; other_gives = both }))
                  | inr last ↦ (let p = all.complete t.one a was in at_end o n p.0 a (refl, refl) p.1 (key b last.1))
                ]
            | inr one ↦
                elim (news t.other b t.other_gives) [
                  | inl was ↦ (let p = all.complete t.other b was in at_end o n p.0 b (refl, refl) p.1 (key a one.1))
                  | inr last ↦ absurd (t.differ (one.0 ∙ sym last.0))
                ]
          ]

      -- one item more is given, by a source that gave none of its owner
      pub all_of_more : IsAllOf given' (items ++ x ∷ [])
      all_of_more = record { sound = more_sound; complete = more_complete; twice = more_twice; once = more_once }

  -- the same is given
  pub listed_same : (given given' : Option Place → Numbered V → Type 0) (items : List (Numbered V)) → IsSame given given' → IsAllOf given items → IsAllOf given' items
  listed_same given given' items same all = all_of_same given given' items all same.kept same.back

  -- one item more is given
  pub listed_more : (given given' : Option Place → Numbered V → Type 0) (items : List (Numbered V)) (new : Option Place) (x : Numbered V) → IsMore given given' new x → IsAllOf given items → IsAllOf given' (items ++ x ∷ [])
  listed_more given given' items new x more all = all_of_more given given' items all more.kept new x more.here more.news more.fresh

  -- what one more owner is given from the start
  pub start_more : (given : Option Place → Numbered V → Type 0) (owner : ℕ) (x : Numbered V) → x.owner ≡ owner → given None x → ((item : Numbered V) → given None item → item.owner ≡ owner → item ≡ x) → IsMore (StartsGiven given owner) (StartsGiven given (owner + 1)) None x
  start_more given owner x own gives only = record { kept = kept; here = (gives, omega (arith, own)); news = news; fresh = λ item before same. omega (arith, before.1, same, own) }
    where
      kept : (source : Option Place) (item : Numbered V) → StartsGiven given owner source item → StartsGiven given (owner + 1) source item
      kept None item (is, below) = (is, omega arith)
      kept (Some place) item is = is

      news : (source : Option Place) (item : Numbered V) → StartsGiven given (owner + 1) source item → StartsGiven given owner source item ⊎ ((source ≡ None) × (item ≡ x))
      news None item (is, below) =
          elim (cases_lt item.owner owner) [
            | inl less ↦ inl (is, less)
            | inr not_less ↦ inr (refl, only item is (omega arith))
          ]
      news (Some place) item is = absurd is

  pub starts_more : (given : Option Place → Numbered V → Type 0) (owner : ℕ) (items : List (Numbered V)) (x : Numbered V) → x.owner ≡ owner → given None x → ((item : Numbered V) → given None item → item.owner ≡ owner → item ≡ x) → IsAllOf (StartsGiven given owner) items → IsAllOf (StartsGiven given (owner + 1)) (items ++ x ∷ [])
  starts_more given owner items x own gives only all = listed_more (StartsGiven given owner) (StartsGiven given (owner + 1)) items None x (start_more given owner x own gives only) all

  -- before the first owner nothing is given
  pub nothing_started : (given : Option Place → Numbered V → Type 0) (source : Option Place) (item : Numbered V) → StartsGiven given 0 source item → ⊥
  nothing_started given None item (is, below) = omega arith
  nothing_started given (Some place) item is = is

  pub starts_none : (given : Option Place → Numbered V → Type 0) → IsAllOf (StartsGiven given 0) []
  starts_none given = all_of_none (StartsGiven given 0) (nothing_started given)
