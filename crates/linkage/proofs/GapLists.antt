-- Gaps in lists of items that ascend by owner and number.
use Rattle.std.proofs.Common.{◌≡◌, ◌∙◌, ℕ, zero, suc, ◌+◌, ◌-◌, ◌<◌, ◌≤◌, ◌⊎◌, inl, inr, List, length, get_or, sym, subst, arith, add-one}
use Rattle.std.specs.Prelude.{Option, Some, None, slice_get, slice_index}
use Rattle.std.proofs.Math.Nat.{eq-or-lt_of_le}
use Rattle.std.proofs.lemmas.Bool.{cases_lt}
use Rattle.std.proofs.lemmas.Option.{slice_get_past}
use Rattle.linkage.specs.declared.numbered.Numbered.{Numbered}
use Rattle.linkage.specs.Numbers.{NotAfter, Earlier, IsItemAt, IsOrdered, AreStarted, IsGap, IsFirstGap, IsFollowed, AreFollowedBelow}
use Rattle.linkage.proofs.NumberedLists.{one_item, item_there, item_inside}

-- a pair that is not after another and is not equal to it is earlier
earlier : (a b c d : ℕ) → NotAfter a b c d → (a ≡ c → b ≡ d → ⊥) → Earlier a b c d
earlier a b c d up differ =
    elim up [
      | inl less ↦ inl less
      | inr same ↦
          elim (eq-or-lt_of_le {n = b} {m = d} same.1) [
            | inl equal ↦ absurd (differ same.0 equal)
            | inr less ↦ inr (same.0, less)
          ]
    ]

-- one of two pairs stands before the other, or they are equal
either_way : (a b c d : ℕ) → Earlier a b c d ⊎ NotAfter c d a b
either_way a b c d =
    elim (cases_lt a c) [
      | inl less ↦ inl (inl less)
      | inr not_less ↦
          elim (eq-or-lt_of_le {n = c} {m = a} not_less) [
            | inl same ↦ elim (cases_lt b d) [ inl below ↦ inl (inr (sym same, below)) | inr above ↦ inr (inr (same, above)) ]
            | inr more ↦ inr (inl more)
          ]
    ]

-- a pair between the least of an owner and one that is not before it is that one
level : (a b o n : ℕ) → NotAfter a b o 0 → NotAfter o n a b → (a ≡ o) × (b ≡ n)
level a b o n up down = (grind arith, grind arith)

reached : (a b o n : ℕ) → a ≡ o → b ≤ n → NotAfter o n a b → b ≡ n
reached a b o n same most after = grind arith

at_most : (c d a b : ℕ) → NotAfter c d a b → c ≤ a
at_most c d a b up = grind arith

next_up : (a b o n : ℕ) → Earlier a b o n → NotAfter a (b + 1) o n
next_up a b o n less = elim less [ inl below ↦ inl below | inr same ↦ inr (same.0, omega arith) ]

back_down : (a b : ℕ) → NotAfter a (b + 1) a b → ⊥
back_down a b up = grind arith

pub item_same : {V : Type 0} (items : List (Numbered V)) (k a b o n : ℕ) → IsItemAt items k a b → a ≡ o → b ≡ n → IsItemAt items k o n
item_same items k a b o n here owner number =
    let P : ℕ × ℕ → Type 0 = λ t. IsItemAt items k t.0 t.1 in
    let pair : (a, b) ≡ (o, n) = cc in
    subst P pair here

between : (a b c d m : ℕ) → NotAfter a b c d → NotAfter c d a m → m ≡ b + 1 → (c ≡ a) × (d ≤ b + 1)
between a b c d m up down next = (grind arith, grind arith)

module _ {V : Type 0} (items : List (Numbered V)) (greatest : List ℕ) (ordered : IsOrdered items) (started : AreStarted items (length greatest)) where
  -- an item of an owner whose earlier items are all of lesser owners is before each gap of the owner
  first_of_owner : (o n : ℕ) → IsGap items greatest o n → (k a b : ℕ) → IsItemAt items k a b → ((j c d : ℕ) → j < k → IsItemAt items j c d → c < o) → NotAfter o n a b → ⊥
  first_of_owner o n gap k a b here before after =
      let zero_item = started o gap.owned in
      elim (cases_lt zero_item.0 k) [
        | inl below ↦ (let same : o < o = before zero_item.0 o 0 below zero_item.1 in omega arith)
        | inr above ↦
            elim (eq-or-lt_of_le {n = k} {m = zero_item.0} above) [
              | inl same ↦ (
                  let e = one_item items k a b o 0 here (rw (← same) at zero_item.1) in
                  let f = level a b o n (inr (e.0, omega (arith, e.1))) after in
                  gap.missing k (item_same items k a b o n here f.0 f.1))
              | inr less ↦ (
                  let f = level a b o n (ordered k zero_item.0 a b o 0 less here zero_item.1) after in
                  gap.missing k (item_same items k a b o n here f.0 f.1))
            ]
      ]

  module _ (high : ℕ) (followed : AreFollowedBelow items greatest high) where
    -- what follows an item that is not the last of its owner
    followed_by : (k a b c d : ℕ) → k < high → IsItemAt items k a b → b + 1 < slice_index greatest a → IsItemAt items (k + 1) c d → (c ≡ a) × (d ≤ b + 1)
    followed_by k a b c d below (v, here) more (w, next) =
        let P : Option (Numbered V) → Type 0 = IsFollowed (record { owner = a; number = b; value = v }) in
        subst P next (followed k (record { owner = a; number = b; value = v }) below here more)

    -- each item up to this place is before each gap
    behind : (o n : ℕ) → IsGap items greatest o n → (k a b : ℕ) → k ≤ high → IsItemAt items k a b → Earlier a b o n
    behind o n gap zero a b below here =
        elim (either_way a b o n) [
          | inl less ↦ less
          | inr after ↦ absurd (first_of_owner o n gap zero a b here (λ j c d less there. absurd (omega arith)) after)
        ]
    behind o n gap (suc k) a b below here =
        let d : Numbered V = record { owner = a; number = b; value = here.0 } in
        let x = get_or items k d in
        let inside : k < length items = omega (arith, item_inside items (suc k) a b here) in
        let last = item_there items d k inside in
        let earlier_last = behind o n gap k x.owner x.number (omega arith) last in
        elim (either_way a b o n) [
          | inl less ↦ less
          | inr after ↦
              absurd (elim earlier_last [
                | inl less ↦
                    first_of_owner o n gap (suc k) a b here
                    (λ j c e under there.
                    elim (eq-or-lt_of_le {n = j} {m = k} (omega arith)) [
                      | inl same ↦ (let f = one_item items k c e x.owner x.number (rw same at there) last in omega (arith, f.0, less))
                      | inr lower ↦ (let f = at_most c e x.owner x.number (ordered j k c e x.owner x.number lower there last) in omega (arith, f, less))
                    ])
                    after
                | inr same ↦ (
                    let more : x.number + 1 < slice_index greatest x.owner = rw same.0 (omega (arith, same.1, gap.below)) in
                    let next : IsItemAt items (k + 1) a b = rw add-one here in
                    let f = followed_by k x.owner x.number a b (omega arith) last more next in
                    let owner : a ≡ o = f.0 ∙ same.0 in
                    let number : b ≡ n = reached a b o n owner (omega (arith, f.1, same.1)) after in
                    gap.missing (suc k) (item_same items (suc k) a b o n here owner number))
              ])
        ]

    -- where every item is followed, there is no gap
    pub none_left_out : length items ≤ high → IsFirstGap items greatest None
    none_left_out all o n gap =
        let zero_item = started o gap.owned in
        let inside = item_inside items zero_item.0 o 0 zero_item.1 in
        let d : Numbered V = record { owner = o; number = 0; value = zero_item.1.0 } in
        let last = length items - 1 in
        let x = get_or items last d in
        let there = item_there items d last (omega arith) in
        let before = behind o n gap last x.owner x.number (omega arith) there in
        let reach : NotAfter o 0 x.owner x.number =
        elim (eq-or-lt_of_le {n = zero_item.0} {m = last} (omega arith)) [
          | inl same ↦ (let e = one_item items last o 0 x.owner x.number (rw same at zero_item.1) there in inr (e.0, omega arith))
          | inr less ↦ ordered zero_item.0 last o 0 x.owner x.number less zero_item.1 there
        ] in
        let owner = at_most o 0 x.owner x.number reach in
        elim before [
          | inl less ↦ omega (arith, owner, less)
          | inr same ↦ (
              let more : x.number + 1 < slice_index greatest x.owner = rw same.0 (omega (arith, same.1, gap.below)) in
              let P : Option (Numbered V) → Type 0 = IsFollowed (record { owner = x.owner; number = x.number; value = there.0 }) in
              subst P (slice_get_past items (last + 1) (omega arith)) (followed last (record { owner = x.owner; number = x.number; value = there.0 }) (omega arith) there.1 more))
        ]

    -- the first item that is not followed, of an owner that has a greater number, is before the least gap
    pub found_left_out : (item : Numbered V) (missing : ℕ) → slice_get items high ≡ Some item → item.owner < length greatest → missing ≡ item.number + 1 → missing < slice_index greatest item.owner → (IsFollowed item (slice_get items (high + 1)) → ⊥) → IsFirstGap items greatest (Some (item.owner, missing))
    found_left_out item missing is owned next below unfollowed =
        let here : IsItemAt items high item.owner item.number = (item.value, is) in (
          record {
            owned = owned;
            below = below;
            missing = λ j there.
                elim (cases_lt high j) [
                  | inl more ↦ (
                      let d = item in
                      let x = get_or items (high + 1) d in
                      let after = item_there items d (high + 1) (omega (arith, item_inside items j item.owner missing there)) in
                      let up = ordered high (high + 1) item.owner item.number x.owner x.number (omega arith) here after in
                      let down : NotAfter x.owner x.number item.owner missing =
                      elim (eq-or-lt_of_le {n = high + 1} {m = j} (omega arith)) [
                        | inl same ↦ (let P : ℕ → Type 0 = λ t. IsItemAt items t x.owner x.number in let e = one_item items j x.owner x.number item.owner missing (subst P same after) there in inr (e.0, omega (arith, e.1)))
                        | inr less ↦ ordered (high + 1) j x.owner x.number item.owner missing less after there
                      ] in
                      let P : Option (Numbered V) → Type 0 = IsFollowed item in
                      unfollowed (subst P (sym after.1) (between item.owner item.number x.owner x.number missing up down next)))
                  | inr less ↦
                      elim (eq-or-lt_of_le {n = j} {m = high} less) [
                        | inl same ↦ (let e = one_item items high item.owner missing item.owner item.number (rw same at there) here in omega (arith, e.1, next))
                        | inr lower ↦ back_down item.owner item.number (rw next at (ordered j high item.owner missing item.owner item.number lower there here))
                      ]
                ];
          },
          λ o n gap. rw next (next_up item.owner item.number o n (behind o n gap high item.owner item.number (omega arith) here)),
        )

  -- one more item that is followed
  pub followed_step : (i : ℕ) (item : Numbered V) → AreFollowedBelow items greatest i → slice_get items i ≡ Some item → (item.number + 1 < slice_index greatest item.owner → IsFollowed item (slice_get items (i + 1))) → AreFollowedBelow items greatest (i + 1)
  followed_step i item before is here k other below there more =
      elim (eq-or-lt_of_le {n = k} {m = i} (omega arith)) [
        | inl same ↦ (
            let x : Some item ≡ Some other = sym is ∙ rw same at there in
            let e : item ≡ other = cc in
            let P : Numbered V → Type 0 = λ t. t.number + 1 < slice_index greatest t.owner → IsFollowed t (slice_get items (i + 1)) in
            rw same (subst P e here more))
        | inr less ↦ before k other less there more
      ]
