-- Events that have a row and a number in it: those that stand are the ones up to a count of the row.
use Rattle.std.proofs.Common.{◌≡◌, ℕ, ◌+◌, ◌≤◌, Bool, true, Option, Some, None, sym, ◌∙◌, ap, subst, inl, inr, arith}
use Rattle.std.proofs.lemmas.Bool.{cases_eq, cases_lt}
use Rattle.sc_machine.specs.Machine.{put}
use Rattle.interleavings.specs.declared.traces.Place.{Place}
use Rattle.event_order.specs.Extensions.{standing_too}
use Rattle.event_order.proofs.Places.{put-same, put-other, put-grows, stood, stands_still, stands_now}

-- a numbered event stands exactly where its number is at most the count of its row
pub record Counted {X : Type 0} (row number : X → ℕ) (found : Place → Option X) (stands : Place → Bool) (count : ℕ → ℕ) : Type 0 where
  pub stand : (at : Place) (x : X) → found at ≡ Some x → stands at ≡ true → number x ≤ count (row x)
  pub below : (at : Place) (x : X) → found at ≡ Some x → number x ≤ count (row x) → stands at ≡ true

-- an event without a number changes nothing
pub counted-still : {X : Type 0} (row number : X → ℕ) (found : Place → Option X) (stands : Place → Bool) (count : ℕ → ℕ) (at : Place) → found at ≡ None → Counted row number found stands count → Counted row number found (standing_too at stands) count
counted-still row number found stands count at none counted = record {
  stand = λ other x is up. elim (stood at other stands up) [
    | inl same ↦ absurd (let wrong : None ≡ Some x = sym none ∙ (ap found same ∙ is) in cc)
    | inr before ↦ counted.stand other x is before
  ];
  below = λ other x is small. stands_still at other stands (counted.below other x is small);
}

-- an event with the next number of its row raises the count of the row
pub counted-next : {X : Type 0} (row number : X → ℕ) (found : Place → Option X) (stands : Place → Bool) (count : ℕ → ℕ) (at : Place) (x : X) → ((a b : Place) (y z : X) → found a ≡ Some y → found b ≡ Some z → row y ≡ row z → number y ≡ number z → a ≡ b) → found at ≡ Some x → number x ≡ count (row x) + 1 → Counted row number found stands count → Counted row number found (standing_too at stands) (put count (row x) (count (row x) + 1))
counted-next {X} row number found stands count at x unique is next counted = record {
  stand = λ other y found_is up. elim (stood at other stands up) [
    | inl same ↦
        let equal : x ≡ y = (let both : Some x ≡ Some y = sym is ∙ (ap found same ∙ found_is) in cc) in
        let P : X → Type 0 = λ z. number z ≤ put count (row x) (count (row x) + 1) (row z) in
        subst P equal (let at_row : put count (row x) (count (row x) + 1) (row x) ≡ count (row x) + 1 = put-same count (row x) (count (row x) + 1) in omega arith)
    | inr before ↦
        let small : number y ≤ count (row y) = counted.stand other y found_is before in
        let grows : count (row y) ≤ put count (row x) (count (row x) + 1) (row y) = put-grows count (row x) (row y) in omega arith
  ];
  below = λ other y found_is small. elim (cases_eq (row y) (row x)) [
    | inr apart ↦ stands_still at other stands (counted.below other y found_is (let same : put count (row x) (count (row x) + 1) (row y) ≡ count (row y) = put-other count (row x) (row y) (count (row x) + 1) apart in omega arith))
    | inl same ↦ elim (cases_lt (count (row y)) (number y)) [
      | inr old ↦ stands_still at other stands (counted.below other y found_is old)
      | inl new ↦ stands_now at other stands (unique at other x y is found_is (sym same) (
          let at_row : put count (row x) (count (row x) + 1) (row y) ≡ count (row x) + 1 = ap (put count (row x) (count (row x) + 1)) same ∙ put-same count (row x) (count (row x) + 1) in
          let rows : count (row y) ≡ count (row x) = ap count same in
          omega arith))
    ]
  ];
}
