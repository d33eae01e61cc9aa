-- Places, and what stands with one more of them.
use Rattle.std.proofs.Common.{◌≡◌, ◌≢◌, ℕ, ◌+◌, ◌≤◌, ◌==◌, ◌⊎◌, Bool, true, false, refl, sym, ◌∙◌, ap, inl, inr, arith, eq-eqb}
use Rattle.std.proofs.lemmas.Bool.{cases_eq, ne_eqb}
use Rattle.sc_machine.specs.Machine.{put}
use Rattle.interleavings.specs.declared.traces.Place.{Place}
use Rattle.event_order.specs.Extensions.{same_place, standing_too}

-- a function with another value at one place
pub put-same : {X : Type 0} (f : ℕ → X) (place : ℕ) (value : X) → put f place value place ≡ value
put-same f place value = let test : (place == place) ≡ true = eq-eqb place place refl in rw test refl

-- and the value that it had elsewhere
pub put-other : {X : Type 0} (f : ℕ → X) (place other : ℕ) (value : X) → other ≢ place → put f place value other ≡ f other
put-other f place other value apart = let test : (other == place) ≡ false = ne_eqb other place apart in rw test refl

-- a count that rises in one place falls nowhere
pub put-grows : (f : ℕ → ℕ) (place other : ℕ) → f other ≤ put f place (f place + 1) other
put-grows f place other = elim (cases_eq other place) [
  | inl same ↦ let at : put f place (f place + 1) other ≡ f other + 1 = ap (put f place (f place + 1)) same ∙ (put-same f place (f place + 1) ∙ ap (λ n. f n + 1) (sym same)) in omega arith
  | inr apart ↦ let at : put f place (f place + 1) other ≡ f other = put-other f place other (f place + 1) apart in omega arith
]

-- places with the same parts are the same
pub two_parts : (a b : Place) → a.thread ≡ b.thread → a.place ≡ b.place → a ≡ b
two_parts a b thread place =
    let half : Place = record { thread = b.thread; place = a.place } in
    let first : a ≡ half = ap (λ t. record { thread = t; place = a.place }) thread in
    let second : half ≡ b = ap (λ i. record { thread = b.thread; place = i }) place in
    first ∙ second

-- two places are the same or not
pub cases_place : (a b : Place) → ((a ≡ b) × (same_place a b ≡ true)) ⊎ ((a ≢ b) × (same_place a b ≡ false))
cases_place a b = elim (cases_eq a.thread b.thread) [
  | inr apart ↦ inr (λ e. apart (ap (λ (p : Place). p.thread) e), let test : (a.thread == b.thread) ≡ false = ne_eqb a.thread b.thread apart in rw test refl)
  | inl thread ↦ elim (cases_eq a.place b.place) [
    | inr apart ↦ inr (λ e. apart (ap (λ (p : Place). p.place) e), (let test : (a.thread == b.thread) ≡ true = eq-eqb a.thread b.thread thread in let other : (a.place == b.place) ≡ false = ne_eqb a.place b.place apart in rw (test, other) refl))
    | inl place ↦ inl (two_parts a b thread place, (let test : (a.thread == b.thread) ≡ true = eq-eqb a.thread b.thread thread in let other : (a.place == b.place) ≡ true = eq-eqb a.place b.place place in rw (test, other) refl))
  ]
]

-- what stands with one place more is this place, or stood before
pub stood : (at other : Place) (stands : Place → Bool) → standing_too at stands other ≡ true → (at ≡ other) ⊎ (stands other ≡ true)
stood at other stands up = elim (cases_place at other) [
  | inl same ↦ inl same.0
  | inr apart ↦ inr (sym (let test : same_place at other ≡ false = apart.1 in rw test refl) ∙ up)
]

-- what stood before still stands
pub stands_still : (at other : Place) (stands : Place → Bool) → stands other ≡ true → standing_too at stands other ≡ true
stands_still at other stands up = elim (cases_place at other) [
  | inl same ↦ let test : same_place at other ≡ true = same.1 in rw test refl
  | inr apart ↦ let test : same_place at other ≡ false = apart.1 in rw test up
]

-- and so does the place itself
pub stands_now : (at other : Place) (stands : Place → Bool) → at ≡ other → standing_too at stands other ≡ true
stands_now at other stands same = elim (cases_place at other) [
  | inl equal ↦ let test : same_place at other ≡ true = equal.1 in rw test refl
  | inr apart ↦ absurd (apart.0 same)
]
