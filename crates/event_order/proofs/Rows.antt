-- Rows of what is kept for slots, with one more number or one more row, or with a value in place of another.
use Rattle.std.proofs.Common.{◌≡◌, ◌≢◌, ℕ, zero, suc, ◌+◌, ◌-◌, ◌<◌, ◌≤◌, ◌==◌, ◌⊎◌, true, false, List, [], ◌∷◌, ◌++◌, Some, length, get_or, set, refl, sym, ◌∙◌, ap, inl, inr, arith, eq-eqb}
use Rattle.std.specs.Prelude.{Vec, replicate}
use Rattle.std.specs.Vec.{with_item}
use Rattle.std.proofs.lemmas.Bool.{true≢false, cases_eq, cases_lt, ne_eqb}
use Rattle.std.proofs.lemmas.List.{get_or_append_left, get_or_past, get_or_push, get_or_read, length_push, get_or-map, map-set, get_or-set_same, get_or-set_other, length-map}
use Rattle.event_order.specs.Tables.{counted, is_given, rows_of, same_slot, HasNumber}
use Rattle.event_order.specs.declared.slot.Slot.{Slot}

-- one more of what is read past the end changes nothing
pub pushed_default : {X : Type 0} (xs : List X) (d : X) (i : ℕ) → get_or (xs ++ d ∷ []) i d ≡ get_or xs i d
pushed_default [] d zero = refl
pushed_default [] d (suc i) = refl
pushed_default (x ∷ xs) d zero = refl
pushed_default (x ∷ xs) d (suc i) = pushed_default xs d i

-- the same of a row
pub pushed_row : {X : Type 0} (rows : List (List X)) (d : X) (slot : Slot) → get_or (get_or (rows ++ [] ∷ []) slot.row []) slot.number d ≡ get_or (get_or rows slot.row []) slot.number d
pushed_row rows d slot = ap (λ row. get_or row slot.number d) (pushed_default rows [] slot.row)

-- slots with the same parts are the same
pub two_numbers : (a b : Slot) → a.row ≡ b.row → a.number ≡ b.number → a ≡ b
two_numbers a b row number =
    let half : Slot = record { row = b.row; number = a.number } in
    let first : a ≡ half = ap (λ r. record { row = r; number = a.number }) row in
    let second : half ≡ b = ap (λ n. record { row = b.row; number = n }) number in
    first ∙ second

-- two slots are the same or not
pub cases_slot : (a b : Slot) → ((a ≡ b) × (same_slot a b ≡ true)) ⊎ ((a ≢ b) × (same_slot a b ≡ false))
cases_slot a b = elim (cases_eq a.row b.row) [
  | inr apart ↦ inr (λ e. apart (ap (λ (s : Slot). s.row) e), let test : (a.row == b.row) ≡ false = ne_eqb a.row b.row apart in rw test refl)
  | inl row ↦ elim (cases_eq a.number b.number) [
    | inr apart ↦ inr (λ e. apart (ap (λ (s : Slot). s.number) e), (let test : (a.row == b.row) ≡ true = eq-eqb a.row b.row row in let other : (a.number == b.number) ≡ false = ne_eqb a.number b.number apart in rw (test, other) refl))
    | inl number ↦ inl (two_numbers a b row number, (let test : (a.row == b.row) ≡ true = eq-eqb a.row b.row row in let other : (a.number == b.number) ≡ true = eq-eqb a.number b.number number in rw (test, other) refl))
  ]
]

-- a row with a value in place of another, at its slot
pub put_here : {X : Type 0} (rows : List (List X)) (slot : Slot) (row : List X) (d value : X) → slot.row < length rows → slot.number < length row → get_or (get_or (set rows slot.row (set row slot.number value)) slot.row []) slot.number d ≡ value
put_here rows slot row d value there within =
    ap (λ r. get_or r slot.number d) (get_or-set_same rows slot.row (set row slot.number value) [] there) ∙ get_or-set_same row slot.number value d within

-- and at each other slot
pub put_other : {X : Type 0} (rows : List (List X)) (slot : Slot) (row : List X) (d value : X) → slot.row < length rows → ((i : ℕ) → get_or row i d ≡ get_or (get_or rows slot.row []) i d) → (other : Slot) → same_slot slot other ≡ false → get_or (get_or (set rows slot.row (set row slot.number value)) other.row []) other.number d ≡ get_or (get_or rows other.row []) other.number d
put_other rows slot row d value there same other apart = elim (cases_eq other.row slot.row) [
  | inr away ↦ ap (λ r. get_or r other.number d) (get_or-set_other rows slot.row other.row (set row slot.number value) [] away)
  | inl here ↦ elim (cases_eq other.number slot.number) [
    | inr away ↦
        ap (λ n. get_or (get_or (set rows slot.row (set row slot.number value)) n []) other.number d) here
        ∙ (ap (λ r. get_or r other.number d) (get_or-set_same rows slot.row (set row slot.number value) [] there)
        ∙ (get_or-set_other row slot.number other.number value d away
        ∙ (same other.number ∙ ap (λ n. get_or (get_or rows n []) other.number d) (sym here))))
    | inl number ↦ absurd (true≢false (sym (elim (cases_slot slot other) [
      | inl equal ↦ equal.1
      | inr differ ↦ absurd (differ.0 (two_numbers slot other (sym here) (sym number)))
    ]) ∙ apart))
  ]
]

-- what is counted has a row and a number there
pub counted_there : (rows : List (List ℕ)) (slot : Slot) → 0 < counted rows slot → (slot.row < length rows) × (slot.number < length (get_or rows slot.row []))
counted_there rows slot some = (row, number)
  where
    number : slot.number < length (get_or rows slot.row [])
    number = elim (cases_lt slot.number (length (get_or rows slot.row []))) [
      | inl there ↦ there
      | inr past ↦ absurd (let none : counted rows slot ≡ 0 = get_or_past (get_or rows slot.row []) slot.number 0 past in omega arith)
    ]

    row : slot.row < length rows
    row = elim (cases_lt slot.row (length rows)) [
      | inl there ↦ there
      | inr past ↦ absurd (let none : length (get_or rows slot.row []) ≡ 0 = ap length (get_or_past rows slot.row [] past) in let small = number in omega arith)
    ]

-- a slot is given once by itself
pub given_one : (slot other : Slot) → slot ≡ other → is_given (Some slot) other ≡ 1
given_one slot other same = elim (cases_slot slot other) [
  | inl equal ↦ let test : same_slot slot other ≡ true = equal.1 in rw test refl
  | inr apart ↦ absurd (apart.0 same)
]

-- a count in place of another is that of its slot, and the others stay
pub count_put : (rows : List (List ℕ)) (slot : Slot) (numbers : List ℕ) (value : ℕ) → slot.row < length rows → slot.number < length numbers → ((i : ℕ) → get_or numbers i 0 ≡ get_or (get_or rows slot.row []) i 0) → (other : Slot) → ((slot ≡ other) × (is_given (Some slot) other ≡ 1) × (counted (set rows slot.row (set numbers slot.number value)) other ≡ value)) ⊎ ((is_given (Some slot) other ≡ 0) × (counted (set rows slot.row (set numbers slot.number value)) other ≡ counted rows other))
count_put rows slot numbers value there within same other = elim (cases_slot slot other) [
  | inl equal ↦
      let test : same_slot slot other ≡ true = equal.1 in
      inl (equal.0, rw test refl, ap (counted (set rows slot.row (set numbers slot.number value))) (sym equal.0) ∙ put_here rows slot numbers 0 value there within)
  | inr apart ↦ let test : same_slot slot other ≡ false = apart.1 in inr (rw test refl, put_other rows slot numbers 0 value there same other apart.1)
]

-- one more
pub count_raised : (rows : List (List ℕ)) (slot : Slot) (row : List ℕ) (value : ℕ) → slot.row < length rows → slot.number < length row → ((i : ℕ) → get_or row i 0 ≡ get_or (get_or rows slot.row []) i 0) → value ≡ counted rows slot + 1 → (other : Slot) → counted (set rows slot.row (set row slot.number value)) other ≡ counted rows other + is_given (Some slot) other
count_raised rows slot row value there within same is other = elim (count_put rows slot row value there within same other) [
  | inl equal ↦ let old : counted rows slot ≡ counted rows other = ap (counted rows) equal.0 in let one = equal.1 in let new = equal.2 in omega arith
  | inr apart ↦ let none = apart.0 in let new = apart.1 in omega arith
]

-- one less
pub count_lowered : (rows : List (List ℕ)) (slot : Slot) (row : List ℕ) (value : ℕ) → slot.row < length rows → slot.number < length row → ((i : ℕ) → get_or row i 0 ≡ get_or (get_or rows slot.row []) i 0) → value + 1 ≡ counted rows slot → (other : Slot) → counted rows other ≡ counted (set rows slot.row (set row slot.number value)) other + is_given (Some slot) other
count_lowered rows slot row value there within same is other = elim (count_put rows slot row value there within same other) [
  | inl equal ↦ let old : counted rows slot ≡ counted rows other = ap (counted rows) equal.0 in let one = equal.1 in let new = equal.2 in omega arith
  | inr apart ↦ let none = apart.0 in let new = apart.1 in omega arith
]

-- the same where the rows are vectors
module _ {Z : Type 0} (rows : List (Vec ℕ Z)) (slot : Slot) (some : 0 < counted (rows_of rows) slot) where
  pub count_there : slot.row < length rows
  count_there = simp length-map at (counted_there (rows_of rows) slot some).0

  -- and the vector in that row
  module _ (row : Vec ℕ Z) (read : row ≡ get_or rows slot.row row) where
    pub count_row : get_or (rows_of rows) slot.row [] ≡ row.items
    count_row = get_or-map (λ r. r.items) rows slot.row row [] count_there ∙ ap (λ r. r.items) (sym read)

    pub count_within : slot.number < length row.items
    count_within = let within = (counted_there (rows_of rows) slot some).1 in let same = ap length count_row in omega arith

    pub count_read : (count : ℕ) → count ≡ get_or row.items slot.number count → counted (rows_of rows) slot ≡ count
    count_read count is = ap (λ r. get_or r slot.number 0) count_row ∙ sym (get_or_read row.items slot.number count count_within is 0)

    -- with one less there
    pub count_taken : (count : ℕ) → count ≡ get_or row.items slot.number count → (other : Slot) → counted (rows_of rows) other ≡ counted (rows_of (set rows slot.row (with_item row slot.number (count - 1)))) other + is_given (Some slot) other
    count_taken count is other =
        let written = map-set (λ r. r.items) rows slot.row (with_item row slot.number (count - 1)) in
        let there : slot.row < length (rows_of rows) = (counted_there (rows_of rows) slot some).0 in
        let same : (i : ℕ) → get_or row.items i 0 ≡ get_or (get_or (rows_of rows) slot.row []) i 0 = λ i. ap (λ r. get_or r i 0) (sym count_row) in
        let less : count - 1 + 1 ≡ counted (rows_of rows) slot = (let read = count_read count is in let above = some in omega arith) in
        count_lowered (rows_of rows) slot row.items (count - 1) there count_within same less other ∙ ap (λ t. counted t other + is_given (Some slot) other) (sym written)

-- a longer row with the same counts, in place of that row
module _ {Z : Type 0} (rows : List (Vec ℕ Z)) (slot : Slot) (row grown : Vec ℕ Z) (there : slot.row < length rows) (read : row ≡ get_or rows slot.row row) where
  pub grown_row : get_or (rows_of (set rows slot.row grown)) slot.row [] ≡ grown.items
  grown_row = ap (λ all. get_or all slot.row []) (map-set (λ r. r.items) rows slot.row grown) ∙ get_or-set_same (rows_of rows) slot.row grown.items [] (simp length-map there)

  pub grown_same : ((i : ℕ) → get_or grown.items i 0 ≡ get_or row.items i 0) → (at : Slot) → counted (rows_of (set rows slot.row grown)) at ≡ counted (rows_of rows) at
  grown_same same at = elim (cases_eq at.row slot.row) [
    | inl here ↦
        ap (λ n. get_or (get_or (rows_of (set rows slot.row grown)) n []) at.number 0) here
        ∙ (ap (λ numbers. get_or numbers at.number 0) grown_row
        ∙ (same at.number
        ∙ (ap (λ numbers. get_or numbers at.number 0) (sym (get_or-map (λ r. r.items) rows slot.row row [] there ∙ ap (λ r. r.items) (sym read)))
        ∙ ap (λ n. get_or (get_or (rows_of rows) n []) at.number 0) (sym here))))
    | inr apart ↦
        ap (λ all. get_or (get_or all at.row []) at.number 0) (map-set (λ r. r.items) rows slot.row grown)
        ∙ ap (λ numbers. get_or numbers at.number 0) (get_or-set_other (rows_of rows) slot.row at.row grown.items [] apart)
  ]

-- where there is a number for the slot
module _ {Z : Type 0} (rows : List (Vec ℕ Z)) (slot : Slot) (has : HasNumber (rows_of rows) slot) where
  pub number_row : slot.row < length rows
  number_row = elim (cases_lt slot.row (length rows)) [
    | inl there ↦ there
    | inr past ↦ absurd (
        let past_all : length (rows_of rows) ≤ slot.row = simp length-map past in
        let none : length (get_or (rows_of rows) slot.row []) ≡ 0 = ap length (get_or_past (rows_of rows) slot.row [] past_all) in
        let some = has in
        omega arith)
  ]

  pub number_within : (row : Vec ℕ Z) → row ≡ get_or rows slot.row row → slot.number < length row.items
  number_within row read =
      let here : get_or (rows_of rows) slot.row [] ≡ row.items = get_or-map (λ r. r.items) rows slot.row row [] number_row ∙ ap (λ r. r.items) (sym read) in
      let same = ap length here in
      let some = has in
      omega arith

-- one more where the row has room by now
pub count_added : {Z : Type 0} (rows : List (Vec ℕ Z)) (slot : Slot) (row grown : Vec ℕ Z) (count : ℕ) → slot.row < length rows → row ≡ get_or rows slot.row row → slot.number < length grown.items → ((i : ℕ) → get_or grown.items i 0 ≡ get_or row.items i 0) → count ≡ get_or grown.items slot.number count → (count ≡ counted (rows_of rows) slot) × ((other : Slot) → counted (rows_of (set rows slot.row (with_item grown slot.number (count + 1)))) other ≡ counted (rows_of rows) other + is_given (Some slot) other)
count_added {Z} rows slot row grown count there read within same is = (value, λ other. ap (λ t. counted t other) written ∙ count_raised (rows_of rows) slot grown.items (count + 1) inside within was (ap (λ n. n + 1) value) other)
  where
    here : get_or (rows_of rows) slot.row [] ≡ row.items
    here = get_or-map (λ r. r.items) rows slot.row row [] there ∙ ap (λ r. r.items) (sym read)

    was : (i : ℕ) → get_or grown.items i 0 ≡ get_or (get_or (rows_of rows) slot.row []) i 0
    was i = same i ∙ ap (λ r. get_or r i 0) (sym here)

    value : count ≡ counted (rows_of rows) slot
    value = get_or_read grown.items slot.number count within is 0 ∙ was slot.number

    inside : slot.row < length (rows_of rows)
    inside = simp length-map there

    written : rows_of (set rows slot.row (with_item grown slot.number (count + 1))) ≡ set (rows_of rows) slot.row (set grown.items slot.number (count + 1))
    written = map-set (λ r. r.items) rows slot.row (with_item grown slot.number (count + 1))

-- a row of zeros more counts nothing
pub zeros_row : (rows : List (List ℕ)) (count : ℕ) (slot : Slot) → counted (rows ++ replicate count 0 ∷ []) slot ≡ counted rows slot
zeros_row rows count slot = elim (cases_lt slot.row (length rows)) [
  | inl before ↦ ap (λ row. get_or row slot.number 0) (get_or_append_left rows (replicate count 0 ∷ []) [] slot.row before)
  | inr after ↦ elim (cases_eq slot.row (length rows)) [
    | inl same ↦
        ap (λ row. get_or row slot.number 0) (get_or_push rows (replicate count 0) [] slot.row (sym same))
        ∙ (zeros_read count slot.number ∙ sym (ap (λ row. get_or row slot.number 0) (get_or_past rows slot.row [] after)))
    | inr apart ↦
        ap (λ row. get_or row slot.number 0) (get_or_past (rows ++ replicate count 0 ∷ []) slot.row [] (past after apart))
        ∙ sym (ap (λ row. get_or row slot.number 0) (get_or_past rows slot.row [] after))
  ]
]
  where
    zero_row : ℕ → List ℕ
    zero_row n = replicate n 0

    zeros_read : (n i : ℕ) → get_or (zero_row n) i 0 ≡ zero
    zeros_read zero i = refl
    zeros_read (suc n) zero = refl
    zeros_read (suc n) (suc i) = zeros_read n i

    past : length rows ≤ slot.row → (slot.row ≡ length rows → ⊥) → length (rows ++ replicate count 0 ∷ []) ≤ slot.row
    past after apart = elim (cases_lt (length rows) slot.row) [
      | inl less ↦ let more = length_push rows (replicate count 0) in omega arith
      | inr equal ↦ absurd (apart (omega arith))
    ]
