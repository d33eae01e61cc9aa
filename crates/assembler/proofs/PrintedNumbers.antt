-- Numbers that are printed in decimal digits are read as the same numbers, and the names made of them are names.
use Rattle.std.proofs.Common.{◌≡◌, ◌≢◌, ℕ, ◌+◌, ◌-◌, ◌*◌, ◌/◌, ◌%◌, ◌^◌, ◌<◌, ◌≤◌, ◌==◌, Bool, true, false, nat_lt, List, [], ◌∷◌, ◌++◌, length, Some, decimal, refl, ap, ◌∙◌, arith, ne_eqb, lt-ltb, le-ltb}
use Rattle.std.proofs.lemmas.Bool.{and_parts, and_from, false_from_ne_true}
use Rattle.std.proofs.lemmas.Bool.Decides.{nat_tests}
use Rattle.std.proofs.lemmas.Fmt.{decimal_by_steps, decimal_injective, decimal_nonempty, length-decimal-le}
use Rattle.std.proofs.lemmas.Slice.Eq.{bytes_eq-Decides}
use Rattle.std.specs.Char.{is_ascii_digit}
use Rattle.std.specs.List.{list_all}
use Rattle.std.specs.Option.{option_and_then}
use Rattle.std.specs.Str.{bytes_eq}
use Rattle.stride_isa.specs.Names.{is_name, continues_name}
use Rattle.assembler.specs.Canonical.{label_name}
use Rattle.assembler.specs.Numbers.{digits_after, below, number}
use Rattle.assembler.proofs.PrintedWords.{is_word, is_solid, list_all-append, list_all-weaker}

-- these bytes are digits that have this value
record AreDigitsOf (n : ℕ) (digits : List ℕ) : Type 0 where
  value : digits_after 0 digits ≡ Some n
  each : list_all is_ascii_digit digits ≡ true

-- one more digit makes the value ten times as large, and adds its own
digits_after-push : (value : ℕ) (digits : List ℕ) (byte n : ℕ) → digits_after value digits ≡ Some n → is_ascii_digit byte ≡ true → list_all is_ascii_digit digits ≡ true → digits_after value (digits ++ byte ∷ []) ≡ Some (n * 10 + (byte - 48))
digits_after-push value [] byte n is digit all =
    let same : value ≡ n = cc in rw (digit, same) refl
digits_after-push value (first ∷ digits) byte n is digit all =
    let both = and_parts (is_ascii_digit first) (list_all is_ascii_digit digits) all in
    let first_digit = both.0 in
    let rest : digits_after (value * 10 + (first - 48)) digits ≡ Some n = rw first_digit at is in
    rw first_digit (digits_after-push (value * 10 + (first - 48)) digits byte n rest digit both.1)

-- the byte that is printed of a number below ten is a digit
is_digit-below_ten : (n : ℕ) → n < 10 → is_ascii_digit (48 + n) ≡ true
is_digit-below_ten n small = grind (arith, nat_tests)

-- a number below ten is one digit
one_digit : (n : ℕ) → n < 10 → AreDigitsOf n ((48 + n) ∷ [])
one_digit n small =
    let digit = is_digit-below_ten n small in
    let same : 0 * 10 + (48 + n - 48) ≡ n = omega arith in
    record { value = rw digit (ap (λ m. Some m) same); each = and_from (is_ascii_digit (48 + n)) true digit refl }

-- a number of ten or more is the digits of its tenth and one more
more_digits : (n : ℕ) (digits : List ℕ) → 10 ≤ n → AreDigitsOf (n / 10) digits → AreDigitsOf n (digits ++ (48 + n % 10) ∷ [])
more_digits n digits large front =
    let small : n % 10 < 10 = omega arith in
    let digit = is_digit-below_ten (n % 10) small in
    let same : n / 10 * 10 + (48 + n % 10 - 48) ≡ n = omega arith in
    record {
      value = digits_after-push 0 digits (48 + n % 10) (n / 10) front.value digit front.each ∙ ap (λ m. Some m) same;
      each = list_all-append is_ascii_digit digits ((48 + n % 10) ∷ []) front.each (and_from (is_ascii_digit (48 + n % 10)) true digit refl);
    }

-- the digits that are printed of a number have its value
are_digits : (n : ℕ) → n < 2 ^ 64 → AreDigitsOf n (decimal n)
are_digits n small = decimal_by_steps AreDigitsOf one_digit more_digits n small

-- digits of a value below the limit are read as the value
number_from_digits : (limit n : ℕ) (digits : List ℕ) → n < limit → digits_after 0 digits ≡ Some n → 0 < length digits → number limit digits ≡ Some n
number_from_digits limit n [] room is some = absurd (omega arith)
number_from_digits limit n (byte ∷ bytes) room is some =
    let inside : nat_lt n limit ≡ true = lt-ltb n limit room in
    ap (λ value. option_and_then (below limit) value) is ∙ rw inside refl

-- what is printed of a number is read as the number
pub number-decimal : (limit n : ℕ) → n < limit → n < 2 ^ 64 → number limit (decimal n) ≡ Some n
number-decimal limit n room small =
    number_from_digits limit n (decimal n) room (are_digits n small).value (decimal_nonempty n small)

-- a byte that passes a test is none that fails it
apart_from : (test : ℕ → Bool) (other : ℕ) → test other ≡ false → (byte : ℕ) → test byte ≡ true → (byte == other) ≡ false
apart_from test other fails byte passes =
    ne_eqb byte other (λ same. let e : test byte ≡ test other = ap test same in cc)

-- a byte of a name is solid
pub solid_from_name : (byte : ℕ) → continues_name byte ≡ true → is_solid byte ≡ true
solid_from_name byte continues =
    let feed = apart_from continues_name 10 refl byte continues in
    let hash = apart_from continues_name 35 refl byte continues in
    let space = apart_from continues_name 32 refl byte continues in
    let tab = apart_from continues_name 9 refl byte continues in
    let carriage_return = apart_from continues_name 13 refl byte continues in
    rw (feed, hash, space, tab, carriage_return) refl

-- one or more bytes of a name are a word
word_from_name_bytes : (bytes : List ℕ) → 0 < length bytes → list_all continues_name bytes ≡ true → is_word bytes ≡ true
word_from_name_bytes [] some all = absurd (omega arith)
word_from_name_bytes (byte ∷ bytes) some all = list_all-weaker continues_name is_solid solid_from_name (byte ∷ bytes) all

-- a digit stands in names
name_from_digit : (byte : ℕ) → is_ascii_digit byte ≡ true → continues_name byte ≡ true
name_from_digit byte digit = rw digit refl

-- the digits of a number stand in names
pub name_bytes-decimal : (n : ℕ) → n < 2 ^ 64 → list_all continues_name (decimal n) ≡ true
name_bytes-decimal n small = list_all-weaker is_ascii_digit continues_name name_from_digit (decimal n) (are_digits n small).each

-- the digits of a number are a word
pub is_word-decimal : (n : ℕ) → n < 2 ^ 64 → is_word (decimal n) ≡ true
is_word-decimal n small = word_from_name_bytes (decimal n) (decimal_nonempty n small) (name_bytes-decimal n small)

-- a letter and at most 31 bytes of a name are a name
is_name-letter : (bytes : List ℕ) → length bytes ≤ 31 → list_all continues_name bytes ≡ true → is_name (76 ∷ bytes) ≡ true
is_name-letter bytes short all =
    let fits : nat_lt 32 (length (76 ∷ bytes)) ≡ false = le-ltb 32 (length (76 ∷ bytes)) (omega arith) in
    let some : (length (76 ∷ bytes) == 0) ≡ false = ne_eqb (length (76 ∷ bytes)) 0 (λ none. omega arith) in
    rw (some, fits, all) refl

-- the name of a label is a name
pub is_name-label : (at : ℕ) → at < 2 ^ 64 → is_name (label_name at) ≡ true
is_name-label at small =
    is_name-letter (decimal at) (length-decimal-le 31 at (omega arith) (omega arith) small) (name_bytes-decimal at small)

-- the names of two labels are alike only at one position
same_from_label_name : (at other : ℕ) → at < 2 ^ 64 → other < 2 ^ 64 → label_name at ≡ label_name other → at ≡ other
same_from_label_name at other small small_other same =
    let digits : decimal at ≡ decimal other = cc in decimal_injective at other small small_other digits

-- a text is equal to itself
pub bytes_eq-same : (bytes : List ℕ) → bytes_eq bytes bytes ≡ true
bytes_eq-same bytes = (bytes_eq-Decides bytes bytes).1 refl

-- the labels of two positions are told apart
pub label_name-apart : (at other : ℕ) → at < 2 ^ 64 → other < 2 ^ 64 → at ≢ other → bytes_eq (label_name at) (label_name other) ≡ false
label_name-apart at other small small_other differ =
    false_from_ne_true (bytes_eq (label_name at) (label_name other)) (λ same. differ (same_from_label_name at other small small_other ((bytes_eq-Decides (label_name at) (label_name other)).0 same)))
