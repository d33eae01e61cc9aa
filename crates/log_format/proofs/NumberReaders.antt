-- The readers of numbers in both versions, of the text, and of the magic bytes.
use Rattle.std.proofs.Common.{◌≡◌, ℕ, ◌-◌, ◌≤◌, ◌<◌, Bool, true, false, ltb, eqb, cond, ◌⊎◌, List, [], ◌∷◌, ◌++◌, length, replicate, Result, Ok, Err, refl, sym, ap, subst, ◌∙◌, arith, inl, inr, length-append}
use Rattle.std.proofs.lemmas.Bool.{ltb-false, le-ltb, eqb-true, eqb-false, ne_eqb}
use Rattle.std.proofs.lemmas.Bool.Decides.{nat_tests}
use Rattle.std.proofs.lemmas.List.{append-nil, length-replicate}
use Rattle.stride_isa.specs.Limits.{fuel_limit}
use Rattle.log_format.specs.declared.fault.Fault.{Fault}
use Rattle.log_format.specs.declared.format_error.FormatKind.TheVariants.{BadMagic, BadCount}
use Rattle.log_format.specs.declared.version.Size.{Size}
use Rattle.log_format.specs.declared.version.Size.TheVariants.{Bits16, Bits32, Bits64}
use Rattle.log_format.specs.declared.version.Version.{Version}
use Rattle.log_format.specs.declared.version.Version.TheVariants.{One, Two}
use Rattle.log_format.specs.Bundles.{IsBytes}
use Rattle.log_format.specs.Laws.{IsUnfinished}
use Rattle.log_format.specs.Reading.{◌>>=◌, short, fault, byte_at, letter_at, letters_at, version_at, magic_at, grouped_at, limited, number_at, number_up_to, fuel_at, bytes_at, text_at}
use Rattle.log_format.specs.Spelling.{digit, greatest, magic, number_bytes, stride, text_bytes}
use Rattle.log_format.proofs.Bytes.{IsBytes-take, IsBytes-of_zeros, IsBytes-zeros}
use Rattle.log_format.proofs.Groups.{IsGrouped, grouped_reads, grouped_of_nothing, grouped_begins, groups_are_some}
use Rattle.log_format.proofs.Readers.{chosen, guard_ok, guard_passed, given, failed, ok_is, err_is, ok_fails, Leaves, Takes, Reads, Begins, Unfinished, IsSome, begins_as_number, reads_as, begins_as, IsDone, reads_done, begins_done, Joined, reads_then, begins_then, Judged, Verdict, refusing, tested, reads_judged, unfinished_judged}
use Rattle.log_format.proofs.Wide.{piece_again, piece_read, piece_leaves, piece_short, wide_reads, wide_of_nothing, wide_is_some, wide_begins}

-- ---- numbers

-- what has an element is not empty
pub not_empty : (bytes : List ℕ) → 0 < length bytes → ¬ (bytes ≡ [])
not_empty bytes some e = omega (arith, ap length e)

-- a number that is at most the limit
abbrev pub IsLimited : (ℕ → List ℕ → Type 0) → ℕ → ℕ → List ℕ → Type 0
IsLimited Is limit n text = Is n text × (n ≤ limit)

module _ (limit : ℕ) (read : List ℕ → Result (ℕ × List ℕ) Fault) (Is : ℕ → List ℕ → Type 0) where
  -- the number where it is within the limit
  abbrev within : ℕ → List ℕ → List ℕ → Result (ℕ × List ℕ) Fault
  within n bytes rest = refusing BadCount (ltb limit n) n bytes rest

  to_limited : (n : ℕ) (text : List ℕ) → Judged Is within n text → IsLimited Is limit n text
  to_limited n text j =
      let g = guard_ok (ltb limit j.value) (fault BadCount []) (given (j.value, [])) (n, []) (j.passes [] []) in
      let same : j.value ≡ n = ap (λ (p : ℕ × List ℕ). p.0) (ok_is (j.value, []) (n, []) g.1) in
      subst (λ m. IsLimited Is limit m text) same (j.is, ltb-false _ _ g.0)

  from_limited : (n : ℕ) (text : List ℕ) → IsLimited Is limit n text → Judged Is within n text
  from_limited n text is = record { value = n; is = is.0; passes = λ bytes rest. ap (λ b. refusing BadCount b n bytes rest) (le-ltb limit n is.1) }

  pub limited_reads : read [] ≡ Err short → Reads read Is → Reads (limited limit read) (IsLimited Is limit)
  limited_reads nothing reads = reads_as (limited limit read) (Judged Is within) (IsLimited Is limit) to_limited from_limited (reads_judged read within Is BadCount tt (λ n. tested BadCount (ltb limit n) n) nothing reads)

  pub limited_unfinished : (Part : List ℕ → Type 0) → Unfinished read Part → Unfinished (limited limit read) Part
  limited_unfinished Part = unfinished_judged read within Is BadCount tt (λ n. tested BadCount (ltb limit n) n) Part

  pub limited_of_nothing : read [] ≡ Err short → limited limit read [] ≡ Err short
  limited_of_nothing nothing = ap (λ (r : Result (ℕ × List ℕ) Fault). r >>= λ n. cond (ltb limit n.0) (Err (fault BadCount [])) (Ok n)) nothing

-- how a number of this size is spelled
abbrev pub IsNumber : Version → Size → ℕ → List ℕ → Type 0
IsNumber version size n text = (n ≤ greatest size) × (text ≡ number_bytes version size n)

at_most_64 : (size : Size) → greatest size ≤ greatest Bits64
at_most_64 Bits16 = omega arith
at_most_64 Bits32 = omega arith
at_most_64 Bits64 = omega arith

pub number_reads : (version : Version) (size : Size) → Reads (number_at version size) (IsNumber version size)
unfolding number_at
number_reads One size = wide_reads size
number_reads Two size =
    reads_as (limited (greatest size) grouped_at) (IsLimited IsGrouped (greatest size)) (IsNumber Two size) (λ n text is. (is.1, is.0.1)) (λ n text is. (let low : n ≤ greatest Bits64 = omega (arith, is.0, at_most_64 size) in ((low, is.1), is.0)))
    (limited_reads (greatest size) grouped_at IsGrouped grouped_of_nothing grouped_reads)

pub number_of_nothing : (version : Version) (size : Size) → number_at version size [] ≡ Err short
unfolding number_at
number_of_nothing One size = wide_of_nothing size
number_of_nothing Two size = limited_of_nothing (greatest size) grouped_at IsGrouped grouped_of_nothing

pub number_unfinished : (version : Version) (size : Size) → Unfinished (number_at version size) (IsUnfinished version)
unfolding number_at
number_unfinished One size bytes fits e =
    let h = wide_begins size bytes fits e in
    record { size = size; number = h.0; missing = h.1; fits = h.2; some = not_empty h.1 h.3; whole = h.4 }
number_unfinished Two size bytes fits e =
    limited_unfinished (greatest size) grouped_at IsGrouped (IsUnfinished Two)
    (λ bytes fits e. (let h = grouped_begins bytes fits e in record { size = Bits64; number = h.0; missing = h.1; fits = h.2; some = not_empty h.1 h.3; whole = h.4 }))
    bytes fits e

pub number_is_some : (version : Version) (size : Size) (n : ℕ) → 0 < length (number_bytes version size n)
number_is_some One size n = wide_is_some size n
number_is_some Two size n = groups_are_some 9 n

-- a number
pub a_number : (version : Version) (size : Size) → IsSome (IsNumber version size)
a_number version size = record { value = 0; text = number_bytes version size 0; is = (omega arith, refl) }

pub number_begins : (version : Version) (size : Size) → Begins (number_at version size) (IsNumber version size) (IsUnfinished version)
unfolding a_number
number_begins version size = begins_as_number (number_at version size) (IsNumber version size) (IsUnfinished version) (a_number version size) (number_is_some version size 0) (number_unfinished version size)

-- nothing of a number is not all of it
pub none_unfinished : (version : Version) → IsUnfinished version []
none_unfinished version = record {
  size = Bits16;
  number = 0;
  missing = number_bytes version Bits16 0;
  fits = omega arith;
  some = not_empty (number_bytes version Bits16 0) (number_is_some version Bits16 0);
  whole = refl;
}

-- a number up to a limit
abbrev pub IsUpTo : Version → Size → ℕ → ℕ → List ℕ → Type 0
IsUpTo version size limit = IsLimited (IsNumber version size) limit

pub up_to_reads : (version : Version) (size : Size) (limit : ℕ) → Reads (number_up_to version size limit) (IsUpTo version size limit)
unfolding number_up_to
up_to_reads version size limit = limited_reads limit (number_at version size) (IsNumber version size) (number_of_nothing version size) (number_reads version size)

pub up_to_unfinished : (version : Version) (size : Size) (limit : ℕ) → Unfinished (number_up_to version size limit) (IsUnfinished version)
unfolding number_up_to
up_to_unfinished version size limit = limited_unfinished limit (number_at version size) (IsNumber version size) (IsUnfinished version) (number_unfinished version size)

-- a number up to a limit
pub a_limited : (version : Version) (size : Size) (limit : ℕ) → IsSome (IsUpTo version size limit)
a_limited version size limit = record { value = 0; text = number_bytes version size 0; is = ((omega arith, refl), omega arith) }

pub up_to_begins : (version : Version) (size : Size) (limit : ℕ) → Begins (number_up_to version size limit) (IsUpTo version size limit) (IsUnfinished version)
unfolding a_limited
up_to_begins version size limit =
    begins_as_number (number_up_to version size limit) (IsUpTo version size limit) (IsUnfinished version) (a_limited version size limit) (number_is_some version size 0) (up_to_unfinished version size limit)

-- ---- the bound on the instructions

-- the text is the bytes of a bound on the instructions
abbrev pub IsFuel : Version → ℕ → List ℕ → Type 0
IsFuel version n text = (1 ≤ n) × (n ≤ fuel_limit) × (text ≡ number_bytes version Bits32 n)

-- the bound where it is not 0
abbrev some_fuel : ℕ → List ℕ → List ℕ → Result (ℕ × List ℕ) Fault
some_fuel n bytes rest = refusing BadCount (eqb n 0) n bytes rest

to_fuel : (version : Version) (n : ℕ) (text : List ℕ) → Judged (IsUpTo version Bits32 fuel_limit) some_fuel n text → IsFuel version n text
to_fuel version n text j =
    let g = guard_ok (eqb j.value 0) (fault BadCount []) (given (j.value, [])) (n, []) (j.passes [] []) in
    let same : j.value ≡ n = ap (λ (p : ℕ × List ℕ). p.0) (ok_is (j.value, []) (n, []) g.1) in
    let some : j.value ≡ 0 → ⊥ = eqb-false _ _ g.0 in
    subst (λ m. IsFuel version m text) same (omega arith, j.is.1, j.is.0.1)

from_fuel : (version : Version) (n : ℕ) (text : List ℕ) → IsFuel version n text → Judged (IsUpTo version Bits32 fuel_limit) some_fuel n text
from_fuel version n text is = record {
  value = n;
  is = ((omega (arith, is.1), is.2), is.1);
  passes = λ bytes rest. ap (λ b. refusing BadCount b n bytes rest) (ne_eqb n 0 (omega (arith, is.0)));
}

up_to_of_nothing : (version : Version) (size : Size) (limit : ℕ) → number_up_to version size limit [] ≡ Err short
unfolding number_up_to
up_to_of_nothing version size limit = limited_of_nothing limit (number_at version size) (IsNumber version size) (number_of_nothing version size)

pub fuel_reads : (version : Version) → Reads (fuel_at version) (IsFuel version)
unfolding fuel_at
fuel_reads version =
    let read = number_up_to version Bits32 fuel_limit in
    reads_as (fuel_at version) (Judged (IsUpTo version Bits32 fuel_limit) some_fuel) (IsFuel version) (to_fuel version) (from_fuel version)
    (reads_judged read some_fuel (IsUpTo version Bits32 fuel_limit) BadCount tt (λ n. tested BadCount (eqb n 0) n) (up_to_of_nothing version Bits32 fuel_limit) (up_to_reads version Bits32 fuel_limit))

fuel_unfinished : (version : Version) → Unfinished (fuel_at version) (IsUnfinished version)
unfolding fuel_at
fuel_unfinished version =
    unfinished_judged (number_up_to version Bits32 fuel_limit) some_fuel (IsUpTo version Bits32 fuel_limit) BadCount tt (λ n. tested BadCount (eqb n 0) n) (IsUnfinished version) (up_to_unfinished version Bits32 fuel_limit)

pub fuel_begins : (version : Version) → Begins (fuel_at version) (IsFuel version) (IsUnfinished version)
fuel_begins version =
    begins_as_number (fuel_at version) (IsFuel version) (IsUnfinished version) (record { value = 1; text = number_bytes version Bits32 1; is = (omega arith, omega arith, refl) }) (number_is_some version Bits32 1) (fuel_unfinished version)

-- ---- the text

-- the text is so many bytes
abbrev IsPiece : ℕ → List ℕ → List ℕ → Type 0
IsPiece n x text = (length x ≡ n) × IsBytes x × (text ≡ x)

bytes_read : (n : ℕ) → Reads (bytes_at n) (IsPiece n)
unfolding bytes_at
bytes_read n = record {
  leaves = piece_leaves n (λ t. t);
  stops = λ bytes wrong e. inl (piece_short n (λ t. t) bytes wrong e).1;
  again = λ x text rest is. piece_again n (λ t. t) text rest (ap length is.2 ∙ is.0) ∙ ap (λ (t : List ℕ). given (t, rest)) is.2;
  takes = λ bytes x rest fits e.
      (let r = piece_read n (λ t. t) bytes x rest e in
      let whole : bytes ≡ x ++ rest = r.2 ∙ ap (λ t. t ++ rest) r.1 in
      record { text = x; is = (sym (ap length r.1) ∙ r.0, subst IsBytes r.1 (IsBytes-take n bytes fits), refl); whole = whole });
}

a_piece : (n : ℕ) → IsSome (IsPiece n)
a_piece n = record { value = replicate n 0; text = replicate n 0; is = (length-replicate n 0, IsBytes-of_zeros n, refl) }

bytes_begin : (version : Version) (n : ℕ) → Begins (bytes_at n) (IsPiece n) (IsUnfinished version)
unfolding bytes_at
bytes_begin version n bytes fits e =
    let few = (piece_short n (λ t. t) bytes short e).0 in
    let missing = replicate (n - length bytes) 0 in
    let long : length (bytes ++ missing) ≡ n = omega (arith, length-append bytes missing, length-replicate {A = ℕ} (n - length bytes) 0) in
    record {
      front = bytes;
      part = [];
      missing = missing;
      value = bytes ++ missing;
      split = sym (append-nil bytes);
      unfinished = none_unfinished version;
      is = (long, IsBytes-zeros (n - length bytes) bytes fits, refl);
      some = omega (arith, length-replicate {A = ℕ} (n - length bytes) 0);
    }

-- the text is the length of a text, and the text itself
abbrev pub IsText : Version → List ℕ → List ℕ → Type 0
IsText version x text = (length x ≤ greatest Bits32) × IsBytes x × (text ≡ text_bytes version x)

to_text : (version : Version) (x text : List ℕ) → Joined (IsNumber version Bits32) IsPiece x text → IsText version x text
to_text version x text j = (
  omega (arith, j.first.0, j.second.0),
  j.second.1,
  j.whole ∙ ap (λ t. t ++ j.two) j.first.1 ∙ ap (λ t. number_bytes version Bits32 j.value ++ t) j.second.2 ∙ ap (λ n. number_bytes version Bits32 n ++ x) (sym j.second.0),
)

from_text : (version : Version) (x text : List ℕ) → IsText version x text → Joined (IsNumber version Bits32) IsPiece x text
from_text version x text is = record { value = length x; one = number_bytes version Bits32 (length x); two = x; first = (is.0, refl); second = (refl, is.1, refl); whole = is.2 }

-- the reader of the bytes after their number
abbrev next_bytes : ℕ × List ℕ → Result (List ℕ × List ℕ) Fault
next_bytes n = bytes_at n.0 n.1

pub text_reads : (version : Version) → Reads (text_at version) (IsText version)
unfolding text_at
text_reads version =
    reads_as (text_at version) (Joined (IsNumber version Bits32) IsPiece) (IsText version) (to_text version) (from_text version) (reads_then (number_at version Bits32) next_bytes (IsNumber version Bits32) IsPiece (number_reads version Bits32) bytes_read)

pub text_begins : (version : Version) → Begins (text_at version) (IsText version) (IsUnfinished version)
unfolding text_at
text_begins version =
    begins_as (text_at version) (Joined (IsNumber version Bits32) IsPiece) (IsText version) (to_text version) (IsUnfinished version)
    (begins_then (number_at version Bits32) next_bytes (IsNumber version Bits32) IsPiece (number_reads version Bits32) (IsUnfinished version) (number_begins version Bits32) (λ n text is. bytes_begin version n) (λ n text is. a_piece n))

-- ---- one byte

-- how a byte is spelled
abbrev pub IsByte : ℕ → List ℕ → Type 0
IsByte byte text = text ≡ byte ∷ []

byte_leaves : (bytes : List ℕ) (x : ℕ) (rest : List ℕ) → byte_at bytes ≡ Ok (x, rest) → Leaves byte_at bytes x rest
byte_leaves [] x rest e = absurd (ok_fails (x, rest) short (sym e))
byte_leaves (byte ∷ bytes) x rest e =
    let same = ok_is (byte, bytes) (x, rest) e in
    record { used = byte ∷ []; whole = ap (λ (p : ℕ × List ℕ). byte ∷ p.1) same; again = λ more. ap (λ (p : ℕ × List ℕ). given (p.0, more)) same }

-- a byte is at fault only where there is none
byte_short : (bytes : List ℕ) (wrong : Fault) → byte_at bytes ≡ Err wrong → (wrong ≡ short) × (bytes ≡ [])
byte_short [] wrong e = (sym (err_is short wrong e), refl)
byte_short (byte ∷ bytes) wrong e = absurd (ok_fails (byte, bytes) wrong e)

byte_takes : (bytes : List ℕ) (x : ℕ) (rest : List ℕ) → byte_at bytes ≡ Ok (x, rest) → Takes IsByte bytes x rest
byte_takes [] x rest e = absurd (ok_fails (x, rest) short (sym e))
byte_takes (byte ∷ bytes) x rest e =
    let same = ok_is (byte, bytes) (x, rest) e in
    record { text = x ∷ []; is = refl; whole = ap (λ (p : ℕ × List ℕ). p.0 ∷ p.1) same }

pub byte_reads : Reads byte_at IsByte
byte_reads = record {
  leaves = byte_leaves;
  stops = λ bytes wrong e. inl (byte_short bytes wrong e).0;
  again = λ x text rest is. ap (λ t. byte_at (t ++ rest)) is;
  takes = λ bytes x rest fits e. byte_takes bytes x rest e;
}

-- a byte is short only of nothing
pub byte_unfinished : (Part : List ℕ → Type 0) → Part [] → Unfinished byte_at Part
byte_unfinished Part none bytes fits e = subst Part (sym (byte_short bytes short e).1) none

-- ---- the magic bytes

-- the text is the wanted letters
abbrev pub IsLetters : List ℕ → Unit {0} → List ℕ → Type 0
IsLetters wanted x text = text ≡ wanted

-- nothing of a number
abbrev pub IsNothing : List ℕ → Type 0
IsNothing part = part ≡ []

-- a test, which keeps or refuses
abbrev keeping : {A : Type 0} → Bool → A → List ℕ → List ℕ → Result (A × List ℕ) Fault
keeping b x bytes rest = cond b (Ok (x, rest)) (Err (fault BadMagic bytes))

kept : {A : Type 0} (b : Bool) (x : A) → ((bytes rest : List ℕ) → keeping b x bytes rest ≡ Err (fault BadMagic bytes)) ⊎ ((y : A) × ((bytes rest : List ℕ) → keeping b x bytes rest ≡ Ok (y, rest)))
kept true x = inr (x, λ bytes rest. refl)
kept false x = inl (λ bytes rest. refl)

-- a byte that is the wanted letter, or is refused
abbrev wanted_letter : ℕ → ℕ → List ℕ → List ℕ → Result (Unit {0} × List ℕ) Fault
wanted_letter want byte bytes rest = keeping (eqb byte want) tt bytes rest

same_byte : (byte : ℕ) → eqb byte byte ≡ true
same_byte byte = grind (arith, nat_tests)

letter_reads : (want : ℕ) → Reads (letter_at want) (IsLetters (want ∷ []))
unfolding letter_at
letter_reads want =
    reads_as (letter_at want) (Judged IsByte (wanted_letter want)) (IsLetters (want ∷ []))
    (λ x text j. (let g = guard_passed (eqb j.value want) (fault BadMagic []) (given (tt, [])) (x, []) (j.passes [] []) in j.is ∙ ap (λ b. b ∷ []) (eqb-true _ _ g.0)))
    (λ x text is. record { value = want; is = is; passes = λ bytes rest. ap (λ b. keeping b x bytes rest) (same_byte want) })
    (reads_judged byte_at (wanted_letter want) IsByte BadMagic tt (λ byte. kept (eqb byte want) tt) refl byte_reads)

letter_begins : (want : ℕ) → Begins (letter_at want) (IsLetters (want ∷ [])) IsNothing
unfolding letter_at
letter_begins want =
    begins_as_number (letter_at want) (IsLetters (want ∷ [])) IsNothing (record { value = tt; text = want ∷ []; is = refl }) (omega arith)
    (unfinished_judged byte_at (wanted_letter want) IsByte BadMagic tt (λ byte. kept (eqb byte want) tt) IsNothing (byte_unfinished IsNothing refl))

-- the reader of the letters after the first
abbrev next_letters : List ℕ → Unit {0} × List ℕ → Result (Unit {0} × List ℕ) Fault
next_letters wanted first = letters_at wanted first.1

to_letters : (want : ℕ) (wanted : List ℕ) (x : Unit {0}) (text : List ℕ) → Joined (IsLetters (want ∷ [])) (λ first. IsLetters wanted) x text → IsLetters (want ∷ wanted) x text
to_letters want wanted x text j = j.whole ∙ ap (λ t. t ++ j.two) j.first ∙ ap (λ t. want ∷ t) j.second

from_letters : (want : ℕ) (wanted : List ℕ) (x : Unit {0}) (text : List ℕ) → IsLetters (want ∷ wanted) x text → Joined (IsLetters (want ∷ [])) (λ first. IsLetters wanted) x text
from_letters want wanted x text is = record { value = tt; one = want ∷ []; two = wanted; first = refl; second = refl; whole = is }

letters_read : (wanted : List ℕ) → Reads (letters_at wanted) (IsLetters wanted)
unfolding letters_at
letters_read [] = reads_as (letters_at []) (IsDone tt) (IsLetters []) (λ x text is. is.1) (λ x text is. (refl, is)) (reads_done tt)
letters_read (want ∷ wanted) =
    reads_as (letters_at (want ∷ wanted)) (Joined (IsLetters (want ∷ [])) (λ first. IsLetters wanted)) (IsLetters (want ∷ wanted)) (to_letters want wanted) (from_letters want wanted)
    (reads_then (letter_at want) (next_letters wanted) (IsLetters (want ∷ [])) (λ first. IsLetters wanted) (letter_reads want) (λ first. letters_read wanted))

letters_begin : (wanted : List ℕ) → Begins (letters_at wanted) (IsLetters wanted) IsNothing
unfolding letters_at
letters_begin [] = begins_as (letters_at []) (IsDone tt) (IsLetters []) (λ x text is. is.1) IsNothing (begins_done tt IsNothing)
letters_begin (want ∷ wanted) =
    begins_as (letters_at (want ∷ wanted)) (Joined (IsLetters (want ∷ [])) (λ first. IsLetters wanted)) (IsLetters (want ∷ wanted)) (to_letters want wanted) IsNothing
    (begins_then (letter_at want) (next_letters wanted) (IsLetters (want ∷ [])) (λ first. IsLetters wanted) (letter_reads want) IsNothing (letter_begins want) (λ first text is. letters_begin wanted) (λ first text is. record { value = tt; text = wanted; is = refl }))

-- the text is the digit of the version
abbrev IsDigit : Version → List ℕ → Type 0
IsDigit version text = text ≡ digit version ∷ []

-- the version by which digit it is
abbrev of_digit : Bool → Bool → List ℕ → List ℕ → Result (Version × List ℕ) Fault
of_digit one two bytes rest = cond one (Ok (One, rest)) (cond two (Ok (Two, rest)) (Err (fault BadMagic bytes)))

-- the version by a digit that was read
abbrev known_version : ℕ → List ℕ → List ℕ → Result (Version × List ℕ) Fault
known_version byte bytes rest = of_digit (eqb byte 49) (eqb byte 50) bytes rest

by_digit : (one two : Bool) → ((bytes rest : List ℕ) → of_digit one two bytes rest ≡ Err (fault BadMagic bytes)) ⊎ ((y : Version) × ((bytes rest : List ℕ) → of_digit one two bytes rest ≡ Ok (y, rest)))
by_digit true two = inr (One, λ bytes rest. refl)
by_digit false true = inr (Two, λ bytes rest. refl)
by_digit false false = inl (λ bytes rest. refl)

version_verdict : (byte : ℕ) → Verdict BadMagic known_version byte
version_verdict byte = by_digit (eqb byte 49) (eqb byte 50)

to_version : (x : Version) (text : List ℕ) → Judged IsByte known_version x text → IsDigit x text
to_version x text j =
    elim (chosen (eqb j.value 49) (given (One, [])) (cond (eqb j.value 50) (given (Two, [])) (failed (fault BadMagic []))) (given (x, [])) (j.passes [] [])) [
      | inl one ↦ j.is ∙ ap (λ b. b ∷ []) (eqb-true _ _ one.0) ∙ ap (λ (p : Version × List ℕ). digit p.0 ∷ []) (ok_is (One, []) (x, []) one.1)
      | inr other ↦ (
          let two = guard_passed (eqb j.value 50) (fault BadMagic []) (given (Two, [])) (x, []) other.1 in
          j.is ∙ ap (λ b. b ∷ []) (eqb-true _ _ two.0) ∙ ap (λ (p : Version × List ℕ). digit p.0 ∷ []) (ok_is (Two, []) (x, []) two.1))
    ]

from_version : (x : Version) (text : List ℕ) → IsDigit x text → Judged IsByte known_version x text
from_version One text is = record { value = 49; is = is; passes = λ bytes rest. refl }
from_version Two text is = record { value = 50; is = is; passes = λ bytes rest. refl }

version_reads : Reads version_at IsDigit
unfolding version_at
version_reads = reads_as version_at (Judged IsByte known_version) IsDigit to_version from_version (reads_judged byte_at known_version IsByte BadMagic tt version_verdict refl byte_reads)

version_begins : Begins version_at IsDigit IsNothing
unfolding version_at
version_begins =
    begins_as_number version_at IsDigit IsNothing (record { value = One; text = 49 ∷ []; is = refl }) (omega arith)
    (unfinished_judged byte_at known_version IsByte BadMagic tt version_verdict IsNothing (byte_unfinished IsNothing refl))

-- the text is the magic bytes of the version
abbrev pub IsMagic : Version → List ℕ → Type 0
IsMagic version text = text ≡ magic version

-- what stands after the digit of the version: a line feed
abbrev AfterVersion : Version → Version → List ℕ → Type 0
AfterVersion version = Joined (IsLetters (10 ∷ [])) (λ line_feed. IsDone version)

-- what stands after the letters: the digit, and the line feed
abbrev AfterLetters : Unit {0} → Version → List ℕ → Type 0
AfterLetters letters = Joined IsDigit AfterVersion

-- the reader of the line feed
abbrev to_line_feed : Version × List ℕ → Result (Version × List ℕ) Fault
to_line_feed version = letters_at (10 ∷ []) version.1 >>= λ line_feed. Ok (version.0, line_feed.1)

-- the reader of the digit, and of the line feed
abbrev to_digit : Unit {0} × List ℕ → Result (Version × List ℕ) Fault
to_digit letters = version_at letters.1 >>= to_line_feed

to_magic : (x : Version) (text : List ℕ) → Joined (IsLetters stride) AfterLetters x text → IsMagic x text
to_magic x text j =
    let second = j.second in
    let third = second.second in
    let all : text ≡ stride ++ (digit second.value ∷ 10 ∷ []) =
    j.whole ∙ ap (λ t. t ++ j.two) j.first ∙ ap (λ t. stride ++ t) (second.whole ∙ ap (λ t. t ++ second.two) second.first ∙ ap (λ t. digit second.value ∷ t) (third.whole ∙ ap (λ t. t ++ third.two) third.first ∙ ap (λ t. 10 ∷ t) third.second.1)) in
    all ∙ ap magic (sym third.second.0)

from_magic : (x : Version) (text : List ℕ) → IsMagic x text → Joined (IsLetters stride) AfterLetters x text
from_magic x text is = record {
  value = tt;
  one = stride;
  two = digit x ∷ 10 ∷ [];
  first = refl;
  second = record { value = x; one = digit x ∷ []; two = 10 ∷ []; first = refl; second = record { value = tt; one = 10 ∷ []; two = []; first = refl; second = (refl, refl); whole = refl }; whole = refl };
  whole = is;
}

line_feed_reads : (version : Version) → Reads (λ bytes. to_line_feed (version, bytes)) (AfterVersion version)
line_feed_reads version = reads_then (letters_at (10 ∷ [])) (λ line_feed. Ok (version, line_feed.1)) (IsLetters (10 ∷ [])) (λ line_feed. IsDone version) (letters_read (10 ∷ [])) (λ line_feed. reads_done version)

digit_reads : Reads (λ bytes. to_digit (tt, bytes)) (AfterLetters tt)
digit_reads = reads_then version_at to_line_feed IsDigit AfterVersion version_reads line_feed_reads

pub magic_reads : Reads magic_at IsMagic
unfolding magic_at
magic_reads =
    reads_as magic_at (Joined (IsLetters stride) AfterLetters) IsMagic to_magic from_magic
    (reads_then (letters_at stride) to_digit (IsLetters stride) AfterLetters (letters_read stride) (λ letters. digit_reads))

pub magic_begins : Begins magic_at IsMagic IsNothing
unfolding magic_at
magic_begins =
    begins_as magic_at (Joined (IsLetters stride) AfterLetters) IsMagic to_magic IsNothing
    (begins_then (letters_at stride) to_digit (IsLetters stride) AfterLetters (letters_read stride) IsNothing (letters_begin stride)
    (λ letters text is. begins_then version_at to_line_feed IsDigit AfterVersion version_reads IsNothing version_begins
    (λ version text is. begins_then (letters_at (10 ∷ [])) (λ line_feed. Ok (version, line_feed.1)) (IsLetters (10 ∷ [])) (λ line_feed. IsDone version) (letters_read (10 ∷ [])) IsNothing (letters_begin (10 ∷ []))
    (λ line_feed text is. begins_done version IsNothing) (λ line_feed text is. record { value = version; text = []; is = (refl, refl) }))
    (λ version text is. record { value = version; text = 10 ∷ []; is = record { value = tt; one = 10 ∷ []; two = []; first = refl; second = (refl, refl); whole = refl } }))
    (λ letters text is. record { value = One; text = 49 ∷ 10 ∷ []; is = record { value = One; one = 49 ∷ []; two = 10 ∷ []; first = refl; second = record { value = tt; one = 10 ∷ []; two = []; first = refl; second = (refl, refl); whole = refl }; whole = refl } }))
